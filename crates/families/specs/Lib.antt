pub mod AsRows
pub mod ByRows
