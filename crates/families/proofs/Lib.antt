pub mod ByRows
pub mod Numbers
pub mod Same
