pub mod Misasked
pub mod Pass
pub mod Asked
