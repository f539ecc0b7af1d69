pub mod Solving
pub mod Hsiao
pub mod Rows
