pub mod Table
pub mod Figures
