pub mod Multiples
pub mod Units
pub mod Rounding
pub mod Figures
