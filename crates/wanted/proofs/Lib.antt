pub mod Bands
pub mod Least
