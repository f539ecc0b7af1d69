pub mod Vectors
pub mod Sums
pub mod Exactly
