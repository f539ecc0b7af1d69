pub mod Search
pub mod Masks
pub mod Parts
pub mod Walk
