pub mod Parts
pub mod Strays
pub mod Reading
pub mod Writing
pub mod Syndromes
