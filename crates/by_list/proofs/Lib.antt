pub mod Mixed
pub mod Walked
