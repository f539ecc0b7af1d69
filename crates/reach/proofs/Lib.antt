pub mod Places
pub mod Reaching
pub mod Plain
