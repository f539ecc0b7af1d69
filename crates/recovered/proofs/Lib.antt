pub mod Digits
pub mod Finding
pub mod Distance
pub mod Outside
pub mod Reached
pub mod Exactly
pub mod Named
pub mod AsRead
