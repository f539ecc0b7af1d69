pub mod Powers
pub mod Linear
pub mod Written
pub mod Steps
pub mod Verdicts
pub mod Errors
