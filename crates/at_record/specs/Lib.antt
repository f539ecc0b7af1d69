pub mod Outcome
pub mod Under
