pub mod Mends
pub mod Entered
pub mod Outcomes
