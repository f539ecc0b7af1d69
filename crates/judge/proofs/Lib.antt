pub mod Answers
pub mod Rule
pub mod Rest
pub mod Table
pub mod Steps
