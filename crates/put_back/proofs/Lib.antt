pub mod Backwards
pub mod Answers
