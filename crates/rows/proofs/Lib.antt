pub mod Answers
pub mod Laid
