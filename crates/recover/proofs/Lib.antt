pub mod BySyndrome
pub mod Answers
pub mod Plain
