pub mod Answers
pub mod Wide
pub mod Rows
pub mod Quick
