pub mod Sets
pub mod Flips
pub mod Pairs
pub mod Heart
pub mod Clean
pub mod BySyndrome
pub mod Answers
