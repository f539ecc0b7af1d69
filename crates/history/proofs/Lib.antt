pub mod Putting
pub mod Undone
pub mod Restored
pub mod Exactly
pub mod Again
