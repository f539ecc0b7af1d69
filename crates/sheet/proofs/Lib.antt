pub mod Zeros
pub mod Asking
pub mod Exactly
