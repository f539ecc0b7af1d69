pub mod Verdicts
pub mod Places
pub mod Table
