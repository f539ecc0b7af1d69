pub mod Claim
pub mod Figures
