pub mod Outside
pub mod Within
pub mod Stuck
pub mod Named
