pub mod Sets
pub mod Flips
pub mod Order
pub mod Few
pub mod Explanations
pub mod Lists
