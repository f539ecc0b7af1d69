pub mod Order
pub mod Explanations
