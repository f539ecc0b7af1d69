pub mod Sorted
pub mod Order
