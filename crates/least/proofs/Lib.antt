pub mod Counting
pub mod Sorted
pub mod Order
pub mod Room
pub mod Codes
pub mod Wanted
