pub mod Cards
pub mod Rule
