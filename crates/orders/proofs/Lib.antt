pub mod Lists
pub mod Exactly
pub mod Image
pub mod Journal
pub mod Steps
pub mod Order
pub mod Noted
pub mod Shared
