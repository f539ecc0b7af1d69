pub mod Lists
pub mod Orders
