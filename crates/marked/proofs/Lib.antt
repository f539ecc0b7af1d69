pub mod Looked
pub mod Above
pub mod Alike
