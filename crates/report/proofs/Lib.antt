pub mod Written
pub mod Decimal
pub mod Filled
pub mod Lines
