pub mod Text
pub mod Totals
