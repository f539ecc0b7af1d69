pub mod Sheets
pub mod Rule
