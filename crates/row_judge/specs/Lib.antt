pub mod Judge
pub mod Rule
