pub mod Partners
pub mod Walk
pub mod Cases
