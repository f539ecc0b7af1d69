pub mod Mend
pub mod Promises
