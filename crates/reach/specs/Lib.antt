pub mod Places
pub mod BySyndrome
