pub mod Sets
pub mod BySyndrome
