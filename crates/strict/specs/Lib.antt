pub mod Strict
pub mod Indexed
