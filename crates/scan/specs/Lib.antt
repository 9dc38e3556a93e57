pub mod Keeping
pub mod Places
