pub mod Begun
pub mod Laid
