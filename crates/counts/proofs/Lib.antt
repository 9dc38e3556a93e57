pub mod Faults
pub mod Files
pub mod Left
