pub mod Hashing
pub mod Lookups
pub mod Frames
pub mod Chains
pub mod Reading
pub mod Finding
pub mod Growing
pub mod NoNames
