pub mod Hash
pub mod Room
pub mod Entries
pub mod Good
pub mod Told
