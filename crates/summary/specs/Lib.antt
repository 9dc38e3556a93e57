pub mod Bits
pub mod Records
