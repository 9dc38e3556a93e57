pub mod Pass
pub mod Turning
pub mod Ruling
pub mod Salvage
