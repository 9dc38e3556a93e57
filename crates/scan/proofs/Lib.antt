mod Kept
pub mod Starting
mod Walk
