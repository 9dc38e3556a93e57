pub mod Pens
pub mod Runs
