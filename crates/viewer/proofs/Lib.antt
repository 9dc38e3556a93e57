pub mod Differences
pub mod Numbers
pub mod Walk
pub mod Whole
