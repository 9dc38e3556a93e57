pub mod Plainly
pub mod Placed
