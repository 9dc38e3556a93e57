pub mod Seen
pub mod Commonest
