pub mod Bodies
pub mod Seen
