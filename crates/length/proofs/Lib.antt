pub mod Finished
pub mod Numbers
