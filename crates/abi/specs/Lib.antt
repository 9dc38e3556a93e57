pub mod Numbers
pub mod Compares
pub mod Views
pub mod Summaries
