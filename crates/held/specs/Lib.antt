pub mod Numbers
pub mod Shortly
