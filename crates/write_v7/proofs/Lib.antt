pub mod Turn
pub mod Front
