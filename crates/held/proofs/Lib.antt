pub mod Narrow
pub mod ShortLaws
