mod Briefly
pub mod One
pub mod Splice
pub mod Walk
pub mod Whole
