pub mod Items
pub mod Sums
pub mod Turn
pub mod Counting
