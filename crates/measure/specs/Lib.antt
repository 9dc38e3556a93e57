pub mod Measures
pub mod Totals
pub mod Counting
