pub mod Stores
pub mod Digits
pub mod Escapes
pub mod Parts
pub mod Lengths
pub mod Sheets
pub mod Lister
pub mod Case14
