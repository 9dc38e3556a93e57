pub mod Bits
pub mod Words
pub mod Sums
pub mod Whole
pub mod Asking
pub mod Walk
pub mod Renewing
