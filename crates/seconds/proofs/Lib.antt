pub mod Days
pub mod Digits
pub mod Forms
