pub mod Cases
pub mod Stamps
