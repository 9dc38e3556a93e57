pub mod Room
pub mod Turn
pub mod Quickly
pub mod Ruling
pub mod Whole
pub mod FrontLaws
pub mod SalvageLaws
