pub mod Freely
pub mod Quickly
