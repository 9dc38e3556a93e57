pub mod Labels
pub mod Laying
