pub mod Converter
