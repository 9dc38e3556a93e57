pub mod Salvages
pub mod Reaches
