pub mod Rounds
pub mod Padding
pub mod StreamLaws
