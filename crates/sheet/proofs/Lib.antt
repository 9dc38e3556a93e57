pub mod Entries
pub mod EntryAt
pub mod Fronts
