pub mod Marks
pub mod Leads
pub mod Finds
pub mod Stores
pub mod Placing
pub mod InSheet
