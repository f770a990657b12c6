pub mod Values
pub mod Growth
pub mod Entries
pub mod Steps
pub mod Records
