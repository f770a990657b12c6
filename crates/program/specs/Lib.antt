pub mod Endings
pub mod Names
