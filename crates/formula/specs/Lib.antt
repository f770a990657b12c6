pub mod Formula
pub mod Words
