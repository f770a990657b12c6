pub mod Rows
pub mod Reach
pub mod Statistics
