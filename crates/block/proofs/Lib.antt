pub mod Answering
pub mod Trips
pub mod Theorems
