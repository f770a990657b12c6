pub mod Numbers
pub mod Checks
pub mod Parts
pub mod Runs
