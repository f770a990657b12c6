pub mod Trials
pub mod Designs
pub mod Recorded
pub mod Laws
pub mod Worked
