pub mod Yard
pub mod Settled
