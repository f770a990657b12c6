pub mod Doubles
pub mod Yard
pub mod Settled
