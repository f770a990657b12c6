pub mod Inverses
pub mod Lifting
pub mod Laws
