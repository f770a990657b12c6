pub mod Exponents
pub mod Stretch
pub mod Froude
pub mod Block
pub mod Shape
pub mod Products
pub mod Laws
