pub mod Products
pub mod Sides
