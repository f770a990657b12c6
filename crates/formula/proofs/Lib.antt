pub mod Wholes
pub mod Tables
pub mod Fractions
pub mod Formulas
pub mod Order
pub mod Powers
