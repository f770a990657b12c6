pub mod Rounding
pub mod Emissions
pub mod Laws
pub mod Editions
pub mod Records
