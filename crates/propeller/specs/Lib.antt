pub mod Propeller
