pub mod Roots
pub mod Newton
