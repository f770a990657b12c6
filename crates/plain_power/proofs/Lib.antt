pub mod Squares
pub mod Digits
pub mod Leading
pub mod Laws
