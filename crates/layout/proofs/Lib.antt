pub mod Codec
pub mod Fitting
pub mod Places
