pub mod Answering
pub mod Stepping
pub mod Demands
pub mod Figures
