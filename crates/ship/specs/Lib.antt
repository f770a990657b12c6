pub mod Record
pub mod Refusals
pub mod Figures
pub mod Kinds
pub mod Ends
pub mod Sample
pub mod Rules
pub mod Accepted
