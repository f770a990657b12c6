pub mod Attained
