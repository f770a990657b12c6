pub mod Speeds
