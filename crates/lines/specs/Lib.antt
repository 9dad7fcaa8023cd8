pub mod Lines
pub mod Coded
