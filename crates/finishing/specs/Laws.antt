pub mod Circles
pub mod Ending
