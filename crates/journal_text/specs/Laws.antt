pub mod Printing
pub mod Files
