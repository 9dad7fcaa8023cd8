pub mod Printing
pub mod OneLine
