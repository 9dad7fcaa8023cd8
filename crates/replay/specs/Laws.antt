pub mod Lists
pub mod Positions
pub mod Copies
pub mod Numbers
