pub mod Reads
pub mod Numbers
pub mod Lists
