pub mod Script
pub mod Sessions
pub mod Feeding
