pub mod Calls
pub mod Fields
pub mod Lengths
pub mod Letters
