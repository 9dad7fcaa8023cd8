pub mod Rules
pub mod Scan
pub mod Storing
