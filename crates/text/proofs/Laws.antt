pub mod Numbers
pub mod Decimals
pub mod Putting
pub mod Splitting
pub mod Tests
pub mod Lines
pub mod Finding
