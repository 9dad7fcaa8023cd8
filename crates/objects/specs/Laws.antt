pub mod Tests
pub mod Ranges
pub mod Moving
pub mod Writing
pub mod Folding
pub mod Rows
