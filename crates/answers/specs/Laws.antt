pub mod Entries
pub mod Replay
pub mod Counting
pub mod Whole
pub mod Requests
