pub mod Owners
pub mod Arguments
pub mod Replies
pub mod Records
pub mod Counting
