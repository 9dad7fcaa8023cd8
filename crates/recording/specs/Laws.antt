pub mod Given
pub mod Records
pub mod Replies
pub mod Arrays
