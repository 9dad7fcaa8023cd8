pub mod Groups
pub mod Putting
pub mod Replies
pub mod Shape
pub mod Numbers
pub mod Whole
