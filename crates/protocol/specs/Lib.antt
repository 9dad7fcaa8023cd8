pub mod Replies
pub mod Refusals
pub mod ReplyOf
pub mod Ending
pub mod Calls
pub mod Call
pub mod Lent
pub mod Terms
