pub mod Groups
pub mod Records
pub mod Reading
pub mod Coded
pub mod Journal
