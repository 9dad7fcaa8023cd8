pub mod Books
pub mod Forgetting
pub mod Steps
pub mod Carrying
pub mod Ready
pub mod Settling
pub mod Active
