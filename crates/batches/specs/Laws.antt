pub mod Carrying
pub mod Entering
