pub mod Effects
pub mod Told
