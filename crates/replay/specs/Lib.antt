pub mod Replay
pub mod Laws
