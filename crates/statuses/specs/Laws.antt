pub mod Sets
pub mod Words
pub mod Ranks
pub mod Pass
pub mod Count
pub mod Writing
