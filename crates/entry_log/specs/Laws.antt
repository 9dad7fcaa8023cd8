pub mod Checks
pub mod Packing
pub mod Fitting
pub mod Sets
pub mod Gathering
pub mod Writing
