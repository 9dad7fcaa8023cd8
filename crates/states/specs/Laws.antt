pub mod Cells
pub mod Seeking
pub mod Stacks
pub mod Serving
pub mod Keyed
pub mod Stacked
pub mod Going
