pub mod Operations
pub mod PairRules
pub mod Log
pub mod Stored
pub mod Kinds
