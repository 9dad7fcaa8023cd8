pub mod Reading
pub mod Lines
pub mod Issuing
pub mod Traces
pub mod Taking
pub mod Running
