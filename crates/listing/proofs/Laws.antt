pub mod Replying
pub mod Shapes
pub mod Lines
pub mod Printed
pub mod ReadBack
