pub mod Counting
pub mod Placed
pub mod Shapes
