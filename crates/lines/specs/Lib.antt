pub mod Lines
pub mod Runs
pub mod Readings
pub mod Parts
pub mod Steps
pub mod Spelled
