pub mod Bytes
pub mod Lawful
pub mod Marks
pub mod Terms
pub mod Unwritten
