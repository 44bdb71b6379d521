pub mod Numbers
pub mod Cutting
pub mod Holding
pub mod Marking
