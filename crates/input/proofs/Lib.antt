mod First
mod Lines
pub mod Fronts
