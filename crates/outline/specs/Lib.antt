pub mod Outlined
pub mod Parts
