pub mod Judging
pub mod Masked
