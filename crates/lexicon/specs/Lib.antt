pub mod Numbering
pub mod Parts
pub mod Held
pub mod Spelling
