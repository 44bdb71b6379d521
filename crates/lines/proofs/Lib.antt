pub mod Before
pub mod Cutting
pub mod Fronted
pub mod Marks
pub mod Sayings
pub mod Laying
pub mod Spelling
