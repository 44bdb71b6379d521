pub mod Firsts
pub mod Ordering
pub mod Lowering
mod Reducing
