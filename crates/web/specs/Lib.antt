pub mod Meaning
pub mod Laws
pub mod Answers
pub mod Pairs
pub mod Paired
pub mod Agreement
