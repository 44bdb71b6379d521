pub mod Placing
pub mod Walking
pub mod Seeing
pub mod Parting
pub mod Deciding
pub mod Sampling
