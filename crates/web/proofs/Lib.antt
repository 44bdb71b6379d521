pub mod Fitting
mod Agreeing
