pub mod Fitting
pub mod Verdicts
pub mod Waves
