pub mod Counts
pub mod Figures
pub mod Fit
pub mod Rules
pub mod Standard
pub mod Waves
pub mod Worked
