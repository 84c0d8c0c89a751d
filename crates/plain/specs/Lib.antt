pub mod Casts
pub mod Loans
pub mod Changes
pub mod Plans
