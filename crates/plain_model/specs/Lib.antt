pub mod Plans
pub mod Views
pub mod Steps
pub mod Invariant
pub mod Offers
pub mod Making
