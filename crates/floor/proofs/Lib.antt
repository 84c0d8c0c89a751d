pub mod Checks
pub mod Entries
pub mod SameCards
