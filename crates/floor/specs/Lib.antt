pub mod Cards
pub mod Drafts
pub mod Payloads
pub mod Places
pub mod Refusals
pub mod Sessions
pub mod States
