pub mod Propositions
pub mod Chains
