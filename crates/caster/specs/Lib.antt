pub mod Floors
pub mod Meanings
pub mod Laws
pub mod Draining
