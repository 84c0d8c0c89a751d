pub mod Agendas
pub mod Places
pub mod Rows
pub mod Sessions
pub mod Protocol
