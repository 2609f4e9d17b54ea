pub mod Notes
pub mod Places
