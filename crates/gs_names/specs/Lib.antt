pub mod Words
pub mod Media
pub mod Accepts
pub mod Places
pub mod Routes
pub mod Targets
