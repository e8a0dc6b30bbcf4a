pub mod Methods
pub mod Checks
pub mod Verdicts
pub mod Bytes
