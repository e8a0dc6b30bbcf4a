pub mod Following
pub mod Freeing
pub mod Reclaiming
pub mod Ending
