pub mod Numbers
pub mod Appearances
