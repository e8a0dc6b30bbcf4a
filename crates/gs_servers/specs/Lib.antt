-- How a server ends.
pub mod Ends
