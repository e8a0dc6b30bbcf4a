-- Read `Stored`: what a graph of the measures always is.
pub mod Stored
