-- Read in this order: what a reader of one text finds, how graphs are named, and what a line says.
pub mod Found
pub mod Targets
pub mod Commands
