-- Read in this order: the stack, what a parser stands for, what a symbol counts, and what a call does.
pub mod Frames
pub mod Views
pub mod Counts
pub mod Machine
