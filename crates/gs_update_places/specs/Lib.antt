-- Read in this order: what a place and a block stand for, what a symbol does to them, and what it does at a place as a whole.
pub mod Views
pub mod Steps
pub mod Places
