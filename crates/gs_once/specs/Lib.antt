-- Read in this order: what a run says and its status; and what it does.
pub mod Stops
pub mod Runs
