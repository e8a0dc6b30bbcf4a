-- Read in this order: which answers are worth a note to the reclaimer, and what that asks; what the passes of a server are told;
-- how long is waited, and what is decided from times.
pub mod Endings
pub mod Sweeps
pub mod Records
pub mod Limits
pub mod Decisions
