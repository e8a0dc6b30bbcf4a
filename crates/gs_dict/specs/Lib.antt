-- Read `Numbering` and `Sweeping` for what a dictionary does; the others are how it is kept.
pub mod Numbering
pub mod Sweeping
pub mod TermLines
pub mod Chains
pub mod Kept
pub mod Compaction
