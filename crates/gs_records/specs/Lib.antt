-- Read in this order: what each number stands for; the graphs of a version; which commits made the current records; waste; what a call does to the records, and a reclaim; what is kept true.
pub mod Records
pub mod Graphs
pub mod Births
pub mod Waste
pub mod Kept
pub mod Stored
pub mod Calls
pub mod Uses
pub mod Reclaims
pub mod Sweeps
pub mod Versions
pub mod Counts
pub mod Order
pub mod Laws
