-- Read in this order: what a reclaim asks of a pool and makes of it; for which pins the lists of held nodes are kept.
pub mod Reclaims
pub mod Holders
