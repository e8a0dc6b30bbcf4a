-- Read in this order: what a contract sees of a pool, and of nodes that are held; what the pool knows of its places, and the lists that
-- run through them; how a place lies in memory.
pub mod Pool
pub mod Held
pub mod Places
pub mod Lists
pub mod Tails
pub mod Slots
