-- Read in this order: what one connection makes of a door, and many; what the passes of workers are told; when a connection that
-- is waited for in vain stays no longer.
pub mod Attends
pub mod Served
pub mod Ways
