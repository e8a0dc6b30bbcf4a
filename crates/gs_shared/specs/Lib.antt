-- Read in this order: how much a page holds, what an event makes of a tally, how a store begins and passes are handed out,
-- and what is known at the end; what is kept under the lock; and what contracts see of a Shared, of its parts and of a door.
pub mod Limits
pub mod Tells
pub mod Seats
pub mod Ends
pub mod Asked
pub mod Counts
pub mod Shared
pub mod Parts
pub mod Doors
