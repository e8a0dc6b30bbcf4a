-- Read in this order: what a request asks of the store, what a session does for it and how far that has come, what its body says,
-- which reply that gives, what the seat does by it, the log of a connection, how far that has come, and the laws.
pub mod Plans
pub mod Progress
pub mod Moves
pub mod Bodies
pub mod Replies
pub mod Seats
pub mod Logs
pub mod Closings
pub mod Following
pub mod Points
pub mod Laws
