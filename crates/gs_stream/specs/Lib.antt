-- Read in this order: where a head ends, the requests of a stream, what the code finds, the laws.
pub mod Limits
pub mod Heads
pub mod Requests
pub mod Views
pub mod Laws
