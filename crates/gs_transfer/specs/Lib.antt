-- Read in this order: the limits, the grammar of a body in chunks, byte by byte what a body is, what a transfer stands for, the laws.
pub mod Limits
pub mod Grammar
pub mod States
pub mod Cuts
pub mod Trailers
pub mod Places
pub mod Views
pub mod Laws
