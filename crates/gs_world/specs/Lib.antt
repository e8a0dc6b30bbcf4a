-- Read in this order: what comes to a connection and what its seat does; what a step makes of a world; what all seats asked of the
-- abstract store; what stands in a world after its steps, and what that says; blank nodes; what a turn does that ends a run.
pub mod Happenings
pub mod Walks
pub mod Merging
pub mod Worlds
pub mod Nodes
pub mod Resting
