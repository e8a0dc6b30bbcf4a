-- Read `Instances` for what is found; the others are the search for it.
pub mod Instances
pub mod Patterns
pub mod Found
pub mod Ranges
pub mod Candidates
pub mod Seeds
pub mod Solving
