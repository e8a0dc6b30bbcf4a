-- Read in this order: what a change is, how one ends, and the keys that go out; the rest is how keys go in and out.
pub mod Changes
pub mod Endings
pub mod Keys
pub mod Pieces
