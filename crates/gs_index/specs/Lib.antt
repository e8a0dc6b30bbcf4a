-- Read `Ages` for the order of numbers, and `Indexes` for what an index has; `Kept` is how it is kept.
pub mod Ages
pub mod Indexes
pub mod Kept
