-- Read `Packing` for what packed texts are, and `Texts` for what the calls do; `Kept` is how they are kept.
pub mod Packing
pub mod Kept
pub mod Texts
pub mod Closed
