-- Read in this order: the parts of a reference, the path without dot segments, the reference resolved.
pub mod References
pub mod Dots
pub mod Output
pub mod Resolving
pub mod Appending
