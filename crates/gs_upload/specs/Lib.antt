-- Read in this order: what a text means, its first fault, a text that is read in pieces, and the readers.
pub mod Languages
pub mod Faults
pub mod Readings
pub mod Readers
