-- Read in this order: what a body says, what one with a fault says by the rules alone, what tokens do to a parser, and where a reader stands.
pub mod Documents
pub mod Faults
pub mod Portions
pub mod Readers
