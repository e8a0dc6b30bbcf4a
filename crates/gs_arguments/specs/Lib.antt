-- Read in this order: the options; what the words ask for.
pub mod Options
pub mod Asked
