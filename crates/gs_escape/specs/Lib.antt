-- Read in this order: what an escape means, what a text with escapes means, and the tokens without their delimiters.
pub mod Escapes
pub mod Meanings
pub mod Runs
pub mod Tokens
