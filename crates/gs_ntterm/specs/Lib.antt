-- Read in this order: characters with their places, the terminals, the terms that tokens are, what is held of a token, labels.
pub mod Marks
pub mod Classes
pub mod Terminals
pub mod LineTerms
pub mod Forms
pub mod Tokens
pub mod Runs
pub mod Wholes
pub mod Labels
pub mod Views
