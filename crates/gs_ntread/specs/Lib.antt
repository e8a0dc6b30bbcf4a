-- Read in this order: what a document says by the grammar, the machine that reads it, what the reader's fields mean, what its calls do.
pub mod LineTriples
pub mod Grammar
pub mod Documents
pub mod States
pub mod Lines
pub mod Transitions
pub mod Machine
pub mod Runs
pub mod Wholes
pub mod Views
pub mod LineFronts
pub mod Clauses
pub mod Reader
pub mod Readers
