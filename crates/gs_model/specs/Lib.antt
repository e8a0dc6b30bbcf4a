-- Read in this order: what a character, an escape, an IRI, a term, its text, a triple and a graph are.
pub mod Limits
pub mod Refusals
pub mod Faults
pub mod Ascii
pub mod Punctuation
pub mod Characters
pub mod Escapes
pub mod Iris
pub mod Bases
pub mod Terms
pub mod Texts
pub mod Triples
pub mod Graphs
pub mod Codes
