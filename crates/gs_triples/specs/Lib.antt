-- Read in this order: the symbols of the grammar, what a language makes of triples, the terms that symbols mean, the rules,
-- the program that reads by them, and the machine.
pub mod Symbols
pub mod Prefixes
pub mod Languages
pub mod Meanings
pub mod Goals
pub mod Directives
pub mod Rules
pub mod Triples
pub mod Reading
pub mod Program
pub mod States
pub mod Machine
pub mod Runs
