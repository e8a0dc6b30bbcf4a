-- Read in this order: the context of a statement, directives, the rules of statements and documents, the program that reads by them, and the machine.
pub mod Contexts
pub mod Directives
pub mod Documents
pub mod Fronts
pub mod Program
pub mod States
pub mod Machine
pub mod Readings
