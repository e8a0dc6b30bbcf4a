-- Read `Numbers` for what is bound, `Lots` for a list, and `Values` for what solves lists; the others are the search in them.
pub mod Numbers
pub mod Lots
pub mod Values
pub mod Reductions
pub mod Choices
pub mod Links
pub mod Answers
pub mod Merges
pub mod Sides
