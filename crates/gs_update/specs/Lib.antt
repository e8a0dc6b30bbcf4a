-- Read in this order: what a parser stands for, what a symbol does to it, what the reader answers, what tokens do,
-- and what a text does.
pub mod Views
pub mod Steps
pub mod Answers
pub mod Tokens
pub mod Readers
