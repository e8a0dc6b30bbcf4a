-- Read in this order: what a request says, the languages of its operations, the rules of the grammar, the longest prefix
-- that they take, what is not served, the machine that reads by the rules, first within a block, what the laws say of it,
-- and what a text says.
pub mod Requests
pub mod Operations
pub mod Grammar
pub mod Fronts
pub mod Profile
pub mod Blocks
pub mod States
pub mod Machine
pub mod Readings
pub mod Texts
