-- Read `Lists` for what a list of triples is, `Kept` for how it is kept, `Texts` for a triple by its texts, `Readers` for what a
-- reader has before it, and `Orders` for its triples in order.
pub mod Lists
pub mod Kept
pub mod Texts
pub mod Readers
pub mod Orders
