-- Read in this order: the dataset after a past commit, the numbers of the last writes, what rows and seats show, the newest
-- row of a target, the graphs that are found of a past dataset, what a write makes of the books, what an action makes of the
-- books and of its seat, and what is true of every store.
pub mod Past
pub mod LastWrites
pub mod Books
pub mod Newest
pub mod Quads
pub mod Versions
pub mod Actions
pub mod Kept
