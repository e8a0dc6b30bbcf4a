-- Read in this order: the numbers of last writes, what books and seats show, the births of their trees, which records the seats have open, what a write makes of the books, how many nodes and
-- records an event takes, what an action makes of the books and of a seat, what is true of every store, and what two lists of terms
-- must both say for it to stay so.
pub mod LastWrites
pub mod Books
pub mod Births
pub mod Opened
pub mod Writes
pub mod Verdicts
pub mod Drafts
pub mod Uploads
pub mod Uses
pub mod Actions
pub mod Kept
pub mod Sweeps
