-- Read in this order: how a commit ends in the pool, and what keeps a ledger besides.
pub mod Commits
pub mod Laws
