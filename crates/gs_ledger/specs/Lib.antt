-- Read in this order: what trees and dead nodes have of a number, the dead nodes that marks say, the ledger, how its parts change, and the laws: of any ledger, and of the steps of a store.
pub mod Entries
pub mod Marks
pub mod Ledger
pub mod Changes
pub mod Laws
pub mod Keeping
