-- Read in this order: how much is staged; what an event decided, and what that makes of a page; what an event brings; what a
-- seat has open; what an event makes of all of this; and what is staged in a store with its page.
pub mod Staged
pub mod Decisions
pub mod Forms
pub mod Slots
pub mod Takes
pub mod Audits
