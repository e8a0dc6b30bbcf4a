-- Read in this order: as how many triples a page counts what it stores, which triples kept lists have, what an upload holds,
-- and an open one; the same of patches; the kinds of calls, what they asked and how a page keeps them; what an entry and a page
-- show; and how a page replays.
pub mod Sizes
pub mod KeptLists
pub mod Uploads
pub mod OpenUploads
pub mod KeptOps
pub mod Patches
pub mod OpenPatches
pub mod Kinds
pub mod Requests
pub mod Pages
pub mod Rows
pub mod PageEntries
pub mod Views
pub mod Replays
