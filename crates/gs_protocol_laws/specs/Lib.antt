-- Read in this order: what a write leaves of the abstract store, what a GET is given in a history, how each write is read back, what
-- stays where nothing was written, what a GET of all graphs is given, and in which order, what an upload leaves that was given up, how
-- uploads, patches and removals are read back, by the events of their seats, what a status tells, what commit numbers tell and conditions keep, and how a line with a graph's name
-- stands to one without.
pub mod Writes
pub mod Reads
pub mod ReadBack
pub mod Unchanged
pub mod AllGraphs
pub mod DatasetLines
pub mod GivenUp
pub mod Uploads
pub mod Patches
pub mod Statuses
pub mod Numbers
pub mod Lines
