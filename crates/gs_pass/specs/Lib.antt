-- Read in this order: limits, kinds as numbers, what names no cell, what tokens know of the stamps, what a pass shows, what stands
-- behind it, and what contracts see of a pass and of a stamp log.
pub mod Limits
pub mod Kinds
pub mod Rooms
pub mod Stamps
pub mod Tallies
pub mod Claims
pub mod Backing
pub mod Passes
pub mod StampLogs
