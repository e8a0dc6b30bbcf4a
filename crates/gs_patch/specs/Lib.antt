-- Read `Patches` for what an update makes of a tree, and `Inserted` for what it may make of a dictionary; the others are one
-- operation of it.
pub mod Patches
pub mod Inserted
pub mod Operations
pub mod Known
