-- Read `Lines` for what lines are made of, `Building` for those that are built up, `Places` for where texts stand, and `Releasing`
-- for blocks that are given back; `Due` is private.
pub mod Places
pub mod Releasing
pub mod Lines
pub mod Building
pub mod Due
