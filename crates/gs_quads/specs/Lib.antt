-- Read `Places` for the lines of a version from a place on, `Pieces` for what a piece of them is, and `Laws`.
pub mod Places
pub mod Pieces
pub mod Laws
pub mod Found
