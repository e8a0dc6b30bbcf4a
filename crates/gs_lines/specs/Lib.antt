-- Read `Pieces` for the lines of a root from a place on, and for what a piece of them is; `Graphs` for lines in any graph.
pub mod Graphs
pub mod Pieces
pub mod Lines
