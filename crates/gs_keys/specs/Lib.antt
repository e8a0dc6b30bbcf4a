-- Read `Texts` for what a key says and how keys are ordered, `Roots` for the graph of a root, and `Marks` for what is marked.
pub mod Texts
pub mod Roots
pub mod Marks
