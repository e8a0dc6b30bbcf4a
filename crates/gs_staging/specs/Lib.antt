-- Read `Staging` for what a tree of an upload is and how it grows, `Keys` for triples by number, and `Groups` for how keys are sorted. `Noted` is how numbers of terms are found.
pub mod Keys
pub mod Noted
pub mod Groups
pub mod Staging
