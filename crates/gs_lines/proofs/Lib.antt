pub mod LineLemmas
pub mod PieceLemmas
pub mod SweepLemmas
