pub mod EndLemmas
pub mod SweepLemmas
