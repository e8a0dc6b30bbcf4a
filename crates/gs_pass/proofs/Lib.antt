pub mod CellLemmas
pub mod ClaimLemmas
