pub mod MakingLemmas
pub mod NameLemmas
