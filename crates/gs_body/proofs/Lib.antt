pub mod Cuttings
pub mod LeadingLemmas
