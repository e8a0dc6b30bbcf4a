pub mod NumbersLemmas
pub mod AppearanceLemmas
