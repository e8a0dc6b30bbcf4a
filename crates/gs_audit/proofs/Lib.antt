pub mod PhaseLemmas
pub mod SlotLemmas
pub mod TakeLemmas
pub mod FreshLemmas
