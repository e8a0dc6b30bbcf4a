pub mod BlockLemmas
pub mod TurnLemmas
pub mod StartLemmas
pub mod PlaceLemmas
