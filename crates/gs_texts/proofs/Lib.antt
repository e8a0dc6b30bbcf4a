pub mod PlaceLemmas
pub mod LineLemmas
pub mod ReleaseLemmas
pub mod SealedLemmas
pub mod BuildingLemmas
