pub mod TokenLemmas
pub mod TextLemmas
pub mod PlaceLemmas
