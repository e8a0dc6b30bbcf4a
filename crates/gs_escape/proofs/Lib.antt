pub mod NumberLemmas
pub mod RunLemmas
pub mod EndLemmas
pub mod WalkLemmas
pub mod CharacterLemmas
mod Examples
