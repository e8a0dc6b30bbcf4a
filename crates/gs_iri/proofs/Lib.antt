pub mod AbsoluteLemmas
mod Examples
pub mod ReferenceLemmas
pub mod DotsLemmas
pub mod TextLemmas
pub mod ResolvingLemmas
pub mod PartsLemmas
pub mod CharacterLemmas
pub mod SchemeLemmas
