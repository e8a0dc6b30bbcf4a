pub mod StackLemmas
pub mod LeaveLemmas
pub mod LanguageLemmas
