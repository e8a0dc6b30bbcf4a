pub mod AnswerLemmas
pub mod TermLemmas
pub mod LineLemmas
pub mod TripleLemmas
pub mod DirectiveLemmas
pub mod DocumentLemmas
pub mod UpdateLemmas
