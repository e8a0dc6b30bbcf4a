pub mod MachineLemmas
pub mod Encodings
pub mod Utf8Lemmas
pub mod FrontLemmas
