pub mod DocumentLemmas
pub mod FrontLemmas
pub mod ReaderLemmas
mod Examples
mod MoreExamples
