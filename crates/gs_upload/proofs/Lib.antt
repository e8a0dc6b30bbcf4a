pub mod ReadingLemmas
pub mod WrappingLemmas
pub mod CuttingLemmas
