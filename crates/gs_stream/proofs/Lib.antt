pub mod HeadLemmas
pub mod PartLemmas
pub mod StaysLemmas
pub mod RequestLemmas
