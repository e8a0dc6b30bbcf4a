pub mod PackingLemmas
pub mod SpanLemmas
pub mod KeptLemmas
