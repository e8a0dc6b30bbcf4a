pub mod KeyLemmas
pub mod RootLemmas
pub mod KeyMarkLemmas
pub mod MarkingLemmas
pub mod MarkLemmas
pub mod NodeLemmas
