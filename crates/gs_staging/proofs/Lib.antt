pub mod GroupLemmas
pub mod KeyLemmas
pub mod NotedLemmas
pub mod OrderedLemmas
pub mod RunLemmas
pub mod StageLemmas
