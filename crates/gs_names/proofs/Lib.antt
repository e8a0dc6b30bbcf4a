pub mod RouteLemmas
pub mod TargetLemmas
