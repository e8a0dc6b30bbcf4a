pub mod LineRuns
pub mod LookupLemmas
pub mod MarkLemmas
pub mod SearchLemmas
pub mod SolvingLemmas
pub mod StepLemmas
