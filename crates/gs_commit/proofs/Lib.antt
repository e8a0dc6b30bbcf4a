pub mod DeadLemmas
pub mod RootLemmas
pub mod CommitLemmas
pub mod LawLemmas
