pub mod LineReaderLemmas
pub mod WordLemmas
pub mod CommandLemmas
pub mod TargetLemmas
pub mod FeedLineLemmas
pub mod PatchLineLemmas
pub mod RowLemmas
pub mod LinesLemmas
