pub mod LongestLemmas
pub mod BarrenLemmas
pub mod StepLemmas
pub mod RunLemmas
pub mod ReadLemmas
pub mod WayLemmas
pub mod SettledLemmas
pub mod FeedLemmas
pub mod FinishLemmas
pub mod OneCutLemmas
pub mod SpanLemmas
pub mod CutLemmas
mod CutExamples
pub mod TextLemmas
pub mod StandingLemmas
pub mod PlainLemmas
