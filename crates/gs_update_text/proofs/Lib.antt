pub mod LeadLemmas
pub mod GrowthLemmas
pub mod FlatLemmas
pub mod HeldLemmas
pub mod BlockLemmas
pub mod StopLemmas
pub mod RefusalLemmas
pub mod FoundLemmas
pub mod ExcessLemmas
pub mod UpdateLemmas
pub mod DepartLemmas
pub mod WalkLemmas
pub mod ReadLemmas
pub mod FrontLemmas
pub mod PlaceLemmas
pub mod NumberLemmas
pub mod ProfileLemmas
pub mod TextLemmas
pub mod Examples
mod MoreExamples
mod LabelExamples
mod TextExamples
