pub mod BackLemmas
pub mod FollowLemmas
pub mod ForthLemmas
pub mod TriplesLemmas
pub mod WalkLemmas
pub mod GoalLemmas
pub mod MachineLemmas
pub mod LanguageLemmas
mod Examples
