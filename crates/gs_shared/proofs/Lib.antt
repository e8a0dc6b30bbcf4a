pub mod AskedLemmas
pub mod DecisionLemmas
pub mod CountLemmas
pub mod StartLemmas
pub mod EndLemmas
