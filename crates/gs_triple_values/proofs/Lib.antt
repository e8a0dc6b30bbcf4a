pub mod ValueLemmas
pub mod PatternLemmas
