pub mod AgeLemmas
pub mod NumberLemmas
pub mod FindLemmas
pub mod KeptLemmas
