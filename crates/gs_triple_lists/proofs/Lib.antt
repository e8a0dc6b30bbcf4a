pub mod ListLemmas
pub mod RankLemmas
pub mod OrderLemmas
pub mod RenumberLemmas
