pub mod ProgressLemmas
pub mod KindLemmas
pub mod LogLemmas
