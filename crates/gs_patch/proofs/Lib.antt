pub mod KnownLemmas
pub mod OutLemmas
pub mod OperationLemmas
pub mod PatchLemmas
