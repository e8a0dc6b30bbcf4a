pub mod QuietLemmas
pub mod PortionLemmas
pub mod SaidLemmas
pub mod HistoryLemmas
pub mod PieceLemmas
pub mod BodyLemmas
pub mod PlaceLemmas
pub mod FaultLemmas
