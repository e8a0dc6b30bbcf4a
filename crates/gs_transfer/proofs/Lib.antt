pub mod CutLemmas
pub mod PositionLemmas
pub mod PartLemmas
pub mod StaysLemmas
pub mod QuietLemmas
pub mod PrintLemmas
pub mod SectionLemmas
pub mod BodyLemmas
