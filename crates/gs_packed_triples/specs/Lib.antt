-- Read `Formed` for the triples of texts, `Triples` for what the calls do, and `Closed` for triples after which no more come.
-- `Room` says what room triples take, and `Props` lets a struct keep facts on terms.
pub mod Formed
pub mod Room
pub mod Triples
pub mod Closed
pub mod Props
