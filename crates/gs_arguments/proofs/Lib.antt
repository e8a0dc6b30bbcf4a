mod FaultLemmas
mod NumberLemmas
mod AskedLemmas
