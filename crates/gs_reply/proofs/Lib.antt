mod DrainLemmas
mod Examples
