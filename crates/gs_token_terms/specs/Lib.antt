-- Read in this order: how much texts may take, declared prefixes, contexts, what tokens and contexts stand for, the terms
-- of tokens, the texts of tokens that stand in a term as they are, and references that mean themselves.
pub mod Budgets
pub mod Prefixes
pub mod Contexts
pub mod Datatypes
pub mod Views
pub mod Terms
pub mod Plain
pub mod Forms
pub mod References
