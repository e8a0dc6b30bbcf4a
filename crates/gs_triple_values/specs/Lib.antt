-- Read in this order: of `gs_token_terms`, contexts and what tokens and contexts stand for; then the languages of the code
-- and what they stand for, the terms and values of tokens, and how many bytes their texts have.
pub use Rattle.gs_token_terms.specs.Contexts
pub use Rattle.gs_token_terms.specs.Views
pub mod Languages
pub mod Typed
pub mod Terms
pub mod Waiting
pub mod Sizes
