-- What one line of a document says, before its blank nodes are numbered.
use Rattle.std.specs.Prelude.{ℕ}
use Rattle.gs_model.specs.Terms.{Term}
use Rattle.gs_ntterm.specs.LineTerms.{LineTerm}

-- a triple, and the number of bytes up to the end of its '.'
pub record LineTriple : Type 0 where
  pub subject : LineTerm
  pub predicate : Term
  pub object : LineTerm
  pub end : ℕ
