-- What a whole text does to a parser of updates.
use Rattle.std.specs.Prelude.{ℕ, true, List}
use Rattle.gs_model.specs.declared.refusals.Refusal.{Refusal}
use Rattle.gs_lex.specs.Tokens.{Lexeme, IsCut, CutEnd, AtEnd}
use Rattle.gs_update_text.specs.Texts.{request_ended_by}
use Rattle.gs_update.specs.Tokens.{request_end, Concludes, ReportsAfterOperation}
use Rattle.gs_update.specs.declared.parser.UpdateParser.{UpdateParser}

-- the text is cut into these tokens, and ends after them without a departure; the parser then has their operations
pub record ReadsText (old new : UpdateParser) (x : List ℕ) : Type 0 where
  pub lexemes : List Lexeme
  pub cut : IsCut true x lexemes AtEnd
  pub concluded : Concludes old new lexemes

-- the text is cut so, and has this fault; of want of memory nothing is said
pub record IsUpdateRefused (old : UpdateParser) (x : List ℕ) (e : Refusal) : Type 0 where
  pub lexemes : List Lexeme
  pub ending : CutEnd
  pub cut : IsCut true x lexemes ending
  pub reported : ReportsAfterOperation old.last e (request_ended_by ending (request_end old lexemes))
