-- The lexical forms of the code's strings.
use Rattle.std.specs.Prelude.{ℕ, List, string_bytes}
use Rattle.gs_token_terms.specs.declared.lexical.LexicalForm.{LexicalForm}
use Rattle.gs_token_terms.specs.declared.lexical.LexicalForm.TheVariants as form

-- the text of a lexical form
abbrev pub form_text : LexicalForm → List ℕ
form_text (form.Standing x) = x.now
form_text (form.Decoded x) = string_bytes x
