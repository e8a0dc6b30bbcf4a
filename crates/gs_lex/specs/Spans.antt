-- The tokens of a text are its spans: the bytes from where a token starts to where it ends.
use Rattle.std.specs.Prelude.{◌≡◌, ℕ, ◌+◌, ◌≤◌, ◌<◌, Bool, List, [], ◌∷◌, ◌++◌, length, Some, if◌then◌else◌, encode_utf8_all}
use Rattle.gs_automaton.specs.Terminals.{IsTerminal}
use Rattle.gs_lex.specs.Tokens.{Lexeme, CutEnd, IsCut, has_text, token_kind}
use Rattle.gs_lex.specs.declared.kinds.TokenKind.{TokenKind}
use Rattle.gs_automaton.specs.declared.terminals.Terminal.{Terminal}

-- these bytes are a token of this kind
pub record IsSpelling (updates : Bool) (k : TokenKind) (bytes : List ℕ) : Type 0 where
  pub terminal : Terminal
  pub characters : List ℕ
  pub spelled : bytes ≡ encode_utf8_all characters
  pub is_terminal : IsTerminal updates terminal characters
  pub is_kind : token_kind updates terminal bytes ≡ Some k

-- the token is some bytes of the text x, between its start and its end, after the token before it, which ends at the place n
pub record IsSpan (updates : Bool) (x : List ℕ) (n : ℕ) (t : Lexeme) : Type 0 where
  pub before : List ℕ
  pub bytes : List ℕ
  pub after : List ℕ
  pub parts : x ≡ before ++ (bytes ++ after)
  pub starts : t.start ≡ length before
  pub ends : t.«end» ≡ t.start + length bytes
  pub apart : n ≤ t.start
  pub some : t.start < t.«end»
  pub within : t.«end» ≤ length x
  pub is_token : IsSpelling updates t.kind bytes
  pub has_bytes : t.text ≡ (if has_text t.kind then bytes else [])

-- these tokens are spans of x, one after the other, and after the place n
abbrev pub AreSpans : Bool → List ℕ → ℕ → List Lexeme → Type 0
AreSpans updates x n [] = Unit {0}
AreSpans updates x n (t ∷ ts) = IsSpan updates x n t × AreSpans updates x t.«end» ts

-- the tokens of each cut of x are its spans
abbrev pub IsCutIntoSpans : Bool → List ℕ → Type 0
IsCutIntoSpans updates x = (ts : List Lexeme) (e : CutEnd) → IsCut updates x ts e → AreSpans updates x 0 ts
