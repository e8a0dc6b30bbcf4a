-- The tokens of a text (Turtle, section 6; SPARQL 1.1 Query, section 19.8): each the longest at its place, parted by
-- white space and by comments. A text is bytes of UTF-8. A token has the right form, and no more: what its escapes mean,
-- and whether they may stand there, are the rules of gs_escape (see Terminals).
use Rattle.std.specs.Prelude.{◌≡◌, ◌≢◌, ℕ, ◌+◌, ◌-◌, ◌^◌, ◌≤◌, min, Bool, true, false, List, [], ◌∷◌, ◌++◌, length, Some, None, if◌then◌else◌, encode_utf8, encode_utf8_all}
use Rattle.std.specs.Char.{IsScalar}
use Rattle.std.specs.Str.{StartsWithNoChar, all_scalars}
use Rattle.gs_model.specs.Characters.{number_sign}
use Rattle.gs_automaton.specs.Classes.{is_ws, is_line_end}
use Rattle.gs_automaton.specs.Terminals.{IsTerminal}
use Rattle.gs_lex.specs.declared.kinds.TokenKind.{TokenKind}
use Rattle.gs_automaton.specs.declared.terminals.Terminal.{Terminal}
pub use Rattle.gs_lex.specs.Kinds.{is_word, directive, update_word, word, token_kind, has_text}

-- a place in a text: the number of bytes before it, which stops at the greatest `u64`
abbrev pub place_after : ℕ → ℕ → ℕ
place_after n count = min (n + count) (2 ^ 64 - 1)

-- a token: its kind, its bytes where the kind leaves them open, and its place
pub record Lexeme : Type 0 where
  pub kind : TokenKind
  pub text : List ℕ
  pub start : ℕ
  pub «end» : ℕ

-- the token of these bytes at a place
abbrev pub lexeme_at : TokenKind → ℕ → List ℕ → Lexeme
lexeme_at k n x = record { kind = k; text = if has_text k then x else []; start = n; «end» = place_after n (length x) }

-- the text x begins with the characters w of a terminal, and with no longer one
pub record Longest (updates : Bool) (x : List ℕ) (t : Terminal) (w r : List ℕ) : Type 0 where
  pub parts : x ≡ encode_utf8_all w ++ r
  pub characters : all_scalars w ≡ true
  pub is_terminal : IsTerminal updates t w
  pub most : (u : Terminal) (v s : List ℕ) → x ≡ encode_utf8_all v ++ s → all_scalars v ≡ true → IsTerminal updates u v → length v ≤ length w

-- the text x begins with no terminal
abbrev pub NoTerminal : Bool → List ℕ → Type 0
NoTerminal updates x = (u : Terminal) (v s : List ℕ) → x ≡ encode_utf8_all v ++ s → all_scalars v ≡ true → IsTerminal updates u v → ⊥

-- between tokens, or in a comment
pub data Gap : Type 0 where
  Between : Gap
  InComment : Gap

-- the text ends between tokens or in a comment; or it has a fault, after a last token that ends there
pub data CutEnd : Type 0 where
  AtEnd : CutEnd
  AtFault : ℕ → CutEnd

-- the text is empty, or its first byte ends a line
abbrev pub EndsLine : List ℕ → Type 0
EndsLine [] = Unit {0}
EndsLine (c ∷ cs) = is_line_end c ≡ true

-- The text x, at the place n and after a last token that ends at the place l, is cut into these tokens.
pub data Cut (updates : Bool) : Gap → ℕ → ℕ → List ℕ → List Lexeme → CutEnd → Type 0 where
  ended : {n l : ℕ} {x : List ℕ} → x ≡ [] → Cut updates Between n l x [] AtEnd
  space : {n l : ℕ} {x : List ℕ} {ts : List Lexeme} {e : CutEnd} (c : ℕ) (r : List ℕ) → x ≡ c ∷ r → is_ws c ≡ true
      → Cut updates Between (place_after n 1) l r ts e → Cut updates Between n l x ts e
  hash : {n l : ℕ} {x : List ℕ} {ts : List Lexeme} {e : CutEnd} (r : List ℕ) → x ≡ number_sign ∷ r
      → Cut updates InComment (place_after n 1) l r ts e → Cut updates Between n l x ts e
  comment : {n l : ℕ} {x : List ℕ} {ts : List Lexeme} {e : CutEnd} (c : ℕ) (r : List ℕ) → x ≡ encode_utf8 c ++ r → IsScalar c → is_line_end c ≡ false
      → Cut updates InComment (place_after n (length (encode_utf8 c))) l r ts e → Cut updates InComment n l x ts e
  line_end : {n l : ℕ} {x : List ℕ} {ts : List Lexeme} {e : CutEnd} → EndsLine x → Cut updates Between n l x ts e → Cut updates InComment n l x ts e
  bad_comment : {n l : ℕ} {x : List ℕ} → x ≢ [] → StartsWithNoChar x → Cut updates InComment n l x [] (AtFault l)
  token : {n l : ℕ} {x : List ℕ} {ts : List Lexeme} {e : CutEnd} (t : Terminal) (w r : List ℕ) (k : TokenKind) → Longest updates x t w r → token_kind updates t (encode_utf8_all w) ≡ Some k
      → Cut updates Between (place_after n (length (encode_utf8_all w))) (place_after n (length (encode_utf8_all w))) r ts e
      → Cut updates Between n l x (lexeme_at k n (encode_utf8_all w) ∷ ts) e
  no_kind : {n l : ℕ} {x : List ℕ} (t : Terminal) (w r : List ℕ) → Longest updates x t w r → token_kind updates t (encode_utf8_all w) ≡ None → Cut updates Between n l x [] (AtFault l)
  no_token : {n l : ℕ} {x : List ℕ} (c : ℕ) (r : List ℕ) → x ≡ c ∷ r → is_ws c ≡ false → c ≢ number_sign → NoTerminal updates x → Cut updates Between n l x [] (AtFault l)

-- the tokens of a whole text, and how it ends
abbrev pub IsCut : Bool → List ℕ → List Lexeme → CutEnd → Type 0
IsCut updates x ts e = Cut updates Between 0 0 x ts e
