-- What a lexer has cut of a text that it took in pieces.
use Rattle.std.specs.Prelude.{◌≡◌, ℕ, ◌<◌, Bool, false, List, ◌++◌, length, drop}
use Rattle.gs_lex.specs.Tokens.{Lexeme}
use Rattle.gs_lex.specs.Plains.{IsPlainAhead}
use Rattle.gs_lex.specs.Standing.{StandsAfter, ComesNext, lexeme_in}
use Rattle.gs_lex.specs.declared.pieces.Advance.{Advance}
use Rattle.gs_lex.specs.declared.pieces.Advance.TheVariants as next
use Rattle.gs_lex.specs.declared.pieces.PieceLexer.{PieceLexer}
use Rattle.gs_lex.specs.declared.plains.Plain.{Plain}

-- the bytes that are held
abbrev pub held_bytes : PieceLexer → List ℕ
held_bytes l = l.held.items

-- the bytes that are held and not cut
abbrev pub left_in : PieceLexer → List ℕ
left_in l = drop l.at.cut l.held.items

-- The lexer took the text x, and has cut the tokens ts off it; x is the whole text where it ends there.
abbrev pub LeadsPieces : Bool → Bool → PieceLexer → List ℕ → List Lexeme → Type 0
LeadsPieces is_end updates l x ts = StandsAfter is_end updates l.at (left_in l) x ts

-- the token that was cut last
abbrev pub token_of : PieceLexer → Lexeme
token_of l = lexeme_in l.held.items l.last

-- a piece goes on with each text that led to the lexer
abbrev pub Holds : PieceLexer → PieceLexer → List ℕ → Type 0
Holds old new piece =
    (updates : Bool) (x : List ℕ) (ts : List Lexeme) → LeadsPieces false updates old x ts → LeadsPieces false updates new (x ++ piece) ts

-- in each text that led to the lexer this comes next
abbrev pub AdvancesPieces : Bool → PieceLexer → PieceLexer → Advance → Type 0
AdvancesPieces is_end old new n =
    (updates : Bool) (x : List ℕ) (ts : List Lexeme) → LeadsPieces is_end updates old x ts
    → ComesNext is_end updates new.at (left_in new) x ts (token_of new) n

-- a token leaves fewer bytes; of all else nothing is said
abbrev pub Shortens : PieceLexer → PieceLexer → Advance → Type 0
Shortens old new next.Token = length (left_in new) < length (left_in old)
Shortens old new n = Unit {0}

-- between two tokens, of which the next has not begun to be read, white space and this token stand at the front of what is left
pub record ComesPlain (l : PieceLexer) (p : Plain) : Type 0 where
  pub between : l.at.in_comment ≡ false
  pub unread : l.at.scan.len ≡ 0
  pub ahead : IsPlainAhead l.at.updates (left_in l) p
