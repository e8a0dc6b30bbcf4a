-- The tokens of a text as a function: from left to right over its characters.
use Rattle.std.specs.Prelude.{◌≡◌, ℕ, zero, suc, Bool, ◌==◌, if◌then◌else◌, List, [], ◌∷◌, length, Option, Some, None, encode_utf8, encode_utf8_all}
use Rattle.gs_machine.specs.Utf8.{bad, symbols}
use Rattle.gs_model.specs.Characters.{number_sign}
use Rattle.gs_automaton.specs.Classes.{is_ws, is_line_end}
use Rattle.gs_automaton.specs.Automata.{Found, longest}
use Rattle.gs_automaton.specs.States.{tokens}
use Rattle.gs_lex.specs.Tokens.{Cut, IsCut, Gap, Between, InComment, CutEnd, AtEnd, AtFault, Lexeme, place_after, token_kind, lexeme_at}
use Rattle.gs_lex.specs.declared.kinds.TokenKind.{TokenKind}
use Rattle.gs_automaton.specs.declared.terminals.Terminal.{Terminal}

-- the tokens of a text, and how it ends
abbrev pub PartedTokens : Type 0
PartedTokens = List Lexeme × CutEnd

-- a token, and those after it
abbrev pub with_token : Lexeme → PartedTokens → PartedTokens
with_token t p = (t ∷ p.0, p.1)

-- A token of these bytes that ends there, and what follows by `next`; or a fault after the last token.
abbrev pub from_kind : (ℕ → List ℕ → PartedTokens) → ℕ → ℕ → List ℕ → List ℕ → Option TokenKind → PartedTokens
from_kind next n last x cs None = ([], AtFault last)
from_kind next n last x cs (Some k) = with_token (lexeme_at k n x) (next (place_after n (length x)) cs)

-- The token that was found at the front, and what follows it; or a fault after the last token.
abbrev pub from_found : (ℕ → List ℕ → PartedTokens) → Bool → ℕ → ℕ → Found Terminal ℕ → PartedTokens
from_found next updates n last None = ([], AtFault last)
from_found next updates n last (Some (t, w, cs)) = from_kind next n last (encode_utf8_all w) cs (token_kind updates t (encode_utf8_all w))

-- characters at the place n, after a last token that ends at the place `last`, in at most so many steps
unfoldable pub parted : ℕ → Bool → Gap → ℕ → ℕ → List ℕ → PartedTokens
parted f updates m n last [] = ([], AtEnd)
parted zero updates m n last (c ∷ cs) = ([], AtFault last)
parted (suc f) updates InComment n last (c ∷ cs) =
    if c == bad then ([], AtFault last)
    else if is_line_end c then parted f updates Between (place_after n 1) last cs
    else parted f updates InComment (place_after n (length (encode_utf8 c))) last cs
parted (suc f) updates Between n last (c ∷ cs) =
    if is_ws c then parted f updates Between (place_after n 1) last cs
    else if c == number_sign then parted f updates InComment (place_after n 1) last cs
    else from_found (λ k ds. parted f updates Between k k ds) updates n last (longest (tokens updates) (c ∷ cs))

-- bytes from there on
abbrev pub text_cut_from : Bool → Gap → ℕ → ℕ → List ℕ → PartedTokens
text_cut_from updates m n last x = parted (length (symbols x)) updates m n last (symbols x)

-- a whole text
abbrev pub cut_of_text : Bool → List ℕ → PartedTokens
cut_of_text updates x = text_cut_from updates Between 0 0 x

-- bytes from there on are cut so
abbrev pub HasThatCut : Bool → Gap → ℕ → ℕ → List ℕ → Type 0
HasThatCut updates m n last x = let p = text_cut_from updates m n last x in Cut updates m n last x p.0 p.1

-- two cuts of a text are the same
abbrev pub HasOneCut : Bool → List ℕ → Type 0
HasOneCut updates x =
    (ts us : List Lexeme) (e f : CutEnd) → IsCut updates x ts e → IsCut updates x us f → (ts ≡ us) × (e ≡ f)
