-- The kinds of tokens: which words each grammar has, and which kinds leave the token's text open.
use Rattle.std.specs.Prelude.{Bool, true, false, ℕ, List, Option, Some, None, if◌then◌else◌, map, codes, bytes_eq}
use Rattle.std.specs.Char.{to_ascii_lowercase}
use Rattle.gs_lex.specs.declared.kinds.TokenKind.{TokenKind}
use Rattle.gs_lex.specs.declared.kinds.TokenKind.TheVariants as kind
use Rattle.gs_automaton.specs.declared.terminals.Terminal.{Terminal}
use Rattle.gs_automaton.specs.declared.terminals.Terminal.TheVariants as terminal

-- a word in any case
abbrev pub is_word : List ℕ → List ℕ → Bool
is_word x word = bytes_eq (map to_ascii_lowercase x) (map to_ascii_lowercase word)

-- the word of a directive, in any case
abbrev pub directive : List ℕ → Option TokenKind
directive x =
    if is_word x (codes "prefix") then Some kind.Prefix
    else if is_word x (codes "base") then Some kind.Base
    else None

-- the other words of updates
abbrev pub update_word : List ℕ → Option TokenKind
update_word x =
    if is_word x (codes "insert") then Some kind.Insert
    else if is_word x (codes "delete") then Some kind.Delete
    else if is_word x (codes "data") then Some kind.Data
    else if is_word x (codes "where") then Some kind.Where
    else if is_word x (codes "graph") then Some kind.Graph
    else if is_word x (codes "load") then Some kind.Load
    else if is_word x (codes "clear") then Some kind.Clear
    else if is_word x (codes "drop") then Some kind.Drop
    else if is_word x (codes "create") then Some kind.Create
    else if is_word x (codes "add") then Some kind.Add
    else if is_word x (codes "move") then Some kind.Move
    else if is_word x (codes "copy") then Some kind.Copy
    else if is_word x (codes "with") then Some kind.With
    else directive x

-- the words of a text: `a`, `true` and `false` in lower case
abbrev pub word : Bool → List ℕ → Option TokenKind
word updates x =
    if bytes_eq x (codes "a") then Some kind.A
    else if bytes_eq x (codes "true") then Some kind.True
    else if bytes_eq x (codes "false") then Some kind.False
    else if updates then update_word x
    else directive x

-- the kind of a token of these bytes; a word that is none of these has none, nor has a string that does not end
abbrev pub token_kind : Bool → Terminal → List ℕ → Option TokenKind
token_kind updates terminal.IriRef x = Some kind.IriRef
token_kind updates terminal.PnameNs x = Some kind.PnameNs
token_kind updates terminal.PnameLn x = Some kind.PnameLn
token_kind updates terminal.BlankNodeLabel x = Some kind.BlankNodeLabel
token_kind updates terminal.LangTag x = Some kind.LangTag
token_kind updates terminal.Integer x = Some kind.Integer
token_kind updates terminal.Decimal x = Some kind.Decimal
token_kind updates terminal.Double x = Some kind.Double
token_kind updates terminal.StringLiteralQuote x = Some kind.StringLiteralQuote
token_kind updates terminal.StringLiteralSingleQuote x = Some kind.StringLiteralSingleQuote
token_kind updates terminal.StringLiteralLongQuote x = Some kind.StringLiteralLongQuote
token_kind updates terminal.StringLiteralLongSingleQuote x = Some kind.StringLiteralLongSingleQuote
token_kind updates terminal.Var x = Some kind.Var
token_kind updates terminal.Word x = word updates x
token_kind updates terminal.Opening x = None
token_kind updates terminal.Dot x = Some kind.Dot
token_kind updates terminal.Semicolon x = Some kind.Semicolon
token_kind updates terminal.Comma x = Some kind.Comma
token_kind updates terminal.OpenBracket x = Some kind.OpenBracket
token_kind updates terminal.CloseBracket x = Some kind.CloseBracket
token_kind updates terminal.OpenParenthesis x = Some kind.OpenParenthesis
token_kind updates terminal.CloseParenthesis x = Some kind.CloseParenthesis
token_kind updates terminal.Carets x = Some kind.Carets
token_kind updates terminal.OpenBrace x = Some kind.OpenBrace
token_kind updates terminal.CloseBrace x = Some kind.CloseBrace

-- whether the kind leaves the token's text open
abbrev pub has_text : TokenKind → Bool
has_text kind.IriRef = true
has_text kind.PnameNs = true
has_text kind.PnameLn = true
has_text kind.BlankNodeLabel = true
has_text kind.LangTag = true
has_text kind.Integer = true
has_text kind.Decimal = true
has_text kind.Double = true
has_text kind.StringLiteralQuote = true
has_text kind.StringLiteralSingleQuote = true
has_text kind.StringLiteralLongQuote = true
has_text kind.StringLiteralLongSingleQuote = true
has_text kind.Var = true
has_text _ = false
