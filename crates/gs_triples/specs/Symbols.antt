-- What the grammar of Turtle (25 February 2014, section 6.5) sees of a token: its terminal, and its text where that is open.
use Rattle.std.specs.Prelude.{ℕ, if◌then◌else◌, List, [], ◌∷◌, ◌++◌, codes, map}
use Rattle.std.specs.Str.{is_utf8}
use Rattle.gs_lex.specs.Tokens.{Lexeme}
use Rattle.gs_lex.specs.declared.kinds.TokenKind.{TokenKind}
use Rattle.gs_lex.specs.declared.kinds.TokenKind.TheVariants as kind

-- a token that is a term by itself: [18] IRIREF, [139s] PNAME_NS, [140s] PNAME_LN, [141s] BLANK_NODE_LABEL; a number or a
-- boolean, with its datatype; in updates VAR1 or VAR2 (SPARQL 1.1 Query, section 19.8)
pub data TermToken : Type 0 where
  -- with the number of bytes up to its end, since it may end a directive
  Reference : (text : List ℕ) (end : ℕ) → TermToken
  Namespace : (text : List ℕ) → TermToken
  Name : (text : List ℕ) → TermToken
  Label : (text : List ℕ) → TermToken
  Plain : (lexical datatype : List ℕ) → TermToken
  -- with its name, which stands after the mark
  Variable : (name : List ℕ) → TermToken

-- a terminal, with what it leaves open
pub data Symbol : Type 0 where
  ATerm : TermToken → Symbol
  -- [17] String
  Text : (text : List ℕ) → Symbol
  -- [144s] LANGTAG, '@prefix' or '@base'
  At : (text : List ℕ) → Symbol
  Carets : Symbol
  -- 'a'
  A : Symbol
  Open : Symbol
  Close : Symbol
  OpenList : Symbol
  CloseList : Symbol
  Semicolon : Symbol
  Comma : Symbol
  -- '.', with the number of bytes up to its end
  Dot : (end : ℕ) → Symbol
  PrefixWord : Symbol
  BaseWord : Symbol
  -- what stands in updates alone, or is no text, with the number of bytes up to its end
  Foreign : (kind : TokenKind) (end : ℕ) → Symbol

-- a name of the XML Schema datatypes
abbrev pub xsd : List ℕ → List ℕ
xsd name = codes "http://www.w3.org/2001/XMLSchema#" ++ name

-- the text after its first character
abbrev pub after_mark : List ℕ → List ℕ
after_mark [] = []
after_mark (mark ∷ x) = x

-- 2.5.2, 2.5.3: numbers and booleans have the lexical form that is written
abbrev pub symbol : TokenKind → List ℕ → ℕ → Symbol
symbol kind.IriRef x n = ATerm (Reference x n)
symbol kind.PnameNs x n = ATerm (Namespace x)
symbol kind.PnameLn x n = ATerm (Name x)
symbol kind.BlankNodeLabel x n = ATerm (Label x)
symbol kind.Integer x n = ATerm (Plain x (xsd (codes "integer")))
symbol kind.Decimal x n = ATerm (Plain x (xsd (codes "decimal")))
symbol kind.Double x n = ATerm (Plain x (xsd (codes "double")))
symbol kind.True x n = ATerm (Plain (codes "true") (xsd (codes "boolean")))
symbol kind.False x n = ATerm (Plain (codes "false") (xsd (codes "boolean")))
symbol kind.StringLiteralQuote x n = Text x
symbol kind.StringLiteralSingleQuote x n = Text x
symbol kind.StringLiteralLongQuote x n = Text x
symbol kind.StringLiteralLongSingleQuote x n = Text x
symbol kind.LangTag x n = At x
symbol kind.Carets x n = Carets
symbol kind.A x n = A
symbol kind.OpenBracket x n = Open
symbol kind.CloseBracket x n = Close
symbol kind.OpenParenthesis x n = OpenList
symbol kind.CloseParenthesis x n = CloseList
symbol kind.Semicolon x n = Semicolon
symbol kind.Comma x n = Comma
symbol kind.Dot x n = Dot n
symbol kind.Var x n = ATerm (Variable (after_mark x))
symbol kind.Prefix x n = PrefixWord
symbol kind.Base x n = BaseWord
symbol k x n = Foreign k n

-- the symbol of a token, whose text is UTF-8
abbrev pub symbol_of : Lexeme → Symbol
symbol_of t = if is_utf8 t.text then symbol t.kind t.text t.«end» else Foreign t.kind t.«end»

-- the symbols of a text's tokens
abbrev pub symbols_of : List Lexeme → List Symbol
symbols_of ts = map symbol_of ts
