-- The sets of characters that the terminals of Turtle and SPARQL Update name.
use Rattle.std.specs.Prelude.{ℕ, Bool, not, ◌==◌, ◌||◌}
use Rattle.gs_model.specs.Characters.{quote, hyphen, dot, colon, less_than, greater_than, at_sign, left_bracket, right_bracket, backslash, caret, underscore, is_iri_char}
use Rattle.gs_model.specs.Ascii.{big_u, small_u}
use Rattle.gs_model.specs.Punctuation.{dollar, percent, apostrophe, left_parenthesis, right_parenthesis, comma, semicolon, question_mark, left_brace, right_brace}
use Rattle.gs_automaton.specs.Classes as is

-- the sets of characters that the terminals name: one character, or a class
pub data Chars : Type 0 where
  Less : Chars
  Greater : Chars
  Quote : Chars
  Apostrophe : Chars
  Backslash : Chars
  Colon : Chars
  Underscore : Chars
  AtSign : Chars
  Dash : Chars
  Dot : Chars
  Percent : Chars
  Caret : Chars
  Semicolon : Chars
  Comma : Chars
  OpenBracket : Chars
  CloseBracket : Chars
  OpenParenthesis : Chars
  CloseParenthesis : Chars
  OpenBrace : Chars
  CloseBrace : Chars
  VariableMark : Chars
  SmallU : Chars
  BigU : Chars
  IriChar : Chars
  ShortQuoteChar : Chars
  ShortApostropheChar : Chars
  LongQuoteChar : Chars
  LongApostropheChar : Chars
  Echar : Chars
  Hex : Chars
  Digit : Chars
  Sign : Chars
  ExponentLetter : Chars
  Alpha : Chars
  Alphanumeric : Chars
  Base : Chars
  NameChar : Chars
  LabelStart : Chars
  LocalStart : Chars
  LocalChar : Chars
  LocalEscape : Chars
  VariableChar : Chars

-- whether a character is in the set
abbrev pub has_char : Chars → ℕ → Bool
has_char Less c = c == less_than
has_char Greater c = c == greater_than
has_char Quote c = c == quote
has_char Apostrophe c = c == apostrophe
has_char Backslash c = c == backslash
has_char Colon c = c == colon
has_char Underscore c = c == underscore
has_char AtSign c = c == at_sign
has_char Dash c = c == hyphen
has_char Dot c = c == dot
has_char Percent c = c == percent
has_char Caret c = c == caret
has_char Semicolon c = c == semicolon
has_char Comma c = c == comma
has_char OpenBracket c = c == left_bracket
has_char CloseBracket c = c == right_bracket
has_char OpenParenthesis c = c == left_parenthesis
has_char CloseParenthesis c = c == right_parenthesis
has_char OpenBrace c = c == left_brace
has_char CloseBrace c = c == right_brace
has_char VariableMark c = c == question_mark || c == dollar
has_char SmallU c = c == small_u
has_char BigU c = c == big_u
has_char IriChar c = is_iri_char c
has_char ShortQuoteChar c = not (c == quote || c == backslash || is.is_line_end c)
has_char ShortApostropheChar c = not (c == apostrophe || c == backslash || is.is_line_end c)
has_char LongQuoteChar c = not (c == quote || c == backslash)
has_char LongApostropheChar c = not (c == apostrophe || c == backslash)
has_char Echar c = is.is_echar c
has_char Hex c = is.is_hex c
has_char Digit c = is.is_digit c
has_char Sign c = is.is_sign c
has_char ExponentLetter c = is.is_exponent c
has_char Alpha c = is.is_alpha c
has_char Alphanumeric c = is.is_alphanumeric c
has_char Base c = is.is_prefix_start c
has_char NameChar c = is.is_name_char c
has_char LabelStart c = is.is_label_start c
has_char LocalStart c = is.is_local_start c
has_char LocalChar c = is.is_local c
has_char LocalEscape c = is.is_local_escape c
has_char VariableChar c = is.is_variable c
