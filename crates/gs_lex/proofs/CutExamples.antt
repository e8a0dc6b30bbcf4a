-- The tokens of two texts, computed.
use Rattle.std.proofs.Common.{◌≡◌, false, [], ◌∷◌, refl}
use Rattle.std.specs.Prelude.{codes}
use lib.Utf8.{encode}
use Rattle.gs_machine.specs.Machines.{rest}
use Rattle.gs_machine.specs.Utf8.{symbols}
use Rattle.gs_lex.specs.Cuts.{parted, cut_of_text}
use Rattle.gs_lex.specs.Tokens.{AtEnd, AtFault}
use Rattle.gs_lex.specs.declared.kinds.TokenKind.TheVariants as kind

-- an IRI, the word `a`, a string with its language, and the dot
triple : cut_of_text false (codes "<a> a \"b\"@en .") ≡ (
  record { kind = kind.IriRef; text = codes "<a>"; start = 0; «end» = 3 }
      ∷ record { kind = kind.A; text = []; start = 4; «end» = 5 }
      ∷ record { kind = kind.StringLiteralQuote; text = codes "\"b\""; start = 6; «end» = 9 }
      ∷ record { kind = kind.LangTag; text = codes "@en"; start = 9; «end» = 12 }
      ∷ record { kind = kind.Dot; text = []; start = 13; «end» = 14 }
      ∷ [],
  AtEnd,
)
unfolding parted symbols rest encode
triple = refl

-- `a.b` is no prefix without its colon, and `b` is no word of Turtle
words : cut_of_text false (codes "a.b") ≡ (
  record { kind = kind.A; text = []; start = 0; «end» = 1 }
      ∷ record { kind = kind.Dot; text = []; start = 1; «end» = 2 }
      ∷ [],
  AtFault 2,
)
unfolding parted symbols rest encode
words = refl
