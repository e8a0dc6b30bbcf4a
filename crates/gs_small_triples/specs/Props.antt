-- That the texts in a term are UTF-8 has one proof at most, so a struct can keep that it has terms.
use Rattle.std.proofs.Props.{props}
use Rattle.gs_model.specs.Terms.{Term, Iri, Blank, Literal, LiteralKind, Typed, Tagged, IsText, IsKindText}

-- what is UTF-8 in a literal's kind
IsKindText-prop : (k : LiteralKind) → IsProp (IsKindText k)
IsKindText-prop (Typed d) = hlevel props
IsKindText-prop (Tagged t) = hlevel props

-- what is UTF-8 in a term
pub IsText-prop : (t : Term) → IsProp (IsText t)
IsText-prop (Iri text) = hlevel props
IsText-prop (Blank r k) = hlevel props
IsText-prop (Literal lexical kind) = hlevel (IsKindText-prop, props)
