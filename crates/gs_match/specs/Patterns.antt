-- Patterns by number. No public clause cites this module.
use Rattle.std.specs.Prelude.{◌≡◌, ◌⊎◌, List, [], ◌∷◌, map, Option, MatchOption}
use Rattle.std.specs.declared.vec.Vec.{Vec}
use Rattle.gs_term.specs.declared.patterns.Part.{Part}
use Rattle.gs_term.specs.declared.patterns.Part.TheVariants.{Term as TheTerm, Variable as TheVariable}
use Rattle.gs_term.specs.declared.patterns.Pattern.{Pattern}
use Rattle.gs_dict.specs.Numbering.{IsNew}
use Rattle.gs_keys.specs.Texts.{Terms, term_at, HasTerm}
use Rattle.gs_joins.specs.declared.sought.Item.{Item}
use Rattle.gs_joins.specs.declared.sought.Item.TheVariants.{Number, Variable}
use Rattle.gs_joins.specs.declared.sought.Sought.{Sought}

-- the part that an item stands for
abbrev pub part_of : Terms → Item → Part
part_of terms (Number n) = TheTerm (term_at terms n)
part_of terms (Variable x) = TheVariable x.now

-- the pattern that is sought
abbrev pub pattern_of : Terms → Sought → Pattern
pattern_of terms s = record { subject = part_of terms s.subject; predicate = part_of terms s.predicate; object = part_of terms s.object }

-- an item's number has a term
abbrev pub IsGivenItem : Terms → Item → Type 0
IsGivenItem terms (Number n) = HasTerm terms n
IsGivenItem terms (Variable x) = Unit {0}

-- the item stands for the part
abbrev pub IsPart : Terms → Item → Part → Type 0
IsPart terms i p = IsGivenItem terms i × (part_of terms i ≡ p)

-- the part is a term without a number
abbrev pub IsLackingPart : Terms → Part → Type 0
IsLackingPart terms (TheTerm t) = IsNew terms t
IsLackingPart terms (TheVariable x) = ⊥

-- each item's number has a term
pub record IsGivenSought (terms : Terms) (s : Sought) : Type 0 where
  pub subject : IsGivenItem terms s.subject
  pub predicate : IsGivenItem terms s.predicate
  pub object : IsGivenItem terms s.object

-- the pattern is sought
abbrev pub IsPattern : Terms → Sought → Pattern → Type 0
IsPattern terms s p = IsGivenSought terms s × (pattern_of terms s ≡ p)

-- a term of the pattern has no number
abbrev pub IsLacking : Terms → Pattern → Type 0
IsLacking terms p = IsLackingPart terms p.subject ⊎ IsLackingPart terms p.predicate ⊎ IsLackingPart terms p.object

-- each number of these has a term
abbrev pub AreGiven : Terms → List Sought → Type 0
AreGiven terms [] = Unit {0}
AreGiven terms (s ∷ ss) = IsGivenSought terms s × AreGiven terms ss

-- a term of one of the patterns has no number
abbrev pub OneLacks : Terms → List Pattern → Type 0
OneLacks terms [] = ⊥
OneLacks terms (p ∷ ps) = IsLacking terms p ⊎ OneLacks terms ps

-- the patterns are sought, or a term of one has no number
abbrev pub ArePatterns : {X : Type 0} → Terms → List Pattern → Option (Vec Sought X) → Type 0
ArePatterns terms ps o = MatchOption o (OneLacks terms ps) (λ ss. AreGiven terms ss.items × (map (pattern_of terms) ss.items ≡ ps))
