-- What may follow the tokens of a goal, so that it ends there.
use Rattle.std.proofs.Common.{◌≡◌, ℕ, List, [], ◌∷◌, ◌++◌, refl, sym, append_assoc, subst}
use Rattle.gs_blank.specs.Numbers.{Numbers}
use Rattle.gs_triples.specs.Symbols.{Symbol, At, Carets}
use Rattle.gs_triples.specs.Meanings as meaning
use Rattle.gs_triples.specs.Meanings.{Context}
use Rattle.gs_triples.specs.Goals.{Goal, Object, Verbs, After, Semis, Items}
use Rattle.gs_triples.specs.Triples.{EndsVerbs}
use Rattle.gs_triples.specs.Rules as rule
use Rattle.gs_triples.specs.Rules.{Covers}
use Rattle.gs_triples.specs.Reading.{bare, literal}

-- no language tag and no datatype
abbrev pub NoSuffix : List Symbol → Type 0
NoSuffix (At y ∷ ts) = ⊥
NoSuffix (Carets ∷ ts) = ⊥
NoSuffix ts = Unit {0}

-- where verbs end, no suffix stands
pub no_suffix : (ts : List Symbol) → EndsVerbs ts → NoSuffix ts
no_suffix [] h = tt
no_suffix (At x ∷ ts) h = elim h [ ]
no_suffix (Carets ∷ ts) h = elim h [ ]
no_suffix (t ∷ ts) h = tt

module _ {Value : Type 0} where
  -- the tokens after a goal, so that it ends there
  abbrev pub Follows : Goal Value → List Symbol → Type 0
  Follows (Object d) ts = NoSuffix ts
  Follows (Verbs d s) ts = EndsVerbs ts
  Follows (After d s p) ts = EndsVerbs ts
  Follows (Semis d s) ts = EndsVerbs ts
  Follows g ts = Unit {0}

module _ {Value Triple : Type 0} where
  -- after an object, where verbs and objects go on or end
  pub after_object : {env : Context Value Triple} {d : ℕ} {s p v : Value} {n k : Numbers} {ys : List Symbol} {T : List Triple}
      → Covers env (After d s p) n ys v T k → (rest : List Symbol) → EndsVerbs rest → NoSuffix (ys ++ rest)
  after_object (rule.no_more s p n) rest h = no_suffix rest h
  after_object (rule.comma a b) rest h = tt
  after_object (rule.semicolon a) rest h = tt

  -- an object begins with no suffix
  object_begins : {env : Context Value Triple} {d : ℕ} {v : Value} {n k : Numbers} {xs : List Symbol} {T : List Triple}
      → Covers env (Object d) n xs v T k → (rest : List Symbol) → NoSuffix (xs ++ rest)
  object_begins (rule.word w h) rest = tt
  object_begins (rule.simple x h) rest = tt
  object_begins (rule.tagged x y h) rest = tt
  object_begins (rule.typed x t h) rest = tt
  object_begins (rule.brackets h c) rest = tt
  object_begins (rule.list h c) rest = tt

  -- after an object of a collection
  pub after_cell : {env : Context Value Triple} {d h m : ℕ} {v : Value} {n k : Numbers} {ys : List Symbol} {T : List Triple}
      → Covers env (Items d h m) n ys v T k → (rest : List Symbol) → NoSuffix (ys ++ rest)
  after_cell (rule.ended h m n) rest = tt
  after_cell (rule.item {xs = xs} {ys = ys} a b) rest = subst NoSuffix (sym (append_assoc xs ys rest)) (object_begins a (ys ++ rest))

  -- a string alone
  pub literal-simple : (env : Context Value Triple) (n : Numbers) (x : List ℕ) (ts : List Symbol) → NoSuffix ts
      → literal env n x ts ≡ bare env n ts (meaning.simple x)
  literal-simple env n x [] h = refl
  literal-simple env n x (At y ∷ ts) h = elim h [ ]
  literal-simple env n x (Carets ∷ ts) h = elim h [ ]
  literal-simple env n x (t ∷ ts) h = refl
