-- The five cases of a resolved reference.
use Rattle.std.proofs.Common.{◌≡◌, ℕ, Bool, true, false, List, [], ◌∷◌, ◌++◌, ◌==◌, length, arith, refl, sym, ap, ◌∙◌}
use Rattle.std.specs.Prelude.{Option, Some, None}
use Rattle.std.specs.Option.{is_some, option_copied, option_or}
use Rattle.std.proofs.lemmas.Bool.{ne_eqb}
use denote.Ref.{Bor}
use Rattle.gs_iri.specs.References.{Reference, rest_after}
use Rattle.gs_iri.specs.Dots.{dots}
use Rattle.gs_iri.specs.Resolving.{parts_text, recomposed, is_empty, directory_of, resolved_parts}

some_copied : (o : Option (Bor (List ℕ))) → is_some (option_copied o) ≡ is_some o
some_copied None = refl
some_copied (Some x) = refl

-- a part that is defined, or is not, as its test says
pub is_tested : (o : Option (Bor (List ℕ))) {d : Option (List ℕ)} {b t : Bool} → option_copied o ≡ d → b ≡ is_some o → b ≡ t → is_some d ≡ t
is_tested o e p q = sym (ap is_some e) ∙ some_copied o ∙ sym p ∙ q

pub parts_same : {s s' a a' : Option (List ℕ)} {p p' : List ℕ} {q q' f f' : Option (List ℕ)} → s ≡ s' → a ≡ a' → p ≡ p' → q ≡ q' → f ≡ f' → parts_text s a p q f ≡ parts_text s' a' p' q' f'
parts_same e1 e2 e3 e4 e5 = cc

pub own_scheme : (b r : Reference) → is_some r.scheme ≡ true → parts_text r.scheme r.authority (dots r.path) r.query r.fragment ≡ recomposed (resolved_parts b r)
unfolding resolved_parts
own_scheme b r h = rw h refl

pub own_authority : (b r : Reference) → is_some r.scheme ≡ false → is_some r.authority ≡ true → parts_text b.scheme r.authority (dots r.path) r.query r.fragment ≡ recomposed (resolved_parts b r)
unfolding resolved_parts
own_authority b r h k = rw (h, k) refl

pub no_path : (b r : Reference) → is_some r.scheme ≡ false → is_some r.authority ≡ false → is_empty r.path ≡ true → parts_text b.scheme b.authority b.path (option_or r.query b.query) r.fragment ≡ recomposed (resolved_parts b r)
unfolding resolved_parts
no_path b r h k l = rw (h, k, l) refl

pub own_path : (b r : Reference) → is_some r.scheme ≡ false → is_some r.authority ≡ false → is_empty r.path ≡ false → is_some (rest_after 47 r.path) ≡ true
    → parts_text b.scheme b.authority (dots r.path) r.query r.fragment ≡ recomposed (resolved_parts b r)
unfolding resolved_parts
own_path b r h k l m = rw (h, k, l, m) refl

pub merged_path : (b r : Reference) → is_some r.scheme ≡ false → is_some r.authority ≡ false → is_empty r.path ≡ false → is_some (rest_after 47 r.path) ≡ false
    → parts_text b.scheme b.authority (dots (directory_of b.authority b.path ++ r.path)) r.query r.fragment ≡ recomposed (resolved_parts b r)
unfolding resolved_parts
merged_path b r h k l m = rw (h, k, l, m) refl

empty_test : (x : List ℕ) → (length x == 0) ≡ is_empty x
empty_test [] = refl
empty_test (c ∷ cs) = ne_eqb (length (c ∷ cs)) 0 (λ e. absurd (omega arith))

-- a path that is empty, or is not, as its test says
pub empty_tested : (x : List ℕ) {y : List ℕ} {b t : Bool} → x ≡ y → b ≡ (length x == 0) → b ≡ t → is_empty y ≡ t
empty_tested x e p q = sym (ap is_empty e) ∙ sym (empty_test x) ∙ sym p ∙ q

pub or_copied : (o a b : Option (Bor (List ℕ))) → o ≡ option_or a b → option_copied o ≡ option_or (option_copied a) (option_copied b)
or_copied o None b e = ap option_copied e
or_copied o (Some x) b e = ap option_copied e
