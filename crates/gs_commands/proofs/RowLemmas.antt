-- A line that begins with the word of one row says nothing of another row.
use Rattle.std.proofs.Common.{◌≡◌, ℕ, ◌^◌, ◌-◌, true, false, ◌==◌, List, [], ◌∷◌, ◌++◌, refl, sym, ap, ◌∙◌, subst}
use Rattle.std.specs.Prelude.{codes, Option, Some, None, MatchOption}
use Rattle.std.specs.Str.{IsUtf8, bytes_eq}
use Rattle.std.proofs.lemmas.Slice.Eq.{bytes_eq-Decides}
use Rattle.std.proofs.lemmas.Bool.{eqb-true, eq-eqb}
use Rattle.gs_model.specs.Terms.{numeral}
use Rattle.gs_model.proofs.TextLemmas.{AllOther, other-numeral}
use Rattle.gs_event.specs.declared.events.Event.TheVariants.{Seat as At, Reclaim}
use Rattle.gs_commands.specs.declared.commands.Command.{Command}
use Rattle.gs_commands.specs.declared.commands.Command.TheVariants.{Nothing, Begin, Ask, Count, Feed, Patch, Cut}
use Rattle.gs_commands.specs.Found.{Finds, SaysNumber}
use Rattle.gs_commands.specs.Commands.{SaysCommand, SaysNothingAt, SaysStart, is_skipped}
use Rattle.gs_commands.proofs.WordLemmas.{first_differs}

tail_same : (c : ℕ) (xs ys : List ℕ) → c ∷ xs ≡ c ∷ ys → xs ≡ ys
tail_same c xs ys e = cc

-- a seat's line begins with a digit
pub other_first : (b : ℕ) (w y rest : List ℕ) → AllOther b w → (32 == b) ≡ false → b ∷ y ≡ (w ++ 32 ∷ []) ++ rest → ⊥
other_first b [] y rest others space e =
    let same : 32 ≡ b = cc in
    let alike : (32 == b) ≡ true = eq-eqb 32 b same in
    let clash : false ≡ true = sym space ∙ alike in cc
other_first b (d ∷ ds) y rest others space e =
    let same : d ≡ b = cc in
    let alike : (d == b) ≡ true = eq-eqb d b same in
    let clash : false ≡ true = sym others.0 ∙ alike in cc

pub skipped_digit : (w x rest : List ℕ) → AllOther 35 w → is_skipped x ≡ true → x ≡ (w ++ 32 ∷ []) ++ rest → ⊥
skipped_digit [] [] rest others skipped e = cc
skipped_digit (d ∷ ds) [] rest others skipped e = cc
skipped_digit w (b ∷ y) rest others skipped e =
    let same : b ≡ 35 = eqb-true b 35 skipped in
    other_first 35 w y rest others refl (ap (λ z. z ∷ y) (sym same) ∙ e)

pub skipped_none : (x : List ℕ) → true ≡ is_skipped x → ¬ IsUtf8 x → (c : Command) → ¬ SaysCommand c x
skipped_none x skipped other Nothing says = other says.1
skipped_none x skipped other (Begin a b c) says = let clash : true ≡ false = skipped ∙ ap is_skipped says.parts in cc
skipped_none x skipped other (Ask (At s action)) says = skipped_digit (numeral s) x says.1.rest (other-numeral 35 refl s) (sym skipped) says.1.parts
skipped_none x skipped other (Ask (Reclaim n)) says = let clash : true ≡ false = skipped ∙ ap is_skipped says.parts in cc
skipped_none x skipped other Count says = let clash : true ≡ false = skipped ∙ ap is_skipped says in cc
skipped_none x skipped other (Feed s l y) says = skipped_digit (numeral s) x says.1.rest (other-numeral 35 refl s) (sym skipped) says.1.parts
skipped_none x skipped other (Patch s y) says = skipped_digit (numeral s) x says.1.rest (other-numeral 35 refl s) (sym skipped) says.1.parts
skipped_none x skipped other (Cut n) says = let clash : true ≡ false = skipped ∙ ap is_skipped says.parts in cc

pub store_none : (x rest : List ℕ) → x ≡ codes "store " ++ rest → false ≡ is_skipped x → ((p : ℕ × ℕ × ℕ) → ¬ SaysStart p.0 p.1 p.2 rest) → (c : Command) → ¬ SaysCommand c x
store_none x rest e plain none Nothing says = let clash : false ≡ true = plain ∙ says.0 in cc
store_none x rest e plain none (Begin a b c) says =
    let P : List ℕ → Type 0 = λ y. SaysStart a b c y in
    let same : says.rest ≡ rest = let f = says.parts in cc in
    none (a, b, c) (subst P same says.says)
store_none x rest e plain none (Ask (At s action)) says = other_first 115 (numeral s) (codes "tore " ++ rest) says.1.rest (other-numeral 115 refl s) refl (sym e ∙ says.1.parts)
store_none x rest e plain none (Ask (Reclaim n)) says = first_differs 115 114 (codes "tore " ++ rest) (codes "eclaim " ++ says.rest) refl (sym e ∙ says.parts)
store_none x rest e plain none Count says = first_differs 115 99 (codes "tore " ++ rest) (codes "ounts") refl (sym e ∙ says)
store_none x rest e plain none (Feed s l y) says = other_first 115 (numeral s) (codes "tore " ++ rest) says.1.rest (other-numeral 115 refl s) refl (sym e ∙ says.1.parts)
store_none x rest e plain none (Patch s y) says = other_first 115 (numeral s) (codes "tore " ++ rest) says.1.rest (other-numeral 115 refl s) refl (sym e ∙ says.1.parts)
store_none x rest e plain none (Cut n) says = first_differs 115 99 (codes "tore " ++ rest) (codes "ut " ++ says.rest) refl (sym e ∙ says.parts)

pub reclaim_none : (x rest : List ℕ) → x ≡ codes "reclaim " ++ rest → false ≡ is_skipped x → ((n : ℕ) → ¬ SaysNumber (2 ^ 64 - 1) n rest) → (c : Command) → ¬ SaysCommand c x
reclaim_none x rest e plain none Nothing says = let clash : false ≡ true = plain ∙ says.0 in cc
reclaim_none x rest e plain none (Begin a b c) says = first_differs 114 115 (codes "eclaim " ++ rest) (codes "tore " ++ says.rest) refl (sym e ∙ says.parts)
reclaim_none x rest e plain none (Ask (At s action)) says = other_first 114 (numeral s) (codes "eclaim " ++ rest) says.1.rest (other-numeral 114 refl s) refl (sym e ∙ says.1.parts)
reclaim_none x rest e plain none (Ask (Reclaim n)) says =
    let P : List ℕ → Type 0 = λ y. SaysNumber (2 ^ 64 - 1) n y in
    let same : says.rest ≡ rest = let f = says.parts in cc in
    none n (subst P same says.says)
reclaim_none x rest e plain none Count says = first_differs 114 99 (codes "eclaim " ++ rest) (codes "ounts") refl (sym e ∙ says)
reclaim_none x rest e plain none (Feed s l y) says = other_first 114 (numeral s) (codes "eclaim " ++ rest) says.1.rest (other-numeral 114 refl s) refl (sym e ∙ says.1.parts)
reclaim_none x rest e plain none (Patch s y) says = other_first 114 (numeral s) (codes "eclaim " ++ rest) says.1.rest (other-numeral 114 refl s) refl (sym e ∙ says.1.parts)
reclaim_none x rest e plain none (Cut n) says = first_differs 114 99 (codes "eclaim " ++ rest) (codes "ut " ++ says.rest) refl (sym e ∙ says.parts)

pub cut_none : (x rest : List ℕ) → x ≡ codes "cut " ++ rest → false ≡ is_skipped x → ((n : ℕ) → ¬ SaysNumber (2 ^ 64 - 1) n rest) → (c : Command) → ¬ SaysCommand c x
cut_none x rest e plain none Nothing says = let clash : false ≡ true = plain ∙ says.0 in cc
cut_none x rest e plain none (Begin a b c) says = first_differs 99 115 (codes "ut " ++ rest) (codes "tore " ++ says.rest) refl (sym e ∙ says.parts)
cut_none x rest e plain none (Ask (At s action)) says = other_first 99 (numeral s) (codes "ut " ++ rest) says.1.rest (other-numeral 99 refl s) refl (sym e ∙ says.1.parts)
cut_none x rest e plain none (Ask (Reclaim n)) says = first_differs 99 114 (codes "ut " ++ rest) (codes "eclaim " ++ says.rest) refl (sym e ∙ says.parts)
cut_none x rest e plain none Count says = first_differs 117 111 (codes "t " ++ rest) (codes "unts") refl (tail_same 99 (codes "ut " ++ rest) (codes "ounts") (sym e ∙ says))
cut_none x rest e plain none (Feed s l y) says = other_first 99 (numeral s) (codes "ut " ++ rest) says.1.rest (other-numeral 99 refl s) refl (sym e ∙ says.1.parts)
cut_none x rest e plain none (Patch s y) says = other_first 99 (numeral s) (codes "ut " ++ rest) says.1.rest (other-numeral 99 refl s) refl (sym e ∙ says.1.parts)
cut_none x rest e plain none (Cut n) says =
    let P : List ℕ → Type 0 = λ y. SaysNumber (2 ^ 64 - 1) n y in
    let same : says.rest ≡ rest = let f = says.parts in cc in
    none n (subst P same says.says)

pub not_text : (x y z : List ℕ) → y ≡ z → false ≡ bytes_eq x y → ¬ (x ≡ z)
not_text x y z is other e =
    let alike : bytes_eq x y ≡ true = (bytes_eq-Decides x y).1 (e ∙ sym is) in
    let clash : false ≡ true = other ∙ alike in cc

-- no row's word begins the line
pub record IsOther (x : List ℕ) : Type 0 where
  pub plain : false ≡ is_skipped x
  pub no_counts : ¬ (x ≡ codes "counts")
  pub no_store : (rest : List ℕ) → ¬ (x ≡ codes "store " ++ rest)
  pub no_reclaim : (rest : List ℕ) → ¬ (x ≡ codes "reclaim " ++ rest)
  pub no_cut : (rest : List ℕ) → ¬ (x ≡ codes "cut " ++ rest)

pub other_none : (x : List ℕ) → IsOther x → SaysNothingAt x → (c : Command) → ¬ SaysCommand c x
other_none x is none Nothing says = let clash : false ≡ true = is.plain ∙ says.0 in cc
other_none x is none (Begin a b c) says = is.no_store says.rest says.parts
other_none x is none (Ask (At s action)) says = none.no_event s action says
other_none x is none (Ask (Reclaim n)) says = is.no_reclaim says.rest says.parts
other_none x is none Count says = is.no_counts says
other_none x is none (Feed s l y) says = none.no_feed s l y.items says
other_none x is none (Patch s y) says = none.no_patch s y.items says
other_none x is none (Cut n) says = is.no_cut says.rest says.parts

-- what a line says that begins with a seat's number
pub finds_at : (x : List ℕ) → IsOther x → (found : Option Command) → MatchOption found (SaysNothingAt x) (λ c. SaysCommand c x) → Finds SaysCommand x found
finds_at x is None nothing = other_none x is nothing
finds_at x is (Some c) says = says
