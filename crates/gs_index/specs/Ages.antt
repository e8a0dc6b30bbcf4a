-- The order of entries, and of their numbers: by the graphs that the entries are of, and of one graph the youngest first.
use Rattle.std.specs.Prelude.{ℕ, Bool, true, false, List, [], None, map, slice_index_or}
use Rattle.std.specs.Str.{bytes_eq}
use Rattle.std.specs.Ordering.{ordering_then, nat_cmp, on}
use Rattle.std.specs.Cmp.{IsTotalOrder}
use Rattle.std.specs.Cmp.Lexicographic.{slice_cmp}
use Rattle.std.proofs.lemmas.Cmp.{then_total, on_total, back_total, nat_cmp_total, nat_list_cmp_total}
use Rattle.std.specs.declared.cmp.Ordering.{Ordering}
use Rattle.gs_term.specs.declared.names.Target.{Target}
use Rattle.gs_term.specs.declared.names.Target.TheVariants.{Default, Named}
use Rattle.gs_term.specs.Names.{in_brackets}
use Rattle.gs_catalogue.specs.Catalogues.{empty_version}
use Rattle.gs_pool.specs.declared.nodes.Key.{Key}
use Rattle.gs_index.specs.declared.entries.Entry.{Entry}

-- what stands under a number that is not in use
abbrev pub blank_entry : Entry
blank_entry = record { target = Default; version = empty_version; birth = 0; death = None }

-- by what an entry is ordered: the graph that it is of, and the commit that made it
pub record Age : Type 0 where
  pub target : Target
  pub birth : ℕ

-- the age of an entry
abbrev pub age_of : Entry → Age
age_of e = record { target = e.target; birth = e.birth }

-- the text by which a target stands in the order: its name as it stands in a line, and none for the default graph
abbrev pub target_text : Target → List ℕ
target_text Default = []
target_text (Named name) = in_brackets name

-- targets are ordered by these texts: the default graph first, and names as `name_cmp` has them
abbrev pub target_cmp : Target → Target → Ordering
target_cmp = on target_text (slice_cmp nat_cmp)

-- whether two targets are the same
abbrev pub is_target : Target → Target → Bool
is_target Default Default = true
is_target (Named a) (Named b) = bytes_eq a b
is_target Default (Named b) = false
is_target (Named a) Default = false

-- ages are ordered by target; of one target the greater birth is first
abbrev pub age_cmp : Age → Age → Ordering
age_cmp a b = ordering_then (target_cmp a.target b.target) (nat_cmp b.birth a.birth)

-- numbers are ordered by their ages; of one age the greater number is first
abbrev pub aged_number_cmp : (ℕ → Age) → ℕ → ℕ → Ordering
aged_number_cmp age m n = ordering_then (age_cmp (age m) (age n)) (nat_cmp n m)

-- keys are ordered by their subjects, which are numbers
abbrev pub aged_key_cmp : (ℕ → Age) → Key → Key → Ordering
aged_key_cmp age a b = aged_number_cmp age a.subject b.subject

-- that is a total order
pub aged_key_total : (age : ℕ → Age) → IsTotalOrder (aged_key_cmp age)
aged_key_total age =
    then_total
    (then_total (on_total (λ (k : Key). target_text (age k.subject).target) nat_list_cmp_total) (on_total (λ (k : Key). (age k.subject).birth) (back_total nat_cmp_total)))
    (on_total (λ (k : Key). k.subject) (back_total nat_cmp_total))

-- the age of a number's entry; past the last entry it is that of this target at this birth
abbrev pub age_among : List Entry → Target → ℕ → ℕ → Age
age_among entries target birth n = slice_index_or (map age_of entries) n (record { target = target; birth = birth })

-- the age of a number's entry
abbrev pub age_in : List Entry → ℕ → Age
age_in entries = age_among entries Default 0
