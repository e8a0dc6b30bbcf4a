-- One number of an index and of a pool changes.
use Rattle.std.proofs.Common.{◌≡◌, ℕ, zero, suc, cond, List, [], ◌∷◌, length, drop, get_or, Bool, false, Option, Some, None, refl, sym, ap, subst, ◌∙◌, inl, inr, arith}
use Rattle.std.proofs.lemmas.Bool.{cases_eq, lt-ltb, le-ltb}
use Rattle.std.proofs.lemmas.List.{get_or_past, length-drop}
use Rattle.gs_pool.specs.declared.nodes.Node.{Node}
use Rattle.gs_pool.specs.Pool.{Nodes, NodeMark, plain, aside, retired, node_at, mark_at}
use Rattle.gs_ledger.specs.Marks.{death_of}
use Rattle.gs_index.specs.declared.entries.Entry.{Entry}
use Rattle.gs_index.specs.Ages.{blank_entry}
use Rattle.gs_index.specs.Indexes.{Indexed, entry_at}
use Rattle.gs_records.specs.Records.{Record, free, opened, unused, kept, record_at, Turns}
use Rattle.gs_records.specs.Stored.{bare_of, record_by, records_of, records_by, StandsForRecord, AllStandForRecords, ChangesOneNumber}

-- the numbers after the first
pub get_or_drop : {X : Type 0} (xs : List X) (n : ℕ) (d : X) → get_or (drop 1 xs) n d ≡ get_or xs (suc n) d
get_or_drop [] n d = refl
get_or_drop (x ∷ xs) n d = refl

-- what a number stands for
pub records_at : (es : List Entry) (ns : List (Option Node)) (ms : List NodeMark) (n : ℕ) → length ns ≡ length es → record_at (records_of es ns ms) n ≡ record_by (get_or ns n None) (get_or ms n plain) (get_or es n blank_entry)
records_at [] ns ms n many = sym (ap (λ o. bare_of o (get_or ms n plain)) (get_or_past ns n None (omega arith)))
records_at (e ∷ es) ns ms zero many = refl
records_at (e ∷ es) ns ms (suc n) many =
    let fewer : length (drop 1 ns) ≡ length es = omega (arith, length-drop 1 ns) in
    records_at es (drop 1 ns) (drop 1 ms) n fewer ∙ (λ i. record_by (get_or_drop ns n None i) (get_or_drop ms n plain i) (get_or es n blank_entry))

bare_is : (o : Option Node) (m : NodeMark) (e : Entry) → e.birth ≡ 0 → record_by o m e ≡ bare_of o m
bare_is o m e none = ap (λ b. cond b (kept e) (bare_of o m)) (le-ltb 0 e.birth (omega arith))

-- what died, and is no record, was given up
bare_dead : (n : Node) (m : NodeMark) (d : ℕ × Bool) → death_of m ≡ Some d → bare_of (Some n) m ≡ unused
bare_dead n plain d e = absurd (cc)
bare_dead n (aside death whole) d e = refl
bare_dead n (retired death whole) d e = refl

-- what it stands for is what it is said to
pub stands_is : (r : Record) (o : Option Node) (m : NodeMark) (e : Entry) → StandsForRecord r o m e → record_by o m e ≡ r
stands_is free o m e s = bare_is o m e s.0 ∙ ap (λ x. bare_of x m) s.1
stands_is opened o m e s = bare_is o m e s.0 ∙ (λ i. bare_of (s.1.found i) (s.2 i))
stands_is unused o m e s = bare_is o m e s.0 ∙ ap (λ x. bare_of x m) s.1.found ∙ bare_dead s.1.node m (0, false) s.2
stands_is (kept k) o m e s = ap (λ b. cond b (kept e) (bare_of o m)) (lt-ltb 0 e.birth (omega (arith, s.3, ap (λ (x : Entry). x.birth) s.0))) ∙ ap kept s.0

module _ (x y : Indexed) (p q : Nodes) (n : ℕ) (r : Record) (many : length p.nodes ≡ length x.entries) (stand : AllStandForRecords x p) (c : ChangesOneNumber x y p q n r) where
  at_old : (m : ℕ) → record_at (records_by x p) m ≡ record_by (node_at p m) (mark_at p m) (entry_at x.entries m)
  at_old m = records_at x.entries p.nodes p.marks m many

  at_new : (m : ℕ) → record_at (records_by y q) m ≡ record_by (node_at q m) (mark_at q m) (entry_at y.entries m)
  at_new m = records_at y.entries q.nodes q.marks m c.many

  -- it stands for this record now, and all others for what they stood for
  pub turns_stored : Turns (records_by x p) (records_by y q) n r
  turns_stored = record {
    changed = at_new n ∙ stands_is r (node_at q n) (mark_at q n) (entry_at y.entries n) c.stands;
    others = λ m ne. at_new m ∙ (λ i. record_by (c.nodes m ne i) (c.marks m ne i) (c.entries m ne i)) ∙ sym (at_old m);
  }

  pub all_stand : AllStandForRecords y q
  all_stand m = elim (cases_eq m n) [
    | inl here ↦ subst (λ k. StandsForRecord (record_at (records_by y q) k) (node_at q k) (mark_at q k) (entry_at y.entries k)) (sym here) (subst (λ s. StandsForRecord s (node_at q n) (mark_at q n) (entry_at y.entries n)) (sym turns_stored.changed) c.stands)
    | inr ne ↦
        let same : StandsForRecord (record_at (records_by x p) m) (node_at p m) (mark_at p m) (entry_at x.entries m) ≡ StandsForRecord (record_at (records_by y q) m) (node_at q m) (mark_at q m) (entry_at y.entries m) = λ i. StandsForRecord (sym (turns_stored.others m ne) i) (sym (c.nodes m ne) i) (sym (c.marks m ne) i) (sym (c.entries m ne) i) in
        subst (λ (A : Type 0). A) same (stand m)
  ]
