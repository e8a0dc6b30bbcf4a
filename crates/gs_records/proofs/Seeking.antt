-- The current record of a graph is its youngest.
use Rattle.std.proofs.Common.{◌≡◌, ℕ, ◌<◌, ◌≤◌, true, false, cond, List, length, Option, Some, None, is_none, is_some, refl, sym, ap, ◌∙◌, inl, inr, arith, true≢false}
use Rattle.std.proofs.lemmas.Bool.{lt-ltb, le-leb}
use Rattle.std.proofs.Math.ListN.{get_or-map}
use Rattle.std.specs.Ordering.{ordering_then, nat_cmp}
use Rattle.std.specs.Cmp.{tied_itself, ranked}
use Rattle.std.specs.declared.cmp.Ordering.{Ordering}
use Rattle.std.specs.declared.cmp.Ordering.TheVariants.{Less, Equal, Greater}
use Rattle.std.proofs.lemmas.Cmp.{on_total, nat_list_cmp_total}
use Rattle.gs_term.specs.declared.names.Target.{Target}
use Rattle.gs_catalogue.specs.Catalogues.{no_versions, version_at}
use Rattle.gs_pool.specs.Pool.{Nodes, node_at, mark_at}
use Rattle.gs_index.specs.declared.entries.Entry.{Entry}
use Rattle.gs_index.specs.Ages.{blank_entry, age_of, age_in, age_cmp, aged_number_cmp, target_cmp, target_text, is_target}
use Rattle.gs_index.specs.Indexes.{Indexed, entry_at, is_listed, is_made_by, youngest_by, IsIndexed}
use Rattle.gs_records.specs.Records.{kept, record_at, is_current, outlives}
use Rattle.gs_records.specs.Graphs.{current}
use Rattle.gs_records.specs.Births.{birth_at, births_of}
use Rattle.gs_records.specs.Kept.{DiedBy, HasNoCurrent}
use Rattle.gs_records.specs.Calls.{FindsCurrent}
use Rattle.gs_records.specs.Stored.{is_made, bare_of, records_by, StandsForRecord, IsStored}
use Rattle.gs_records.proofs.Found.{Found, target_itself, target_same}
use Rattle.gs_records.proofs.Same.{version_found, version_lacking}
use Rattle.gs_records.proofs.Births.{birth_found}
use Rattle.gs_records.proofs.Lifetimes.{both_true, first_true, has_from, lives_none, once_current}
use Rattle.gs_records.proofs.Storing.{records_at}
use Rattle.gs_records.proofs.Listing.{IsFirst, find_first, find_none}
use Rattle.gs_records.proofs.Keeping.{stands_at, used_within}

not_greater : (r : Ordering) (a b : ℕ) → ordering_then (nat_cmp a b) r ≡ Less → a ≤ b
not_greater r a b e = go (nat_cmp a b) refl e
  where
    go : (o : Ordering) → nat_cmp a b ≡ o → ordering_then o r ≡ Less → a ≤ b
    go Less is h = let lt : a < b = ranked a b Less (sym is) in omega arith
    go Equal is h = let eq : a ≡ b = ranked a b Equal (sym is) in omega arith
    go Greater is h = absurd (let bad : Greater ≡ Less = h in cc)

-- of one graph the youngest is first
pub younger_first : (es : List Entry) (n m : ℕ) → (entry_at es n).target ≡ (entry_at es m).target → aged_number_cmp (age_in es) n m ≡ Less → (entry_at es m).birth ≤ (entry_at es n).birth
younger_first es n m same less =
    let an : age_in es n ≡ age_of (entry_at es n) = get_or-map age_of es n blank_entry in
    let am : age_in es m ≡ age_of (entry_at es m) = get_or-map age_of es m blank_entry in
    let e = entry_at es n in
    let f = entry_at es m in
    let tied : target_cmp e.target f.target ≡ Equal = ap (target_cmp e.target) (sym same) ∙ tied_itself (on_total target_text nat_list_cmp_total) e.target in
    let both : ordering_then (age_cmp (age_of e) (age_of f)) (nat_cmp m n) ≡ Less = sym (λ i. ordering_then (age_cmp (an i) (am i)) (nat_cmp m n)) ∙ less in
    go (nat_cmp f.birth e.birth) refl (sym (ap (λ o. ordering_then (ordering_then o (nat_cmp f.birth e.birth)) (nat_cmp m n)) tied) ∙ both)
  where
    go : (o : Ordering) → nat_cmp (entry_at es m).birth (entry_at es n).birth ≡ o → ordering_then (nat_cmp (entry_at es m).birth (entry_at es n).birth) (nat_cmp m n) ≡ Less → (entry_at es m).birth ≤ (entry_at es n).birth
    go o is h = not_greater (nat_cmp m n) (entry_at es m).birth (entry_at es n).birth h

pub not_some : (o : Option ℕ) → is_some o ≡ false → o ≡ None
not_some None e = refl
not_some (Some x) e = absurd (true≢false e)

module _ (x : Indexed) (p : Nodes) (opens latest : ℕ) (s : IsStored x p opens latest) where
  -- what is listed is a record
  pub kept_at : (n : ℕ) → is_listed n x.listed ≡ true → record_at (records_by x p) n ≡ kept (entry_at x.entries n)
  kept_at n listed = records_at x.entries p.nodes p.marks n s.many ∙ ap (λ b. cond b (kept (entry_at x.entries n)) (bare_of (node_at p n) (mark_at p n))) (sym (s.lists n) ∙ listed)

  -- and what is a record is listed
  module _ (n : ℕ) (e : Entry) (at : record_at (records_by x p) n ≡ kept e) where
    here : StandsForRecord (kept e) (node_at p n) (mark_at p n) (entry_at x.entries n)
    here = stands_at x p opens latest n (kept e) s at

    pub entry_is : entry_at x.entries n ≡ e
    entry_is = here.0

    pub kept_listed : is_listed n x.listed ≡ true
    kept_listed = s.lists n ∙ ap is_made here.0 ∙ lt-ltb 0 e.birth here.3

    pub kept_within : n < length x.entries
    kept_within = used_within p x n e.birth s.many here.1

  module _ (t : Target) where
    passes_at : (n : ℕ) (e : Entry) → record_at (records_by x p) n ≡ kept e → e.target ≡ t → is_made_by t latest (entry_at x.entries n) ≡ true
    passes_at n e at same = ap (is_made_by t latest) (entry_is n e at) ∙ both_true _ _ (ap (is_target t) same ∙ target_itself t) (le-leb e.birth latest (s.dated n e at).born)

    -- where none is found, the graph has no record
    pub none_sought : youngest_by x t latest ≡ None → HasNoCurrent (records_by x p) t
    none_sought none n e at same now = find_none (λ k. is_made_by t latest (entry_at x.entries k)) x.listed none n (kept_listed n e at) (passes_at n e at same)

    module _ (n : ℕ) (found : youngest_by x t latest ≡ Some n) (indexed : IsIndexed x) where
      first : IsFirst (aged_number_cmp (age_in x.entries)) (λ k. is_made_by t latest (entry_at x.entries k)) x.listed n
      first = find_first (aged_number_cmp (age_in x.entries)) (λ k. is_made_by t latest (entry_at x.entries k)) x.listed n indexed.rising found

      target_is : (entry_at x.entries n).target ≡ t
      target_is = sym (target_same t (entry_at x.entries n).target (first_true _ _ first.passes))

      -- the first one is current
      pub sought : (entry_at x.entries n).death ≡ None → FindsCurrent (records_by x p) t (Some n)
      sought none =
          let here : Found is_current (records_by x p) t = record { number = n; entry = entry_at x.entries n; at = kept_at n first.listed; passes = ap is_none none; same = target_is } in
          record {
            entry = here.entry;
            at = here.at;
            same = here.same;
            lives = none;
            only = λ m e at same now. once_current (records_by x p) s.single t (record { number = m; entry = e; at = at; passes = now; same = same }) here;
          }

      -- or none is
      pub none_current_after : is_some (entry_at x.entries n).death ≡ true → HasNoCurrent (records_by x p) t
      none_current_after dead m f at same now =
          let e = entry_at x.entries n in
          let is_f = entry_is m f at in
          let dated = s.dated n e (kept_at n first.listed) in
          elim (first.before m (kept_listed m f at) (passes_at m f at same)) [
            | inl here ↦ differ f.death now (ap (λ (d : Entry). is_some d.death) (sym is_f ∙ ap (entry_at x.entries) here) ∙ dead)
            | inr later ↦
                let younger = younger_first x.entries n m (target_is ∙ sym same ∙ sym (ap (λ (d : Entry). d.target) is_f)) later in
                let one = s.single e.birth n m e f (kept_at n first.listed) at (target_is ∙ sym same) (has_from e.birth e (omega arith) (outlived e.birth e.death latest dated.died)) (has_from e.birth f (omega (arith, younger, ap (λ (d : Entry). d.birth) is_f)) (lives_none e.birth f.death now)) in
                differ f.death now (ap (λ (d : Entry). is_some d.death) (sym is_f ∙ ap (entry_at x.entries) (sym one)) ∙ dead)
          ]
        where
          differ : (o : Option ℕ) → is_none o ≡ true → is_some o ≡ true → ⊥
          differ None now dead = true≢false (sym dead)
          differ (Some d) now dead = true≢false (sym now)

          outlived : (birth : ℕ) (o : Option ℕ) (l : ℕ) → DiedBy l birth o → outlives birth o ≡ true
          outlived birth None l d = refl
          outlived birth (Some x) l d = lt-ltb birth x d.0

    -- the graph's version is that of its current record
    pub version_current : (n : ℕ) → FindsCurrent (records_by x p) t (Some n) → version_at (current (records_by x p)) t ≡ Some (entry_at x.entries n).version
    version_current n c =
        version_found is_current (records_by x p) t (once_current (records_by x p) s.single) (record { number = n; entry = c.entry; at = c.at; passes = ap is_none c.lives; same = c.same })
        ∙ ap (λ (e : Entry). Some e.version) (sym (entry_is n c.entry c.at))

    pub version_none : HasNoCurrent (records_by x p) t → version_at (current (records_by x p)) t ≡ version_at no_versions t
    version_none none = version_lacking is_current (records_by x p) t (λ f. none f.number f.entry f.at f.same f.passes)

    -- the commit that made it
    pub birth_current : (n : ℕ) → FindsCurrent (records_by x p) t (Some n) → birth_at (births_of (records_by x p)) t ≡ Some (entry_at x.entries n).birth
    birth_current n c =
        birth_found (records_by x p) t (once_current (records_by x p) s.single) (record { number = n; entry = c.entry; at = c.at; passes = ap is_none c.lives; same = c.same })
        ∙ ap (λ (e : Entry). Some e.birth) (sym (entry_is n c.entry c.at))
