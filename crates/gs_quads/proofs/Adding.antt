-- Places that are found: none, those of one record, and those of others after them.
use Rattle.std.proofs.Common.{◌≡◌, ℕ, ◌+◌, ◌-◌, ◌≤◌, List, [], ◌∷◌, ◌++◌, length, take, Option, refl, sym, ap, ◌∙◌, subst, arith, append_assoc, length-append}
use Rattle.std.proofs.Math.Seq.{take-append-add}
use Rattle.std.proofs.lemmas.List.{append-nil, take_all, take-map, take-append-le}
use Rattle.std.proofs.lemmas.List.Sums.{sum_by_push}
use Rattle.std.proofs.lemmas.List.Elements.{All-nil, All-push}
use Rattle.std.specs.List.{All}
use Rattle.gs_pool.specs.declared.nodes.Key.{Key}
use Rattle.gs_tree.specs.Keys.{AllKeys}
use Rattle.gs_keys.specs.Texts.{IsGiven}
use Rattle.gs_lines.specs.Pieces.{keys_left}
use Rattle.gs_lines.proofs.PieceLemmas.{left_given}
use Rattle.gs_index.specs.declared.entries.Entry.{Entry}
use Rattle.gs_records.specs.Records.{Record, kept, record_at}
use Rattle.gs_records.specs.Order.{entry_of}
use Rattle.gs_quads.specs.declared.runs.Run.{Run}
use Rattle.gs_quads.specs.declared.runs.Source.{Source}
use Rattle.gs_quads.specs.declared.runs.Found.{Found}
use Rattle.gs_quads.specs.Places.{Place, root_at, as_places}
use Rattle.gs_quads.specs.Found.{run_places, one_graph, run_keys, IsRecordRun, KeysAreGiven, places_found, AreFound, FindsMore, IsGraphOf}
use Rattle.gs_quads.proofs.Lists.{short_take, take_twice}
use Rattle.gs_quads.proofs.Parts.{keys_first, places_long, runs_append}

-- what holds of keys and of others holds of all
all_both : (P : Key → Type 0) (xs ys : List Key) → AllKeys P xs → AllKeys P ys → AllKeys P (xs ++ ys)
all_both P [] ys hx hy = hy
all_both P (x ∷ xs) ys hx hy = (hx.0, all_both P xs ys hx.1 hy)

module _ (s : Source) (most : ℕ) where
  -- nothing is found yet
  pub none_yet : (f : Found) → f.keys.items ≡ [] → f.runs.items ≡ [] → AreFound s most f
  none_yet f keys runs = record {
    whole = ap run_keys runs ∙ sym (ap length keys);
    kept = subst (All (IsRecordRun s)) (sym runs) (All-nil (IsRecordRun s));
    given = subst (KeysAreGiven s) (sym keys) tt;
    few = let none : length f.keys.items ≡ 0 = ap length keys in omega arith;
  }

  -- so there are no places
  pub no_places : (f : Found) → f.keys.items ≡ [] → f.runs.items ≡ [] → places_found f ≡ []
  no_places f keys runs = ap (λ qs. run_places qs f.keys.items) runs

  module _ (f : Found) (found : AreFound s most f) where
    -- there are as many places as keys
    long : length (places_found f) ≡ length f.keys.items
    long = places_long f.runs.items f.keys.items found.whole

    -- none are added
    pub adds_none : FindsMore s most f f []
    adds_none = let few = found.few in let e = long in record {
      found = found;
      places = sym (ap (take most) (append-nil (places_found f)) ∙ take_all most (places_found f) (omega (arith, few, e)));
    }

    -- where there are enough, none are added
    pub adds_full : (more : List Place) → most ≤ length f.keys.items → FindsMore s most f f more
    adds_full more full = let few = found.few in let e = long in record {
      found = found;
      places = sym (take-append-le most (places_found f) more (omega (arith, few, e, full)) ∙ take_all most (places_found f) (omega (arith, few, e)));
    }

  -- some are added, and then others
  pub adds_both : (old mid new : Found) (xs ys : List Place) → FindsMore s most old mid xs → FindsMore s most mid new ys → FindsMore s most old new (xs ++ ys)
  adds_both old mid new xs ys a b = record {
    found = b.found;
    places =
        b.places
        ∙ ap (λ zs. take most (zs ++ ys)) a.places
        ∙ take_twice most (places_found old ++ xs) ys
        ∙ ap (take most) (append_assoc (places_found old) xs ys);
  }

  module _ (old : Found) (found : AreFound s most old) (n : ℕ) (graph : IsGraphOf s n) (from : Option Key) (new : Found) where
    -- the keys of the graph, and those for which there is room
    abbrev left : List Key
    left = keys_left s.dict.now.terms s.pool.now (root_at s.records.now.records n) from

    abbrev more : List Key
    more = take (most - length old.keys.items) left

    -- their numbers have terms
    more_given : KeysAreGiven s more
    more_given = keys_first (IsGiven s.dict.now.terms) (most - length old.keys.items) left (left_given s.dict.now.terms s.pool.now (root_at s.records.now.records n) graph.graph from)

    module _ (e : Entry) (at : record_at s.records.now.records n ≡ kept e) (had : ℕ) (had_is : had ≡ length old.keys.items) (came : new.keys.items ≡ old.keys.items ++ take (most - had) (keys_left s.dict.now.terms s.pool.now e.version.root from)) where
      -- they came by the root of the record
      keys_are : new.keys.items ≡ old.keys.items ++ more
      keys_are =
          let root : e.version.root ≡ root_at s.records.now.records n = sym (ap (λ (r : Record). (entry_of r).version.root) at) in
          came ∙ (λ i. old.keys.items ++ take (most - had_is i) (keys_left s.dict.now.terms s.pool.now (root i) from))

      -- the numbers of all keys have terms
      given : KeysAreGiven s new.keys.items
      given = subst (KeysAreGiven s) (sym keys_are) (all_both (IsGiven s.dict.now.terms) old.keys.items more found.given more_given)

      -- how many there are
      many : length new.keys.items ≡ length old.keys.items + length more
      many = ap length keys_are ∙ length-append old.keys.items more

      -- they are not too many
      few : length new.keys.items ≤ most
      few =
          let f = found.few in
          let m = many in
          let short : length more ≤ most - length old.keys.items = short_take (most - length old.keys.items) left in
          omega (arith, f, m, short)

      -- the places for which there was room
      places_more : places_found old ++ as_places n more ≡ take most (places_found old ++ one_graph s from n)
      places_more =
          let f = found.few in
          let l : length (places_found old) ≡ length old.keys.items = places_long old.runs.items old.keys.items found.whole in
          let room = most - length old.keys.items in
          let all : most ≡ length (places_found old) + (most - length old.keys.items) = omega (arith, f, l) in
          ap (λ xs. places_found old ++ xs) (sym (take-map (λ k. (n, k)) room left))
          ∙ sym (take-append-add (places_found old) (as_places n left) room)
          ∙ ap (λ m. take m (places_found old ++ as_places n left)) (sym all)

      -- a run more, with some keys
      pub adds_run : (r : Run) → r.number ≡ n → r.keys ≡ length new.keys.items - length old.keys.items → new.runs.items ≡ old.runs.items ++ r ∷ [] → FindsMore s most old new (one_graph s from n)
      adds_run r number keys runs =
          let m = many in
          let some : r.keys ≡ length more = omega (arith, keys, m) in
          let w = found.whole in
          let count : run_keys new.runs.items ≡ run_keys old.runs.items + r.keys = ap run_keys runs ∙ sum_by_push (λ (q : Run). q.keys) old.runs.items r in
          record {
            found = record {
              whole = omega (arith, m, some, w, count);
              kept = subst (All (IsRecordRun s)) (sym runs) (All-push (IsRecordRun s) old.runs.items r found.kept (subst (λ m. IsRecordRun s (record { number = m; keys = r.keys })) (sym number) graph.kept));
              given = given;
              few = few;
            };
            places =
                (λ i. run_places (runs i) (keys_are i))
                ∙ runs_append old.runs.items r old.keys.items more found.whole some
                ∙ ap (λ m. places_found old ++ as_places m more) number
                ∙ places_more;
          }

      -- no key more, and no run
      pub adds_no_run : length new.keys.items ≤ length old.keys.items → new.runs.items ≡ old.runs.items → FindsMore s most old new (one_graph s from n)
      adds_no_run same runs =
          let m = many in
          let empty : more ≡ [] = none_of more (omega (arith, m, same)) in
          let keys : new.keys.items ≡ old.keys.items = keys_are ∙ ap (λ ks. old.keys.items ++ ks) empty ∙ append-nil old.keys.items in
          record {
            found = record {
              whole = ap run_keys runs ∙ found.whole ∙ sym (ap length keys);
              kept = subst (All (IsRecordRun s)) (sym runs) found.kept;
              given = given;
              few = few;
            };
            places =
                (λ i. run_places (runs i) (keys i))
                ∙ sym (append-nil (places_found old))
                ∙ ap (λ ks. places_found old ++ as_places n ks) (sym empty)
                ∙ places_more;
          }
        where
          none_of : (ks : List Key) → length ks ≤ 0 → ks ≡ []
          none_of [] h = refl
          none_of (k ∷ ks) h = absurd (omega arith)
