use Rattle.std.proofs.Common.{◌∷◌, ◌++◌, [], List, Some, Vec, Global, take, get_or, sym, ap, ◌∙◌, subst}
use Rattle.std.proofs.lemmas.List.{take_more}
use Rattle.gs_pool.specs.declared.nodes.Key.{Key}
use Rattle.gs_tree.specs.Reading.{keys_at}
use Rattle.gs_joins.specs.declared.bindings.Bound.{Bound}
use Rattle.gs_joins.specs.Numbers.{numbers_of}
use Rattle.gs_match.specs.Candidates.{Sifts}
use Rattle.gs_match.proofs.SeedLemmas.{Seen, seen_same, seen_more, seen_all}
use Rattle.gs_match.proofs.candidates.by_numbers.Goals as goal
use Rattle.gs_match.proofs.candidates.by_numbers.Goals.{then-not-is_last+in_ok-push+in_ok-append_range, else-not-is_last}

-- any key
abbrev zero_key : Key
zero_key = record { subject = 0; predicate = 0; object = 0 }

pub loop-key-preserved : goal.loop-key-preserved
loop-key-preserved c =
    let ks = keys_at c.args.keys.now.pool.now c.args.keys.now.root in
    let s = c.args.sought.now in
    let x = c.args.name.now in
    let t = c.args.turn in
    let table = c.table-key-items.result.now in
    let i = c.loop-key.key-index in
    let z : Key = get_or table i zero_key in
    subst (λ seen. Seen ks s x t seen c.if-not-is_last.last c.if-not-is_last.found.items) (sym (take_more table i zero_key c.loop-key-test.true)) (elim c.if-not-is_last.branch [
      | then-not-is_last+in_ok-push+in_ok-append_range w ↦
          let pushed = w.in_ok-push.ensures.items ∙ ap (λ (bs : List Bound). bs ++ record { name = c.args.name; number = c.first_number-number.result } ∷ []) w.clear.ensures.items in
          seen_more ks s x t (take i table) c.loop-key.last c.if-not-is_last.last c.loop-key.found.items c.if-not-is_last.found.items z w.push.new.self.items w.append_range.new.bound.items c.loop-key.invariant
          (subst (Sifts w.push.new.self.items w.append_range.new.bound.items s ks c.loop-key.found.items) (sym (ap (λ (v : Vec Key Global). v.items) w.found-is)) w.in_ok-append_range.ensures)
          (ap numbers_of pushed ∙ ap (λ n. (x, n) ∷ []) c.first_number-number.ensures)
          (w.last-is ∙ ap Some c.first_number-number.ensures)
      | else-not-is_last w ↦
          seen_same ks s x t (take i table) c.loop-key.last c.if-not-is_last.last c.loop-key.found.items c.if-not-is_last.found.items z c.loop-key.invariant
          (c.is_last.ensures w.if-not-is_last.false ∙ ap Some c.first_number-number.ensures) w.last-is (ap (λ (v : Vec Key Global). v.items) w.found-is)
    ])

pub returns : goal.returns
returns c =
    seen_all (keys_at c.args.keys.now.pool.now c.args.keys.now.root) c.args.sought.now c.args.name.now c.args.turn c.args.lot.now.keys.items c.table-key-items.result.now c.loop-key.key-index c.loop-key.last c.loop-key.found.items
    c.table-key-items.ensures.same c.loop-key-test.false c.loop-key.invariant
