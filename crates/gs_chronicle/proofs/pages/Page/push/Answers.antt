use Rattle.std.proofs.Common.{List, length, refl, sym, ap, subst, arith}
use Rattle.std.proofs.lemmas.List.Sums.{sum_by_push}
use Rattle.gs_chronicle.specs.Requests.{call_of}
use Rattle.gs_chronicle.specs.Pages.{Row, stored_in, AreNumbered}
use Rattle.gs_chronicle.specs.PageEntries.{own_entries}
use Rattle.gs_chronicle.specs.Rows.{rows_of}
use Rattle.gs_chronicle.proofs.PageLemmas.{rows_of-push, AreNumbered-push}
use Rattle.gs_chronicle.proofs.pages.Page.push.Goals as goal

pub invariant_of-self-clause-counted : goal.invariant_of-self-clause-counted
invariant_of-self-clause-counted g c =
    let old = own_entries c.args.self.now.entries in
    let d = call_of c.args.seat c.args.request c.args.status in
    let rows = rows_of-push old (own_entries c.push.new.self) c.new-entry.result c.len-number.result d c.push.ensures.own c.new-entry.ensures (omega (arith, c.len-number.ensures)) in
    omega (arith, ap stored_in rows, sum_by_push (λ (r : Row). r.call.triples) (rows_of old) (record { number = length (rows_of old); call = d }), c.args.self.now.counted, c.requires.size)

pub invariant_of-self-clause-numbered : goal.invariant_of-self-clause-numbered
invariant_of-self-clause-numbered g c =
    let old = own_entries c.args.self.now.entries in
    let d = call_of c.args.seat c.args.request c.args.status in
    let rows = rows_of-push old (own_entries c.push.new.self) c.new-entry.result c.len-number.result d c.push.ensures.own c.new-entry.ensures (omega (arith, c.len-number.ensures)) in
    subst AreNumbered (sym rows) (AreNumbered-push (rows_of old) (record { number = length (rows_of old); call = d }) c.args.self.now.numbered refl)

pub returns : goal.returns
returns g c =
    let old = own_entries c.args.self.now.entries in
    let d = call_of c.args.seat c.args.request c.args.status in
    let rows = rows_of-push old (own_entries c.push.new.self) c.new-entry.result c.len-number.result d c.push.ensures.own c.new-entry.ensures (omega (arith, c.len-number.ensures)) in
    ap (λ (rs : List Row). record { number = c.args.self.now.number; rows = rs }) rows
