use Rattle.std.proofs.Common.{◌≡◌, sym, ap, ◌∙◌, Some, None, is_some, true, false}
use Rattle.gs_index.specs.declared.entries.Entry.{Entry}
use Rattle.gs_index.specs.Indexes.{youngest_by, entry_at}
use Rattle.gs_records.proofs.Seeking.{not_some, none_sought, sought, none_current_after}
use Rattle.gs_records.proofs.records.Records.current.Goals as goal

pub returns-in_default : goal.returns-in_default
returns-in_default c =
    let s = c.self.inside in
    let none : youngest_by s.index c.args.target.now s.latest ≡ None = sym c.find.ensures.value ∙ c.in_default.is in
    rw (← c.self.view_is) (none_sought s.index s.pool s.opened s.latest c.self.invariant.stored c.args.target.now none)

pub returns-then-is_some : goal.returns-then-is_some
returns-then-is_some c =
    let s = c.self.inside in
    let n = c.in-Some.number in
    let found : youngest_by s.index c.args.target.now s.latest ≡ Some n = sym c.in-Some.ensures.value in
    let dead : is_some (entry_at s.index.entries n).death ≡ true = sym (ap (λ (e : Entry). is_some e.death) c.entry.ensures) ∙ sym c.is_some.ensures ∙ c.if-is_some.true in
    rw (← c.self.view_is) (none_current_after s.index s.pool s.opened s.latest c.self.invariant.stored c.args.target.now n found c.len.ensures.indexed dead)

pub returns : goal.returns
returns c =
    let s = c.self.inside in
    let n = c.in-Some.number in
    let found : youngest_by s.index c.args.target.now s.latest ≡ Some n = sym c.in-Some.ensures.value in
    let none : is_some (entry_at s.index.entries n).death ≡ false = sym (ap (λ (e : Entry). is_some e.death) c.entry.ensures) ∙ sym c.is_some.ensures ∙ c.if-is_some.false in
    rw (← c.self.view_is) (sought s.index s.pool s.opened s.latest c.self.invariant.stored c.args.target.now n found c.len.ensures.indexed (not_some (entry_at s.index.entries n).death none))
