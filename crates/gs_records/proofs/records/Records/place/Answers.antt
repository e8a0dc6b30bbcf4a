use Rattle.std.proofs.Common.{◌≡◌, ◌<◌, ◌^◌, count_by, refl, ap, ◌∙◌, rules, arith}
use Rattle.gs_records.specs.Records.{opened, record_at}
use Rattle.gs_records.specs.Kept.{HasNoCurrent}
use Rattle.gs_records.specs.Stored.{records_by}
use Rattle.gs_records.proofs.Making.{made_entry, made_turns, made_stored, made_current, made_places}
use Rattle.gs_pool.specs.Pool.{is_aside}
use Rattle.gs_records.proofs.Seeking.{version_none}
use Rattle.gs_records.proofs.Versions.{versions_placed}
use Rattle.gs_records.proofs.Counting.{one_most, names_few, triples_few, counted_more}
use Rattle.gs_records.proofs.records.Records.place.Goals as goal

pub invariant_of-self : goal.invariant_of-self
invariant_of-self c =
    let s = c.self.inside in
    let is : record_at (records_by s.index s.pool) c.args.number ≡ opened = rw (← c.self.view_is) at c.requires.opened in
    let none : HasNoCurrent (records_by s.index s.pool) c.args.target = rw (← c.self.view_is) at c.requires.none in
    let after : 0 < s.latest = rw (← c.self.view_is) at c.requires.after in
    let t = c.args.target in
    let v = c.args.version in
    let was = version_none s.index s.pool s.opened s.latest c.self.invariant.stored t none in
    let now = made_current s.index s.pool s.opened s.latest c.args.number c.self.invariant.stored is c.list.new.self c.set.new.self c.args.target c.args.version c.node_of.result none after c.set.ensures.updates c.set.ensures.marks c.set.ensures.numbers c.node_of.ensures c.list.ensures.entries c.list.ensures.listed c.list.ensures.spare in
    let old = records_by s.index s.pool in
    let new = records_by c.list.new.self c.set.new.self in
    let fits : v.triples < 2 ^ 64 = search rules in
    let turns = made_turns s.index s.pool s.opened s.latest c.args.number c.self.invariant.stored is c.list.new.self c.set.new.self c.args.target c.args.version c.node_of.result none after c.set.ensures.updates c.set.ensures.marks c.set.ensures.numbers c.node_of.ensures c.list.ensures.entries c.list.ensures.listed c.list.ensures.spare in
    record {
      stored = made_stored s.index s.pool s.opened s.latest c.args.number c.self.invariant.stored is c.list.new.self c.set.new.self c.args.target c.args.version c.node_of.result none after c.set.ensures.updates c.set.ensures.marks c.set.ensures.numbers c.node_of.ensures c.list.ensures.entries c.list.ensures.listed c.list.ensures.spare;
      none_aside = ap (count_by is_aside) c.set.ensures.marks ∙ c.self.invariant.none_aside;
      versions = versions_placed old new c.args.number (made_entry t v s.latest) turns (record { small = fits; something = c.requires.something }) c.self.invariant.versions;
      counted = counted_more old new t v s.names s.triples c.name_of.result c.from.result was now c.self.invariant.counted c.name_of.ensures c.from.ensures;
    }

pub overflow_add-self : goal.overflow_add-self
overflow_add-self c = omega (arith, c.name_of.ensures, one_most c.args.target, names_few c.self.inside.index c.self.inside.pool c.self.inside.opened c.self.inside.latest c.self.inside.names c.self.inside.triples c.self.invariant)

pub overflow_add-self-2 : goal.overflow_add-self-2
overflow_add-self-2 c =
    let s = c.self.inside in
    let fits : c.args.version.triples < 2 ^ 64 = search rules in
    omega (arith, fits, c.from.ensures, triples_few s.index s.pool s.opened s.latest s.names s.triples c.self.invariant)

pub returns : goal.returns
returns c =
    let s = c.self.inside in
    let is : record_at (records_by s.index s.pool) c.args.number ≡ opened = rw (← c.self.view_is) at c.requires.opened in
    let none : HasNoCurrent (records_by s.index s.pool) c.args.target = rw (← c.self.view_is) at c.requires.none in
    let after : 0 < s.latest = rw (← c.self.view_is) at c.requires.after in
    rw (← c.self.view_is) (made_places s.index s.pool s.opened s.latest c.args.number c.self.invariant.stored is c.list.new.self c.set.new.self c.args.target c.args.version c.node_of.result none after c.set.ensures.updates c.set.ensures.marks c.set.ensures.numbers c.node_of.ensures c.list.ensures.entries c.list.ensures.listed c.list.ensures.spare _ _ refl refl refl refl c.set.ensures.limit)
