use Rattle.std.proofs.Common.{ap, arith}
use Rattle.gs_index.specs.declared.entries.Entry.{Entry}
use Rattle.gs_records.proofs.Blanking.{listed_made, blank_same, blank_taken}
use Rattle.gs_records.proofs.reclaiming.blank.Goals as goal

pub unlist-requires : goal.unlist-requires
unlist-requires c = listed_made c.args.index.now c.args.number c.requires.lists (omega (arith, ap (λ (e : Entry). e.birth) c.entry.ensures, c.if-entry-gt0.true))

pub returns-then-entry-gt0 : goal.returns-then-entry-gt0
returns-then-entry-gt0 c = blank_taken c.args.index.now c.unlist.new.self c.args.number c.requires.lists c.unlist.ensures.entries c.unlist.ensures.listed c.unlist.ensures.spare

pub returns-else-entry-gt0 : goal.returns-else-entry-gt0
returns-else-entry-gt0 c = blank_same c.args.index.now c.args.number c.requires.lists (omega (arith, ap (λ (e : Entry). e.birth) c.entry.ensures, c.if-entry-gt0.false))
