use Rattle.std.proofs.Common.{◌≡◌, ◌+◌, length, refl, sym, ap, ◌∙◌, arith}
use Rattle.gs_quads.specs.declared.runs.Source.{Source}
use Rattle.gs_quads.specs.Pieces.{last_place}
use Rattle.gs_quads.specs.Found.{run_places, bytes_at, AreFound}
use Rattle.gs_quads.proofs.Parts.{places_long, runs_take}
use Rattle.gs_quads.proofs.Rests.{piece_is}
use Rattle.gs_quads.proofs.pieces.next_quads.Goals as goal

pub returns : goal.returns
returns c =
    let s : Source = record { dict = c.args.dict; pool = c.args.pool; records = c.args.records } in
    let found : AreFound s (c.args.count + 1) c.in_ok-found.found = c.in_ok-found.ensures.found in
    let runs = c.in_ok-found.found.runs.items in
    let keys = c.in_ok-found.found.keys.items in
    let kept = c.truncate.new.self.items in
    let many : c.len.result ≡ length keys = omega arith in
    piece_is c.args.dict.now.terms c.args.pool.now c.args.version c.args.records.now c.requires.graphs c.find_places.ensures.listed c.args.from c.args.count
    (run_places runs keys) (run_places runs kept) c.len.result _ c.requires.place c.requires.some
    c.in_ok-found.ensures.places
    (ap (run_places runs) c.truncate.ensures.items ∙ runs_take runs keys c.args.count found.whole)
    (many ∙ sym (places_long runs keys found.whole))
    (c.in_ok-lines.ensures ∙ (λ i. bytes_at s (run_places (c.deref-3.ensures.value i) (c.deref-4.ensures.value i))))
    (c.last_place-last.ensures ∙ (λ i. last_place (run_places (c.deref.ensures.value i) (c.deref-2.ensures.value i))))
    refl
