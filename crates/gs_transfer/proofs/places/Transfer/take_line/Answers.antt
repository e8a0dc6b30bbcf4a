use Rattle.std.proofs.Common.{◌++◌, refl, ap, ◌∙◌, arith}
use Rattle.gs_transfer.specs.Cuts.{cut_from}
use Rattle.gs_transfer.specs.Places.{state_at_place}
use Rattle.gs_transfer.specs.declared.places.Place.{Place}
use Rattle.gs_transfer.proofs.CutLemmas.{cut-long, cut-open}
use Rattle.gs_transfer.proofs.PartLemmas.{line-part, line-found, line-none}
use Rattle.gs_transfer.proofs.places.Transfer.take_line.Goals as goal

pub returns-in-Some : goal.returns-in-Some
returns-in-Some c =
    let x = c.args.bytes.now in
    let f = line-found x c.min.result c.in-Some.at c.min.ensures c.in-Some.ensures in
    line-part c.args.self.now c.take_size.new.self x c.in-Some.at c.take_size.result c.requires f.0 f.1 f.2 f.3 c.take_size.ensures

pub returns-then-bytes-lt-MAX_SIZE_LINE_BYTES : goal.returns-then-bytes-lt-MAX_SIZE_LINE_BYTES
returns-then-bytes-lt-MAX_SIZE_LINE_BYTES c =
    let t = c.args.self.now in
    let x = c.args.bytes.now in
    let none = line-none x c.min.result c.min.ensures c.in-None.ensures in (
      refl,
      c.if-bytes-lt-MAX_SIZE_LINE_BYTES.true,
      ap (λ (p : Place). cut_from t.limit (state_at_place t.sum p) x) c.requires ∙ cut-open t.limit t.sum x c.if-bytes-lt-MAX_SIZE_LINE_BYTES.true (λ k h. none k (omega (arith, h, c.min.ensures, c.if-bytes-lt-MAX_SIZE_LINE_BYTES.true))),
    )

pub returns-else-bytes-lt-MAX_SIZE_LINE_BYTES : goal.returns-else-bytes-lt-MAX_SIZE_LINE_BYTES
returns-else-bytes-lt-MAX_SIZE_LINE_BYTES c = λ y.
    let t = c.args.self.now in
    let x = c.args.bytes.now in
    let none = line-none x c.min.result c.min.ensures c.in-None.ensures in
    let many = c.if-bytes-lt-MAX_SIZE_LINE_BYTES.false in
    ap (λ (p : Place). cut_from t.limit (state_at_place t.sum p) (x ++ y)) c.requires
    ∙ cut-long t.limit t.sum 255 x y (omega (arith, many)) refl (λ k h. none k (omega (arith, h, c.min.ensures, many)))
