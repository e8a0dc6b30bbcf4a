use Rattle.std.proofs.Common.{◌≡◌, ℕ, List, true, take, sym, ap, ◌∙◌, subst, arith}
use Rattle.std.specs.List.{list_all}
use Rattle.std.proofs.lemmas.List.{take_rest}
use Rattle.gs_ntterm.specs.Classes.{is_space}
use Rattle.gs_ntterm.specs.Runs.{runs_in_label}
use Rattle.gs_ntterm.specs.Wholes.{LabelFront}
use Rattle.gs_ntterm.proofs.LabelFronts.{label_ascii, label_front}
use Rattle.gs_ntterm.proofs.wholes.label_front.Goals as goal

pub ascii_str-requires : goal.ascii_str-requires
ascii_str-requires c =
    let x = c.args.piece.now in
    let k = c.short_run_len-n.result in
    let all = subst (λ (z : List ℕ). list_all runs_in_label (take k z) ≡ true) (take_rest x 3) c.short_run_len-n.ensures.all in
    label_ascii x (c.begins_as_label.ensures c.if-not-begins_as_label.false) k all

pub returns : goal.returns
returns c =
    let x = c.args.piece.now in
    let k = c.short_run_len-n.result in
    let all = subst (λ (z : List ℕ). list_all runs_in_label (take k z) ≡ true) (take_rest x 3) c.short_run_len-n.ensures.all in
    let blank = ap (λ (b : ℕ). is_space b) (sym c.from.ensures) ∙ sym c.is_space.ensures ∙ c.if-not-is_space.false in
    subst (λ (z : List ℕ). LabelFront x z) (sym c.ascii_str.ensures)
    (label_front x (c.begins_as_label.ensures c.if-not-begins_as_label.false) k all (omega arith) blank)
