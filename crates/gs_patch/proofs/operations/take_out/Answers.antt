use Rattle.std.proofs.Common.{◌≡◌, map, subst}
use Rattle.gs_dict.specs.Numbering.{Numbered}
use Rattle.gs_tree.specs.Reading.{keys_at}
use Rattle.gs_changes.specs.Changes.{ChangesAt}
use Rattle.gs_changes.specs.Keys.{remove_keys}
use Rattle.gs_keys.specs.Texts.{triple_at, key_cmp}
use Rattle.gs_patch.specs.Operations.{LosesTriples}
use Rattle.gs_patch.proofs.OperationLemmas.{ok_both, keys_go_out}
use Rattle.gs_patch.proofs.operations.take_out.Goals as goal

pub returns-clause-ok : goal.returns-clause-ok
returns-clause-ok c =
    let d = c.args.dict.now in
    let f = c.new-order.result.dict.now in
    let p = c.args.pool.now in
    let q = c.remove_all.new.pool in
    let root = c.args.root in
    let run = c.args.keys.now in
    ok_both c.remove_all.result (λ m. ChangesAt (key_cmp f.terms) c.args.birth p q root m.root 0 m.removed) (λ m. keys_at q m.root ≡ remove_keys (key_cmp f.terms) run (keys_at p root))
    (LosesTriples c.args.birth d.terms p q root (map (triple_at d.terms) run)) (λ m changes keys_are.
    keys_go_out c.args.birth d.terms p q root run m c.requires.staged c.requires.given
    (subst (λ (n : Numbered). ChangesAt (key_cmp n.terms) c.args.birth p q root m.root 0 m.removed) c.new-order.ensures changes)
    (subst (λ (n : Numbered). keys_at q m.root ≡ remove_keys (key_cmp n.terms) run (keys_at p root)) c.new-order.ensures keys_are))
    c.remove_all.ensures.ok c.remove_all.ensures.keys
