use Rattle.std.proofs.Common.{ap, ◌∙◌, ◌++◌, take, None}
use Rattle.gs_keys.specs.Texts.{key_cmp}
use Rattle.gs_tree.specs.Reading.{keys_at, keys_from}
use Rattle.gs_match.proofs.FoundLemmas.{listed_all}
use Rattle.gs_match.proofs.found.Found.list.Goals as goal

pub returns : goal.returns
returns c =
    let cmp = key_cmp c.args.order.now.dict.now.terms in
    let ks = keys_at c.args.self.now.pool c.args.self.now.root in
    c.in_ok-next_keys.ensures.ok ∙ ap (λ xs. xs ++ take c.count-many.result (keys_from cmp None ks)) c.new-list.ensures.items ∙ listed_all cmp c.count-many.result ks c.count-many.ensures
