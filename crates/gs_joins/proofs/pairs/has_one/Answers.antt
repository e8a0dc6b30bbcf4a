use Rattle.std.proofs.Common.{◌≡◌, [], true, false, length, get_or, refl, ◌∙◌, subst, arith}
use Rattle.std.proofs.lemmas.Option.{slice_get_read}
use Rattle.gs_pool.specs.declared.nodes.Key.{Key}
use Rattle.gs_joins.specs.Numbers.{numbers_of, Chooses}
use Rattle.gs_joins.specs.Lots.{Serves}
use Rattle.gs_joins.specs.Choices.{goes_at}
use Rattle.gs_joins.proofs.SearchLemmas.{truncated, goes_chosen, goes_not, searches_true, searches_false, none_more}
use Rattle.gs_joins.proofs.pairs.has_one.Goals as goal

-- any key
abbrev zero_key : Key
zero_key = record { subject = 0; predicate = 0; object = 0 }

pub returns-then-branch : goal.returns-then-branch
returns-then-branch c =
    let ls = c.args.lots.now in
    let old = c.args.bound.now.items in
    let near = c.near-key-items.result.now in
    let l = c.index-lots-at.result in
    let i = c.loop-key.key-index in
    let k : Key = get_or near i zero_key in
    let chosen : Chooses c.loop-key.bound.items c.choose.new.bound.items l.sought k true =
    subst (Chooses c.loop-key.bound.items c.choose.new.bound.items l.sought k) c.if-branch.true c.in_ok-choose.ensures in
    let before : c.len-before.result ≡ length old = omega arith in
    searches_true ls c.args.at [] old c.truncate.new.self.items l near
    (slice_get_read ls (length ls) c.args.at l refl c.requires.at c.index-lots-at.is)
    (subst (λ bs. Serves (numbers_of bs) l near) c.as_slice.ensures.value c.near-key-items.ensures)
    (truncated old c.loop-key.bound.items c.choose.new.bound.items c.choose.new.bound.items c.truncate.new.self.items c.len-before.result c.loop-key.invariant.bound chosen.0 refl before c.truncate.ensures.items)
    i zero_key c.loop-key-test.true
    (goes_chosen ls [] l.sought k old c.loop-key.bound.items c.choose.new.bound.items c.loop-key.invariant.bound chosen)

pub loop-key-preserved : goal.loop-key-preserved
loop-key-preserved c =
    let ls = c.args.lots.now in
    let old = c.args.bound.now.items in
    let near = c.near-key-items.result.now in
    let l = c.index-lots-at.result in
    let i = c.loop-key.key-index in
    let k : Key = get_or near i zero_key in
    let chosen : Chooses c.loop-key.bound.items c.choose.new.bound.items l.sought k false =
    subst (Chooses c.loop-key.bound.items c.choose.new.bound.items l.sought k) c.if-branch.false c.in_ok-choose.ensures in
    record {
      none = none_more (goes_at ls [] (numbers_of old) l.sought) near i zero_key c.loop-key-test.true c.loop-key.invariant.none
          (goes_not ls [] l.sought k old c.loop-key.bound.items c.choose.new.bound.items c.loop-key.invariant.bound chosen);
      bound = chosen.0 ∙ c.loop-key.invariant.bound;
    }

pub returns : goal.returns
returns c =
    let ls = c.args.lots.now in
    let old = c.args.bound.now.items in
    let near = c.near-key-items.result.now in
    let l = c.index-lots-at.result in
    searches_false ls c.args.at [] old c.loop-key.bound.items l near
    (slice_get_read ls (length ls) c.args.at l refl c.requires.at c.index-lots-at.is)
    (subst (λ bs. Serves (numbers_of bs) l near) c.as_slice.ensures.value c.near-key-items.ensures)
    c.loop-key.invariant.bound c.loop-key.key-index c.loop-key-test.false c.loop-key.invariant.none
