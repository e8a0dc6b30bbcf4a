use Rattle.std.proofs.Common.{◌≡◌, ◌<◌, ℕ, List, [], ◌∷◌, true, false, Vec, Global, length, get_or, refl, sym, ap, ◌∙◌, subst, arith}
use Rattle.std.specs.List.{All}
use Rattle.std.proofs.lemmas.List.Elements.{All-rest, All-head, All-get_or}
use Rattle.std.proofs.lemmas.Option.{slice_get_read}
use Rattle.gs_pool.specs.declared.nodes.Key.{Key}
use Rattle.gs_joins.specs.declared.bindings.Bound.{Bound}
use Rattle.gs_joins.specs.Numbers.{numbers_of, Chooses}
use Rattle.gs_joins.specs.Lots.{Serves, IsLot}
use Rattle.gs_joins.specs.Choices.{Searches, goes_at, has_choice}
use Rattle.gs_joins.specs.Answers.{AreRight}
use Rattle.std.proofs.lemmas.List.Sorted.{length_permutation}
use Rattle.gs_joins.proofs.ChoiceLemmas.{choice_permuted}
use Rattle.gs_joins.proofs.SearchLemmas.{truncated, searches_moved, goes_chosen, goes_not, searches_true, searches_false, none_more}
use Rattle.gs_joins.proofs.choices.+exists.Goals as goal
use Rattle.gs_joins.proofs.choices.+exists.Goals.{then-branch+in_ok-found+else-found, else-branch}

-- no number
no_number_left : (is : List ℕ) → length is ≡ 0 → is ≡ []
no_number_left [] e = refl
no_number_left (i ∷ is) e = absurd (omega arith)

-- any key
abbrev zero_key : Key
zero_key = record { subject = 0; predicate = 0; object = 0 }

pub returns-in_default : goal.returns-in_default
returns-in_default t c = record {
  searches = record {
    bound = refl;
    answer =
        let none : c.in_ok-new.new.items ≡ [] = sym c.as_slice-2.ensures.value ∙ no_number_left c.as_slice-2.result.now c.in_default.ensures.cases in
        sym (choice_permuted c.args.lots.now c.args.order.now c.in_ok-new.new.items (numbers_of c.args.bound.now.items) c.in_ok-new.ensures.same ∙ ap (λ is. has_choice c.args.lots.now is (numbers_of c.args.bound.now.items)) none);
  };
  answers = c.requires.answers;
}

pub bounds-lots-first : goal.bounds-lots-first
bounds-lots-first t c =
    All-head (λ i. i < length c.args.lots.now) c.in-Some.first.now c.in-Some.rest.now (subst (All (λ i. i < length c.args.lots.now)) (sym c.as_slice-2.ensures.value ∙ c.in-Some.ensures.cases.0) c.in_ok-new.ensures.within)

pub offset_bounds-lots-first : goal.offset_bounds-lots-first
offset_bounds-lots-first t c =
    let h : c.in-Some.first.now < length c.args.lots.now =
    All-head (λ i. i < length c.args.lots.now) c.in-Some.first.now c.in-Some.rest.now (subst (All (λ i. i < length c.args.lots.now)) (sym c.as_slice-2.ensures.value ∙ c.in-Some.ensures.cases.0) c.in_ok-new.ensures.within) in
    omega arith

pub near-key-items-requires : goal.near-key-items-requires
near-key-items-requires t c =
    let h : c.in-Some.first.now < length c.args.lots.now =
    All-head (λ i. i < length c.args.lots.now) c.in-Some.first.now c.in-Some.rest.now (subst (All (λ i. i < length c.args.lots.now)) (sym c.as_slice-2.ensures.value ∙ c.in-Some.ensures.cases.0) c.in_ok-new.ensures.within) in
    subst IsLot (sym c.index-lots-first.is) (All-get_or IsLot c.args.lots.now c.in-Some.first.now c.index-lots-first.result h c.requires.lots)

pub exists-requires : goal.exists-requires
exists-requires t c =
    let is : c.in_ok-new.new.items ≡ c.in-Some.first.now ∷ c.in-Some.rest.now = sym c.as_slice-2.ensures.value ∙ c.in-Some.ensures.cases.0 in
    let rest = All-rest (λ i. i < length c.args.lots.now) c.in-Some.first.now c.in-Some.rest.now c.in_ok-new.new.items is c.in_ok-new.ensures.within in
    let same = length_permutation c.args.order.now c.in_ok-new.new.items c.in_ok-new.ensures.same in
    (omega (arith, c.decreases, same, ap length is), (c.requires.lots, (rest, c.loop-key.invariant.answers)))

pub returns-then-found : goal.returns-then-found
returns-then-found t c =
    let ls = c.args.lots.now in
    let is = c.in-Some.rest.now in
    let old = c.args.bound.now.items in
    let near = c.near-key-items.result.now in
    let l = c.index-lots-first.result in
    let i = c.loop-key.key-index in
    let k : Key = get_or near i zero_key in
    let chosen : Chooses c.loop-key.bound.items c.choose.new.bound.items l.sought k true =
    subst (Chooses c.loop-key.bound.items c.choose.new.bound.items l.sought k) c.if-branch.true c.in_ok-choose.ensures in
    let before : c.len-before.result ≡ length old = omega arith in
    let found : Searches ls c.args.order.now old c.truncate.new.self.items true =
    searches_moved ls c.args.order.now c.in_ok-new.new.items old c.truncate.new.self.items true c.in_ok-new.ensures.same
    (subst (λ js. Searches ls js old c.truncate.new.self.items true) (sym (sym c.as_slice-2.ensures.value ∙ c.in-Some.ensures.cases.0))
    (searches_true ls c.in-Some.first.now is old c.truncate.new.self.items l near
    (slice_get_read ls (length ls) c.in-Some.first.now l refl (All-head (λ i. i < length ls) c.in-Some.first.now is (subst (All (λ i. i < length ls)) (sym c.as_slice-2.ensures.value ∙ c.in-Some.ensures.cases.0) c.in_ok-new.ensures.within)) c.index-lots-first.is)
    (subst (λ bs. Serves (numbers_of bs) l near) c.as_slice-3.ensures.value c.near-key-items.ensures)
    (truncated old c.loop-key.bound.items c.choose.new.bound.items c.exists.new.bound.items c.truncate.new.self.items c.len-before.result c.loop-key.invariant.bound chosen.0 c.in_ok-found.ensures.searches.bound before c.truncate.ensures.items)
    i zero_key c.loop-key-test.true
    (goes_chosen ls is l.sought k old c.loop-key.bound.items c.choose.new.bound.items c.loop-key.invariant.bound chosen ∙ sym c.in_ok-found.ensures.searches.answer ∙ c.if-found.true))) in
    record { searches = found; answers = c.in_ok-found.ensures.answers }

pub loop-key-preserved : goal.loop-key-preserved
loop-key-preserved t c =
    let ls = c.args.lots.now in
    let is = c.in-Some.rest.now in
    let old = c.args.bound.now.items in
    let near = c.near-key-items.result.now in
    let l = c.index-lots-first.result in
    let i = c.loop-key.key-index in
    let k : Key = get_or near i zero_key in
    let before : c.len-before.result ≡ length old = omega arith in
    elim c.if-branch.branch [
      | then-branch+in_ok-found+else-found w ↦
          let chosen : Chooses c.loop-key.bound.items c.choose.new.bound.items l.sought k true =
          subst (Chooses c.loop-key.bound.items c.choose.new.bound.items l.sought k) w.if-branch.true c.in_ok-choose.ensures in
          record {
            none = none_more (goes_at ls is (numbers_of old) l.sought) near i zero_key c.loop-key-test.true c.loop-key.invariant.none
                (goes_chosen ls is l.sought k old c.loop-key.bound.items c.choose.new.bound.items c.loop-key.invariant.bound chosen ∙ sym w.in_ok-found.ensures.searches.answer ∙ w.if-found.false);
            bound = ap (λ (v : Vec Bound Global). v.items) w.bound-is
                ∙ truncated old c.loop-key.bound.items c.choose.new.bound.items w.exists.new.bound.items w.truncate.new.self.items c.len-before.result c.loop-key.invariant.bound chosen.0 w.in_ok-found.ensures.searches.bound before w.truncate.ensures.items;
            answers = subst (AreRight ls) (sym w.answers-is) w.in_ok-found.ensures.answers;
          }
      | else-branch w ↦
          let chosen : Chooses c.loop-key.bound.items c.choose.new.bound.items l.sought k false =
          subst (Chooses c.loop-key.bound.items c.choose.new.bound.items l.sought k) w.if-branch.false c.in_ok-choose.ensures in
          record {
            none = none_more (goes_at ls is (numbers_of old) l.sought) near i zero_key c.loop-key-test.true c.loop-key.invariant.none
                (goes_not ls is l.sought k old c.loop-key.bound.items c.choose.new.bound.items c.loop-key.invariant.bound chosen);
            bound = ap (λ (v : Vec Bound Global). v.items) w.bound-is ∙ chosen.0 ∙ c.loop-key.invariant.bound;
            answers = subst (AreRight ls) (sym w.answers-is) c.loop-key.invariant.answers;
          }
    ]

pub returns : goal.returns
returns t c =
    let ls = c.args.lots.now in
    let old = c.args.bound.now.items in
    let near = c.near-key-items.result.now in
    let l = c.index-lots-first.result in
    let found : Searches ls c.args.order.now old c.loop-key.bound.items false =
    searches_moved ls c.args.order.now c.in_ok-new.new.items old c.loop-key.bound.items false c.in_ok-new.ensures.same
    (subst (λ is. Searches ls is old c.loop-key.bound.items false) (sym (sym c.as_slice-2.ensures.value ∙ c.in-Some.ensures.cases.0))
    (searches_false ls c.in-Some.first.now c.in-Some.rest.now old c.loop-key.bound.items l near
    (slice_get_read ls (length ls) c.in-Some.first.now l refl (All-head (λ i. i < length ls) c.in-Some.first.now c.in-Some.rest.now (subst (All (λ i. i < length ls)) (sym c.as_slice-2.ensures.value ∙ c.in-Some.ensures.cases.0) c.in_ok-new.ensures.within)) c.index-lots-first.is)
    (subst (λ bs. Serves (numbers_of bs) l near) c.as_slice-3.ensures.value c.near-key-items.ensures)
    c.loop-key.invariant.bound c.loop-key.key-index c.loop-key-test.false c.loop-key.invariant.none)) in
    record { searches = found; answers = c.loop-key.invariant.answers }
