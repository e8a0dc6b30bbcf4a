-- What one claim more, and all claims, say of the receipts.
use Rattle.std.proofs.Common.{◌≡◌, ℕ, zero, suc, ◌<◌, ◌≤◌, List, [], ◌∷◌, ◌++◌, length, take, Some, Bool, true, false, ◌==◌, refl, sym, ap, ◌∙◌, subst, arith, map}
use Rattle.std.specs.Prelude.{nat_le, nat_lt, MatchBool}
use Rattle.std.specs.List.{All}
use Rattle.std.proofs.lemmas.Bool.{eq-eqb, and_parts, and_from}
use Rattle.std.proofs.lemmas.List.{length-map, map-append}
use Rattle.std.proofs.lemmas.List.Elements.{All-append}
use Rattle.std.proofs.lemmas.Option.{slice_get_within}
use Rattle.std.proofs.lemmas.Bool.Decides.{nat_tests}
use Rattle.gs_chronicle.specs.declared.kinds.ActionKind.{ActionKind}
use Rattle.gs_chronicle.specs.declared.kinds.ActionKind.TheVariants.{Commit, CommitPatch, Delete, Head, Pin}
use Rattle.gs_pass.specs.declared.receipts.Receipt.{Receipt}
use Rattle.gs_pass.specs.declared.records.Record.{Record}
use Rattle.gs_pass.specs.declared.stamps.Stamp.{Stamp}
use Rattle.gs_pass.specs.Kinds.{kind_of_code, code_of_kind}
use Rattle.gs_pass.specs.Stamps.{Claim, StandIn, stamp, stamp_of, receipt}
use Rattle.gs_pass.specs.Claims.{are_of, rises, receipts_of, receipt_in}
use Rattle.gs_pass.specs.Backing.{Backed, IsBacked}
use Rattle.gs_pass.specs.Tallies.{AddsReceipt}

-- a kind comes back from its code
pub kind_of_code-code_of_kind : (k : ActionKind) → kind_of_code (code_of_kind k) ≡ k
kind_of_code-code_of_kind Commit = refl
kind_of_code-code_of_kind CommitPatch = refl
kind_of_code-code_of_kind Delete = refl
kind_of_code-code_of_kind Head = refl
kind_of_code-code_of_kind Pin = refl

-- the words of a stamp say it
pub stamp_of-words : (ws : List ℕ) (seat : ℕ) (r : Receipt) → ws ≡ r.number ∷ seat ∷ code_of_kind r.kind ∷ r.status ∷ [] → stamp_of ws ≡ stamp seat r
stamp_of-words ws seat r e = ap stamp_of e ∙ ap (λ k. stamp seat (receipt r.number k r.status)) (kind_of_code-code_of_kind r.kind)

-- claims of a seat, and one more of it
pub are_of-push : (seat : ℕ) (cs : List Claim) (c : Claim) → are_of seat cs ≡ true → c.1.seat ≡ seat → are_of seat (cs ++ c ∷ []) ≡ true
are_of-push seat [] c h e = and_from _ _ (eq-eqb _ _ e) refl
are_of-push seat (x ∷ cs) c h e = let p = and_parts _ _ h in and_from _ _ p.0 (are_of-push seat cs c p.1 e)

-- a number that is at most another passes the test
le_test : (a b : ℕ) → a ≤ b → nat_le a b ≡ true
le_test a b h = search (arith)

-- places that rise and stand among some stamps still rise with the place after these
pub rises-push : (from : ℕ) (all : List Stamp) (cs : List Claim) (s : Stamp) → rises from cs ≡ true → StandIn all cs → from ≤ length all → rises from (cs ++ (length all, s) ∷ []) ≡ true
rises-push from all [] s h st le = and_from _ _ (le_test from (length all) le) refl
rises-push from all (c ∷ cs) s h st le =
    let p = and_parts _ _ h in
    let below = slice_get_within all c.0 c.1 st.0 in
    and_from _ _ p.0 (rises-push (suc c.0) all cs s p.1 st.1 (omega arith))

-- a front that is not full gets what is added
take_push : (n : ℕ) (cs : List Claim) (c : Claim) → length (take n cs) < n → take n (cs ++ c ∷ []) ≡ take n cs ++ c ∷ []
take_push zero cs c h = absurd (omega arith)
take_push (suc zero) [] c h = refl
take_push (suc (suc n)) [] c h = refl
take_push (suc n) (x ∷ cs) c h = ap (λ l. x ∷ l) (take_push n cs c (omega arith))

-- a front that is full stays
take_full : (n : ℕ) (cs : List Claim) (c : Claim) → n ≤ length (take n cs) → take n (cs ++ c ∷ []) ≡ take n cs
take_full zero cs c h = refl
take_full (suc n) [] c h = absurd (omega arith)
take_full (suc n) (x ∷ cs) c h = ap (λ l. x ∷ l) (take_full n cs c (omega arith))

-- while there are fewer than 4,096 receipts, one claim more is one receipt more
pub receipts_of-push : (cs : List Claim) (c : Claim) → length (receipts_of cs) < 4096 → receipts_of (cs ++ c ∷ []) ≡ receipts_of cs ++ c.1.receipt ∷ []
receipts_of-push cs c h = ap (map receipt_in) (take_push 4096 cs c (omega (arith, length-map (take 4096 cs) receipt_in, h))) ∙ map-append receipt_in (take 4096 cs) (c ∷ [])

-- once there are 4,096 receipts, one claim more changes none
pub receipts_of-full : (cs : List Claim) (c : Claim) → 4096 ≤ length (receipts_of cs) → receipts_of (cs ++ c ∷ []) ≡ receipts_of cs
receipts_of-full cs c h = ap (map receipt_in) (take_full 4096 cs c (omega (arith, length-map (take 4096 cs) receipt_in, h)))

-- the receipts of the claims, after one more
pub receipts_of-enter : (cs : List Claim) (c : Claim) (rs after : List Receipt) → rs ≡ receipts_of cs → AddsReceipt rs c.1.receipt after → after ≡ receipts_of (cs ++ c ∷ [])
receipts_of-enter cs c rs after same adds = by_room (nat_lt (length rs) 4096) refl adds
  where
    by_room : (b : Bool) → nat_lt (length rs) 4096 ≡ b → MatchBool b (after ≡ rs ++ c.1.receipt ∷ []) (after ≡ rs) → after ≡ receipts_of (cs ++ c ∷ [])
    by_room true is e =
        let few : length rs < 4096 = grind (arith, nat_tests) in
        e ∙ ap (λ l. l ++ c.1.receipt ∷ []) same ∙ sym (receipts_of-push cs c (omega (arith, few, ap length same)))
    by_room false is e =
        let full : 4096 ≤ length rs = grind (arith, nat_tests) in
        e ∙ same ∙ sym (receipts_of-full cs c (omega (arith, full, ap length same)))

-- what passes the test of equality is equal
eq_of : (a b : ℕ) → (a == b) ≡ true → a ≡ b
eq_of a b e = grind (arith, nat_tests)

-- what passes the test is at most the other
le_of : (a b : ℕ) → nat_le a b ≡ true → a ≤ b
le_of a b e = grind (arith, nat_tests)

-- receipts of so many claims that stand, are of the seat and rise, have their stamps
backed_by : (n : ℕ) (all : List Stamp) (seat from : ℕ) (cs : List Claim) → StandIn all cs → are_of seat cs ≡ true → rises from cs ≡ true → Backed all seat from (map receipt_in (take n cs))
backed_by zero all seat from cs st own up = tt
backed_by (suc n) all seat from [] st own up = tt
backed_by (suc n) all seat from (c ∷ cs) st own up =
    let o = and_parts _ _ own in
    let r = and_parts _ _ up in
    (c.0, le_of from c.0 r.0, st.0 ∙ ap (λ s. Some (stamp s c.1.receipt)) (eq_of _ _ o.0), backed_by n all seat (suc c.0) cs st.1 o.1 r.1)

-- receipts of claims that stand, are of the seat and rise, have their stamps
pub backed : (all : List Stamp) (seat : ℕ) (cs : List Claim) (rs : List Receipt) → rs ≡ receipts_of cs → StandIn all cs → are_of seat cs ≡ true → rises 0 cs ≡ true → Backed all seat 0 rs
backed all seat cs rs e st own up = subst (Backed all seat 0) (sym e) (backed_by 4096 all seat 0 cs st own up)

-- records whose receipts have stamps, and one more
pub backed_push : (all was : List Stamp) (rs now : List Record) (r : Record) → now ≡ rs ++ r ∷ [] → was ≡ all → All (IsBacked all) rs → IsBacked was r → All (IsBacked all) now
backed_push all was rs now r more same h b =
    subst (All (IsBacked all)) (sym more) (All-append (IsBacked all) rs (r ∷ []) h (one (subst (λ l. IsBacked l r) same b)))
  where
    one : IsBacked all r → All (IsBacked all) (r ∷ [])
    one k zero d lt = k
    one k (suc n) d lt = absurd (omega arith)
