-- Each step of the cell keeps its rule.
use Rattle.std.proofs.Common.{◌≡◌, ◌≢◌, ℕ, zero, suc, List, [], ◌∷◌, ◌++◌, length, set, Some, true, false, true≢false, refl, sym, ap, ◌∙◌, subst, ⊎_elim}
use Rattle.std.specs.Prelude.{slice_get}
use mathlib.Core.Option.{some, some-ne-none, some-injective}
use lib.ListN.{get_elem?}
use Rattle.crossbeam_utils.specs.Register.{Turns, Forks, Merges}
use Rattle.atomic_table.proofs.Lists.{at_set, at_snoc}
use Rattle.gs_pass.specs.declared.knowledge.Knowledge.{Knowledge}
use Rattle.gs_pass.specs.declared.stamps.Stamp.{Stamp}
use Rattle.gs_pass.specs.Stamps.{Claim, keeper, claimant, stamp_of, StandIn, KnowOneList, Appended, Compared, without_claims, claims_alone, with_claims_of}

-- what stands at a place stands there in a longer list
slice_get-front : (xs ys : List Stamp) (k : ℕ) (p : Stamp) → slice_get xs k ≡ Some p → slice_get (xs ++ ys) k ≡ Some p
slice_get-front [] ys k p e = absurd (cc)
slice_get-front (x ∷ xs) ys zero p e = e
slice_get-front (x ∷ xs) ys (suc k) p e = slice_get-front xs ys k p e

-- what is added to a list stands at its old length
slice_get-last : (xs : List Stamp) (p : Stamp) → slice_get (xs ++ p ∷ []) (length xs) ≡ Some p
slice_get-last [] p = refl
slice_get-last (x ∷ xs) p = slice_get-last xs p

-- claims that stand among some stamps stand among more
stand_front : (all more : List Stamp) (cs : List Claim) → StandIn all cs → StandIn (all ++ more) cs
stand_front all more [] h = tt
stand_front all more (c ∷ cs) h = (slice_get-front all more c.0 c.1 h.0, stand_front all more cs h.1)

-- claims stand where both parts of them do
stand_append : (all : List Stamp) (cs ds : List Claim) → StandIn all cs → StandIn all ds → StandIn all (cs ++ ds)
stand_append all [] ds h k = k
stand_append all (c ∷ cs) ds h k = (h.0, stand_append all cs ds h.1 k)

-- what the rule says of one token
abbrev Agrees : ℕ → List Stamp → ℕ → Knowledge → Type 0
Agrees by all i k = (k.keeps ≡ true → (i ≡ by) × (k.all ≡ all)) × StandIn all k.claims

-- a token's knowledge may change where the rule says the same of the others and of the new knowledge
agrees_set : (by : ℕ) (all : List Stamp) (tokens : List Knowledge) (i : ℕ) (w : Knowledge) → ((j : ℕ) (u : Knowledge) → j ≢ i → get_elem? tokens j ≡ some u → Agrees by all j u) → Agrees by all i w → (j : ℕ) (u : Knowledge) → get_elem? (set tokens i w) j ≡ some u → Agrees by all j u
agrees_set by all tokens i w others mine j u e =
    ⊎_elim
    (λ (x : (j ≡ i) × (w ≡ u)). subst (λ (y : ℕ × Knowledge). Agrees by all y.0 y.1) (λ n. (sym x.0 n, x.1 n)) mine)
    (λ (x : (j ≢ i) × (get_elem? tokens j ≡ some u)). others j u x.0 x.1)
    (at_set tokens i j w u e)

-- false is not true
off : false ≡ true → ⊥
off e = true≢false (sym e)

-- a new cell's keeper knows no stamp
pub begins : (words : List ℕ) → KnowOneList words (keeper [] [] ∷ [])
begins words = (0, [], one)
  where
    one : (i : ℕ) (k : Knowledge) → get_elem? (keeper [] [] ∷ []) i ≡ some k → Agrees 0 [] i k
    one zero k e = subst (Agrees 0 [] 0) (some-injective _ _ e) ((λ _. (refl, refl)), tt)
    one (suc i) k e = absurd (some-ne-none k (sym e))

-- the keeper may write a stamp
appends : (i : ℕ) (all : List Stamp) (claims : List Claim) (new : List ℕ) → Turns KnowOneList i (keeper all claims) (λ _. new) Appended
appends i all claims new words tokens h at =
    let known = h.2 i (keeper all claims) at in
    let mine = known.0 refl in
    let st = stamp_of new in
    let w = keeper (all ++ st ∷ []) (claims ++ (length all, st) ∷ []) in
    let now = h.1 ++ st ∷ [] in (
      w,
      (
        h.0,
        now,
        agrees_set h.0 now tokens i w
            (λ j u apart e. ((λ k. absurd (apart (((h.2 j u e).0 k).0 ∙ sym mine.0))), stand_front h.1 (st ∷ []) u.claims (h.2 j u e).1))
            ((λ _. (mine.0, ap (λ l. l ++ st ∷ []) mine.1)), stand_append now claims ((length all, st) ∷ []) (stand_front h.1 (st ∷ []) claims known.1) (ap (λ l. slice_get (l ++ st ∷ []) (length all)) (sym mine.1) ∙ slice_get-last all st, tt)),
      ),
      (refl, subst (λ l. StandIn l claims) (sym mine.1) known.1),
    )

-- the keeper may compare its claims
compares : (i : ℕ) (all : List Stamp) (claims : List Claim) → Turns KnowOneList i (keeper all claims) (λ x. x) Compared
compares i all claims words tokens h at =
    let known = h.2 i (keeper all claims) at in
    let mine = known.0 refl in
    (keeper all claims, (h.0, h.1, agrees_set h.0 h.1 tokens i (keeper all claims) (λ j u apart e. h.2 j u e) known), (refl, subst (λ l. StandIn l claims) (sym mine.1) known.1))

-- a token may hand its claims to a new one
pub gives : (i : ℕ) (k : Knowledge) → Forks KnowOneList i k (without_claims k) (claims_alone k)
gives i k words tokens h at =
    let known = h.2 i k at in (
      h.0,
      h.1,
      λ j u e. ⊎_elim
          (λ was. agrees_set h.0 h.1 tokens i (without_claims k) (λ n y _ e'. h.2 n y e') (known.0, tt) j u was)
          (λ (same : claims_alone k ≡ u). subst (Agrees h.0 h.1 j) same ((λ k. absurd (off k)), known.1))
          (at_snoc (set tokens i (without_claims k)) (claims_alone k) u j e),
    )

-- a token may take the claims of another in place of its own
pub takes : (i : ℕ) (k : Knowledge) (other : ℕ) (l : Knowledge) → Merges KnowOneList i k other l (with_claims_of k l) (claimant [])
takes i k other l words tokens h at apart there =
    let w = with_claims_of k l in
    let known = h.2 i k at in
    let theirs = ⊎_elim (λ (t : (other ≡ i) × (w ≡ l)). absurd (apart t.0)) (λ (t : (other ≢ i) × (get_elem? tokens other ≡ some l)). h.2 other l t.1) (at_set tokens i other w l there) in
    (h.0, h.1, agrees_set h.0 h.1 (set tokens i w) other (claimant []) (λ j u _ e. agrees_set h.0 h.1 tokens i w (λ n y _ e'. h.2 n y e') (known.0, theirs.1) j u e) ((λ k. absurd (off k)), tt))

-- the keeper may write a stamp, whatever it is called
pub appends_as : (i : ℕ) (k : Knowledge) (all : List Stamp) (claims : List Claim) (new : List ℕ) → k ≡ keeper all claims → Turns KnowOneList i k (λ _. new) Appended
appends_as i k all claims new is = subst (λ (u : Knowledge). Turns KnowOneList i u (λ _. new) Appended) (sym is) (appends i all claims new)

-- the keeper may compare its claims, whatever it is called
pub compares_as : (i : ℕ) (k : Knowledge) (all : List Stamp) (claims : List Claim) → k ≡ keeper all claims → Turns KnowOneList i k (λ x. x) Compared
compares_as i k all claims is = subst (λ (u : Knowledge). Turns KnowOneList i u (λ x. x) Compared) (sym is) (compares i all claims)
