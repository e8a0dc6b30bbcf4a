-- The steps of a head: what stands before it is dropped, it is denied, or what it asks for is begun.
use Rattle.std.proofs.Common.{◌≡◌, ℕ, true, false, cond, eqb, List, [], ◌∷◌, ◌++◌, refl, sym, ap, ◌∙◌}
use Rattle.std.proofs.lemmas.Bool.{eqb-true}
use Rattle.gs_stream.specs.Heads.{stripped, head_at}
use Rattle.gs_stream.specs.Requests.{by_head, requests}
use Rattle.gs_stream.proofs.RequestLemmas.{reads-on}

lf : (c : ℕ) (z : List ℕ) → c ≡ 10 → stripped z ≡ stripped (c ∷ z)
lf c [] e = ap (λ b. cond b [] (c ∷ [])) (sym (ap (λ n. eqb n 10) e))
lf c (d ∷ ds) e = sym (ap (λ n. stripped (n ∷ (d ∷ ds))) e)

crlf : (c d : ℕ) (z : List ℕ) → c ≡ 13 → d ≡ 10 → stripped z ≡ stripped (c ∷ (d ∷ z))
crlf c d z e f = sym (ap (λ n. stripped (n ∷ (d ∷ z))) e ∙ ap (λ n. stripped (13 ∷ (n ∷ z))) f)

-- what is dropped before a head does not count, also where more comes
pub lead-off : (x y : List ℕ) → stripped (stripped x ++ y) ≡ stripped (x ++ y)
lead-off [] y = refl
lead-off (c ∷ []) y =
    elim (eqb c 10) as (λ b. eqb c 10 ≡ b → stripped (cond b [] (c ∷ []) ++ y) ≡ stripped (c ∷ y)) [
      | true ↦ λ e. lf c y (eqb-true c 10 e)
      | false ↦ λ e. refl
    ] refl
lead-off (c ∷ (d ∷ cs)) y =
    let x : List ℕ = c ∷ (d ∷ cs) in
    elim (eqb c 10) as (λ b. eqb c 10 ≡ b → stripped (cond b (stripped (d ∷ cs)) (cond (eqb c 13) (cond (eqb d 10) (stripped cs) x) x) ++ y) ≡ stripped (x ++ y)) [
      | true ↦ λ e. lead-off (d ∷ cs) y ∙ lf c ((d ∷ cs) ++ y) (eqb-true c 10 e)
      | false ↦ λ e. elim (eqb c 13) as (λ b. eqb c 13 ≡ b → stripped (cond b (cond (eqb d 10) (stripped cs) x) x ++ y) ≡ stripped (x ++ y)) [
        | true ↦ λ f. elim (eqb d 10) as (λ b. eqb d 10 ≡ b → stripped (cond b (stripped cs) x ++ y) ≡ stripped (x ++ y)) [
          | true ↦ λ g. lead-off cs y ∙ crlf c d (cs ++ y) (eqb-true c 13 f) (eqb-true d 10 g)
          | false ↦ λ g. refl
        ] refl
        | false ↦ λ f. refl
      ] refl
    ] refl

-- so the requests are the same
pub lead-requests : (base x y : List ℕ) → requests base (stripped x ++ y) ≡ requests base (x ++ y)
lead-requests base x y =
    reads-on base (stripped x ++ y) ∙ ap (λ (z : List ℕ). by_head base (requests base) (head_at z)) (lead-off x y) ∙ sym (reads-on base (x ++ y))
