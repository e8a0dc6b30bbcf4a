-- Forms of operations, of which the first ones have taken their patterns.
use Rattle.std.proofs.Common.{◌≡◌, ℕ, zero, suc, ◌+◌, ◌<◌, List, [], ◌∷◌, length, map, set, get_or, refl, sym, ap, ◌∙◌, subst, arith}
use Rattle.gs_event.specs.declared.updates.Op.{Op}
use Rattle.gs_chronicle.specs.declared.kept_ops.KeptOp.{KeptOp}
use Rattle.gs_chronicle.specs.KeptOps.{kept_op, brings, kept_brings}

-- The first of the forms are these operations, so many; the others are without patterns, and their operations are as they were.
abbrev pub Taken : ℕ → List KeptOp → List Op → List Op → Type 0
Taken i [] [] [] = Unit {0}
Taken i [] [] (p ∷ ps) = ⊥
Taken i [] (o ∷ os) ps = ⊥
Taken i (f ∷ fs) [] ps = ⊥
Taken i (f ∷ fs) (o ∷ os) [] = ⊥
Taken zero (f ∷ fs) (o ∷ os) (p ∷ ps) = (kept_brings f ≡ brings p) × (o ≡ p) × Taken zero fs os ps
Taken (suc i) (f ∷ fs) (o ∷ os) (p ∷ ps) = (kept_op f ≡ p) × Taken i fs os ps

pub taken_none : (fs : List KeptOp) (ps : List Op) → map kept_brings fs ≡ map brings ps → Taken zero fs ps ps
taken_none [] [] same = tt
taken_none [] (p ∷ ps) same = absurd (cc)
taken_none (f ∷ fs) [] same = absurd (cc)
taken_none (f ∷ fs) (p ∷ ps) same = (cc, refl, taken_none fs ps (cc))

-- the next form is one of the next operation
pub taken_next : (i : ℕ) (fs : List KeptOp) (os ps : List Op) (d : KeptOp) (e : Op) → Taken i fs os ps → i < length fs → kept_brings (get_or fs i d) ≡ brings (get_or os i e)
taken_next i [] os ps d e h inside = absurd (omega (arith, inside))
taken_next i (f ∷ fs) [] ps d e h inside = absurd h
taken_next i (f ∷ fs) (o ∷ os) [] d e h inside = absurd h
taken_next zero (f ∷ fs) (o ∷ os) (p ∷ ps) d e h inside = h.0 ∙ ap brings (sym h.1)
taken_next (suc i) (f ∷ fs) (o ∷ os) (p ∷ ps) d e h inside = taken_next i fs os ps d e h.1 (omega (arith, inside))

-- once that form is its operation, one more is
one_more : (i : ℕ) (fs : List KeptOp) (os ps : List Op) (e : Op) (f_then : KeptOp) (o_then : Op) → Taken i fs os ps → i < length fs → kept_op f_then ≡ get_or os i e
    → Taken (suc i) (set fs i f_then) (set os i o_then) ps
one_more i [] os ps e f_then o_then h inside same = absurd (omega (arith, inside))
one_more i (f ∷ fs) [] ps e f_then o_then h inside same = absurd h
one_more i (f ∷ fs) (o ∷ os) [] e f_then o_then h inside same = absurd h
one_more zero (f ∷ fs) (o ∷ os) (p ∷ ps) e f_then o_then h inside same = (same ∙ h.1, h.2)
one_more (suc i) (f ∷ fs) (o ∷ os) (p ∷ ps) e f_then o_then h inside same = (h.0, one_more i fs os ps e f_then o_then h.1 (omega (arith, inside)) same)

pub taken_more : (i : ℕ) (fs : List KeptOp) (os ps : List Op) (e : Op) (f_then : KeptOp) (o_then : Op) → Taken i fs os ps → i < length fs → kept_op f_then ≡ get_or os i e
    → Taken (i + 1) (set fs i f_then) (set os i o_then) ps
taken_more i fs os ps e f_then o_then h inside same =
    subst (λ n. Taken n (set fs i f_then) (set os i o_then) ps) (omega arith) (one_more i fs os ps e f_then o_then h inside same)

-- at the end all are
pub taken_all : (i : ℕ) (fs : List KeptOp) (os ps : List Op) → Taken i fs os ps → i ≡ length fs → map kept_op fs ≡ ps
taken_all i [] [] [] h end = refl
taken_all i [] [] (p ∷ ps) h end = absurd h
taken_all i [] (o ∷ os) ps h end = absurd h
taken_all i (f ∷ fs) [] ps h end = absurd h
taken_all i (f ∷ fs) (o ∷ os) [] h end = absurd h
taken_all zero (f ∷ fs) (o ∷ os) (p ∷ ps) h end = absurd (omega (arith, end))
taken_all (suc i) (f ∷ fs) (o ∷ os) (p ∷ ps) h end = λ k. h.0 k ∷ taken_all i fs os ps h.1 (omega (arith, end)) k

-- where one of them keeps the same operation as before, so do all
pub same_ops : (ks : List KeptOp) (i : ℕ) (d k : KeptOp) → i < length ks → kept_op k ≡ kept_op (get_or ks i d) → map kept_op (set ks i k) ≡ map kept_op ks
same_ops [] i d k inside same = absurd (omega (arith, inside))
same_ops (x ∷ xs) zero d k inside same = ap (λ (o : Op). o ∷ map kept_op xs) same
same_ops (x ∷ xs) (suc i) d k inside same = ap (λ (os : List Op). kept_op x ∷ os) (same_ops xs i d k (omega (arith, inside)) same)
