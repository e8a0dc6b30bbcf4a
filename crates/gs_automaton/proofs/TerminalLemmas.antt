-- The automaton finds the terminals as their rules describe them, for every character.
use Rattle.std.proofs.Common.{◌≡◌, ℕ, Bool, true, false, cond, List, [], ◌∷◌, refl, sym, ap, ◌∙◌, subst, Option, Some, None, eq-eqb}
use Rattle.std.proofs.lemmas.Bool.{eqb-true, and_parts}
use Rattle.std.specs.Prelude.{◌==◌}
use Rattle.gs_automaton.specs.Automata.{Recognizes, run_from, kind_at}
use Rattle.gs_automaton.specs.Regexes.{Never, Empty, One, Then, Or, Many, Matches}
use Rattle.gs_automaton.specs.States.{tokens, state_after, accepts, start_of}
use Rattle.gs_automaton.specs.Terminals.{Pattern, has_char, rule, IsTerminal}
use Rattle.gs_automaton.specs.declared.terminals.Terminal.{Terminal}
use Rattle.gs_automaton.specs.declared.terminals.Terminal.TheVariants as kind
use Rattle.gs_automaton.specs.declared.states.State.{State}
use Rattle.gs_automaton.proofs.AlikeLemmas.{Alike, In, here, there, boundaries, sample, sample-in, alike-sample, has_char-alike}
use Rattle.gs_automaton.proofs.Checks.{kinds, same, target, follows, follows_all, is_kind, same_answer, ends}
use Rattle.gs_automaton.proofs.StateChecks.{right}
use Rattle.gs_automaton.proofs.Codes.{set-one, kind-one}
use Rattle.gs_automaton.proofs.Derivatives.{nullable, derive, derive-right, derive-back, nullable-right, nullable-back}
use Rattle.gs_automaton.proofs.NextLemmas.{next-alike}
use Rattle.gs_automaton.proofs.Residuals.{code, residual}

-- the test of equality is right
same-right : (r s : Pattern) → same r s ≡ true → r ≡ s
same-right Never Never e = refl
same-right Empty Empty e = refl
same-right (One m) (One n) e = ap One (set-one m n e)
same-right (Then r s) (Then t u) e = let b = and_parts (same r t) (same s u) e in ap (λ z. Then z s) (same-right r t b.0) ∙ ap (λ z. Then t z) (same-right s u b.1)
same-right (Or r s) (Or t u) e = let b = and_parts (same r t) (same s u) e in ap (λ z. Or z s) (same-right r t b.0) ∙ ap (λ z. Or t z) (same-right s u b.1)
same-right (Many r) (Many s) e = ap Many (same-right r s e)
same-right _ _ e = Prim.cc e

-- alike characters have the same derivatives
derive-alike : (c d : ℕ) → Alike c d → (r : Pattern) → derive has_char c r ≡ derive has_char d r
derive-alike c d h Never = refl
derive-alike c d h Empty = refl
derive-alike c d h (One s) = ap (λ b. cond b Empty Never) (has_char-alike c d h s)
derive-alike c d h (Then r s) = Prim.cc (derive-alike c d h r, derive-alike c d h s)
derive-alike c d h (Or r s) = Prim.cc (derive-alike c d h r, derive-alike c d h s)
derive-alike c d h (Many r) = Prim.cc (derive-alike c d h r)

pub data Among (k : Terminal) : List Terminal → Type 0 where
  first : {ks : List Terminal} → Among k (k ∷ ks)
  later : {j : Terminal} {ks : List Terminal} → Among k ks → Among k (j ∷ ks)

follows_kind : (q : State) (c : ℕ) (o : Option State) (k : Terminal) (ks : List Terminal) → follows q c o ks ≡ true → Among k ks → derive has_char c (residual q k) ≡ target o k
follows_kind q c o k _ h (first {ks = ks}) = same-right (derive has_char c (residual q k)) (target o k) (and_parts (same (derive has_char c (residual q k)) (target o k)) (follows q c o ks) h).0
follows_kind q c o k _ h (later {j = j} {ks = ks} a) = follows_kind q c o k ks (and_parts (same (derive has_char c (residual q j)) (target o j)) (follows q c o ks) h).1 a

follows_at : (q : State) (c : ℕ) (cs : List ℕ) → follows_all q cs ≡ true → In c cs → follows q c (state_after q c) kinds ≡ true
follows_at q c _ h (here {xs = cs}) = (and_parts (follows q c (state_after q c) kinds) (follows_all q cs) h).0
follows_at q c _ h (there {y = d} {xs = cs} i) = follows_at q c cs (and_parts (follows q d (state_after q d) kinds) (follows_all q cs) h).1 i

kind_case : (a : Option Terminal) (k : Terminal) (b : Bool) → same_answer (is_kind a k) b ≡ true → (a ≡ Some k → b ≡ true) × (b ≡ true → a ≡ Some k)
kind_case None k true h = Prim.cc h
kind_case None k false h = (λ e. Prim.cc e, λ e. Prim.cc e)
kind_case (Some j) k b h = go (code j == code k) refl h
  where
    go : (d : Bool) → (code j == code k) ≡ d → same_answer d b ≡ true → (Some j ≡ Some k → b ≡ true) × (b ≡ true → Some j ≡ Some k)
    go true e f = (λ z. f, λ z. ap Some (kind-one j k (eqb-true (code j) (code k) e)))
    go false e f = (λ z. absurd (differ e z), λ z. absurd (no b f z))
      where
        differ : (code j == code k) ≡ false → Some j ≡ Some k → ⊥
        differ e z = let s : j ≡ k = Prim.cc z in Prim.cc (sym e ∙ eq-eqb (code j) (code k) (ap code s))

        no : (b : Bool) → same_answer false b ≡ true → b ≡ true → ⊥
        no true f z = Prim.cc f
        no false f z = Prim.cc z

ends_at : (q : State) (k : Terminal) (ks : List Terminal) → ends q ks ≡ true → Among k ks → (accepts q ≡ Some k → nullable (residual q k) ≡ true) × (nullable (residual q k) ≡ true → accepts q ≡ Some k)
ends_at q k _ h (first {ks = ks}) = kind_case (accepts q) k (nullable (residual q k)) (and_parts (same_answer (is_kind (accepts q) k) (nullable (residual q k))) (ends q ks) h).0
ends_at q k _ h (later {j = j} {ks = ks} a) = ends_at q k ks (and_parts (same_answer (is_kind (accepts q) j) (nullable (residual q j))) (ends q ks) h).1 a

among : (k : Terminal) → Among k kinds
among kind.IriRef = first
among kind.PnameNs = later first
among kind.PnameLn = later (later first)
among kind.BlankNodeLabel = later (later (later first))
among kind.LangTag = later (later (later (later first)))
among kind.Integer = later (later (later (later (later first))))
among kind.Decimal = later (later (later (later (later (later first)))))
among kind.Double = later (later (later (later (later (later (later first))))))
among kind.StringLiteralQuote = later (later (later (later (later (later (later (later first)))))))
among kind.StringLiteralSingleQuote = later (later (later (later (later (later (later (later (later first))))))))
among kind.StringLiteralLongQuote = later (later (later (later (later (later (later (later (later (later first)))))))))
among kind.StringLiteralLongSingleQuote = later (later (later (later (later (later (later (later (later (later (later first))))))))))
among kind.Var = later (later (later (later (later (later (later (later (later (later (later (later first)))))))))))
among kind.Word = later (later (later (later (later (later (later (later (later (later (later (later (later first))))))))))))
among kind.Opening = later (later (later (later (later (later (later (later (later (later (later (later (later (later first)))))))))))))
among kind.Dot = later (later (later (later (later (later (later (later (later (later (later (later (later (later (later first))))))))))))))
among kind.Semicolon = later (later (later (later (later (later (later (later (later (later (later (later (later (later (later (later first)))))))))))))))
among kind.Comma = later (later (later (later (later (later (later (later (later (later (later (later (later (later (later (later (later first))))))))))))))))
among kind.OpenBracket = later (later (later (later (later (later (later (later (later (later (later (later (later (later (later (later (later (later first)))))))))))))))))
among kind.CloseBracket = later (later (later (later (later (later (later (later (later (later (later (later (later (later (later (later (later (later (later first))))))))))))))))))
among kind.OpenParenthesis = later (later (later (later (later (later (later (later (later (later (later (later (later (later (later (later (later (later (later (later first)))))))))))))))))))
among kind.CloseParenthesis = later (later (later (later (later (later (later (later (later (later (later (later (later (later (later (later (later (later (later (later (later first))))))))))))))))))))
among kind.Carets = later (later (later (later (later (later (later (later (later (later (later (later (later (later (later (later (later (later (later (later (later (later first)))))))))))))))))))))
among kind.OpenBrace = later (later (later (later (later (later (later (later (later (later (later (later (later (later (later (later (later (later (later (later (later (later (later first))))))))))))))))))))))
among kind.CloseBrace = later (later (later (later (later (later (later (later (later (later (later (later (later (later (later (later (later (later (later (later (later (later (later (later first)))))))))))))))))))))))

-- what is left after a character, for each character
pub derive-residual : (q : State) (c : ℕ) (k : Terminal) → derive has_char c (residual q k) ≡ target (state_after q c) k
derive-residual q c k =
    let h = and_parts (ends q kinds) (follows_all q boundaries) (right q) in
    let s = sample c in
    let l = alike-sample c in
    derive-alike c s l (residual q k)
    ∙ follows_kind q s (state_after q s) k kinds (follows_at q s boundaries h.1 (sample-in c)) (among k)
    ∙ ap (λ o. target o k) (sym (next-alike q c s l))

pub ends-residual : (q : State) (k : Terminal) → (accepts q ≡ Some k → nullable (residual q k) ≡ true) × (nullable (residual q k) ≡ true → accepts q ≡ Some k)
ends-residual q k = ends_at q k kinds (and_parts (ends q kinds) (follows_all q boundaries) (right q)).0 (among k)

stuck : (u : Bool) (w : List ℕ) (k : Terminal) → kind_at (tokens u) (run_from (tokens u) None w) ≡ Some k → ⊥
stuck u [] k e = Prim.cc
stuck u (c ∷ w) k e = Prim.cc

-- what is accepted from a state matches what is left there, and the other way round
abbrev Both : Bool → Option State → Terminal → List ℕ → Type 0
Both u o k w = (kind_at (tokens u) (run_from (tokens u) o w) ≡ Some k → Matches has_char (target o k) w) × (Matches has_char (target o k) w → kind_at (tokens u) (run_from (tokens u) o w) ≡ Some k)

both_on : (u : Bool) (q : State) (c : ℕ) (w : List ℕ) (k : Terminal) → Both u (state_after q c) k w → Both u (Some q) k (c ∷ w)
both_on u q c w k b =
    let e = derive-residual q c k in (
      λ x. derive-right has_char c (residual q k) w (subst (λ z. Matches has_char z w) (sym e) (b.0 x)),
      λ m. b.1 (subst (λ z. Matches has_char z w) e (derive-back has_char c (residual q k) (c ∷ w) m w refl)),
    )

pub both : (u : Bool) (o : Option State) (k : Terminal) (w : List ℕ) → Both u o k w
both u None k w = (λ x. absurd (stuck u w k x), λ m. absurd (elim m [ ]))
both u (Some q) k [] =
    let e = ends-residual q k in
    (λ x. nullable-right has_char (residual q k) (e.0 x), λ m. e.1 (nullable-back has_char (residual q k) [] m refl))
both u (Some q) k (c ∷ w) = both_on u q c w k (both u (state_after q c) k w)

rule_at : (u : Bool) (t : Terminal) → residual (start_of u) t ≡ rule u t
rule_at true t = refl
rule_at false t = refl

pub accepted-terminal : (u : Bool) (t : Terminal) (w : List ℕ) → Recognizes (tokens u) t w → IsTerminal u t w
accepted-terminal u t w h = subst (λ z. Matches has_char z w) (rule_at u t) ((both u (Some (start_of u)) t w).0 h)

pub terminal-accepted : (u : Bool) (t : Terminal) (w : List ℕ) → IsTerminal u t w → Recognizes (tokens u) t w
terminal-accepted u t w h = (both u (Some (start_of u)) t w).1 (subst (λ z. Matches has_char z w) (sym (rule_at u t)) h)
