-- The run of bytes that stand as they are.
use Rattle.std.proofs.Common.{◌≡◌, ℕ, ◌+◌, ◌-◌, length-drop, ◌<◌, ◌≤◌, ◌==◌, lit<, ⊎_elim, true, false, cond, List, [], ◌∷◌, length, take, drop, get_or, refl, sym, ap, ◌∙◌, arith, subst, suc}
use Rattle.std.proofs.lemmas.List.{at_drop_more, at_drop_all, take_all}
use Rattle.std.specs.Str.{IsCharBoundary}
use Rattle.std.proofs.lemmas.Bool.Decides.{nat_tests}
use Rattle.std.proofs.lemmas.Bool.{cases_lt}
use Rattle.gs_model.specs.Characters.{is_iri_char}
use Rattle.gs_escape.specs.declared.forms.Form.{Form}
use Rattle.gs_escape.specs.declared.forms.Form.TheVariants as form
use Rattle.gs_escape.specs.Meanings.{stands, stands_short, stands_long, stands_local}
use Rattle.gs_escape.specs.Runs.{run_of}

run_of-cons : (f : Form) (c : ℕ) (cs : List ℕ) → run_of f (c ∷ cs) ≡ cond (stands f c cs) (1 + run_of f cs) 0
unfolding run_of
run_of-cons f c cs = refl

run_of-nil : (f : Form) → run_of f [] ≡ 0
unfolding run_of
run_of-nil f = refl

run_of-at : (f : Form) (x : List ℕ) (i : ℕ) → i < length x → run_of f (drop i x) ≡ cond (stands f (get_or x i 0) (drop (i + 1) x)) (1 + run_of f (drop (i + 1) x)) 0
run_of-at f x i h = at_drop_more (run_of f) x i 0 h ∙ run_of-cons f (get_or x i 0) (drop (i + 1) x)

pub run_of-stops : (f : Form) (x : List ℕ) (i : ℕ) → i < length x → stands f (get_or x i 0) (drop (i + 1) x) ≡ false → run_of f (drop i x) ≡ 0
run_of-stops f x i h e = run_of-at f x i h ∙ ap (λ b. cond b (1 + run_of f (drop (i + 1) x)) 0) e

pub run_of-goes : (f : Form) (x : List ℕ) (i : ℕ) → i < length x → stands f (get_or x i 0) (drop (i + 1) x) ≡ true → run_of f (drop i x) ≡ 1 + run_of f (drop (i + 1) x)
run_of-goes f x i h e = run_of-at f x i h ∙ ap (λ b. cond b (1 + run_of f (drop (i + 1) x)) 0) e

pub run_of-ends : (f : Form) (x : List ℕ) (i : ℕ) → length x ≤ i → run_of f (drop i x) ≡ 0
run_of-ends f x i h = at_drop_all (run_of f) x i h ∙ run_of-nil f

-- a byte that does not stand is ASCII
high_iri : (c : ℕ) → 128 ≤ c → is_iri_char c ≡ true
high_iri c h = grind (arith, nat_tests)

high_short : (q c : ℕ) → q < 128 → 128 ≤ c → stands_short q c ≡ true
unfolding stands_short
high_short q c l h = grind (arith, nat_tests)

high_long : (q c : ℕ) (x : List ℕ) → q < 128 → 128 ≤ c → stands_long q c x ≡ true
unfolding stands_long
high_long q c x l h =
    let e : (c == q) ≡ false = grind (arith, nat_tests) in
    let g : (c == 92) ≡ false = grind (arith, nat_tests) in
    cc

high_local : (c : ℕ) → 128 ≤ c → stands_local c ≡ true
unfolding stands_local
high_local c h = grind (arith, nat_tests)

high_stands : (f : Form) (c : ℕ) (x : List ℕ) → 128 ≤ c → stands f c x ≡ true
high_stands form.IriRef c x h = high_iri c h
high_stands form.StringLiteralQuote c x h = high_short 34 c (lit< tt) h
high_stands form.StringLiteralSingleQuote c x h = high_short 39 c (lit< tt) h
high_stands form.StringLiteralLongQuote c x h = high_long 34 c x (lit< tt) h
high_stands form.StringLiteralLongSingleQuote c x h = high_long 39 c x (lit< tt) h
high_stands form.Local c x h = high_local c h

low_stop : (f : Form) (c : ℕ) (x : List ℕ) → stands f c x ≡ false → c < 128
low_stop f c x e = ⊎_elim (λ l. l) (λ h. let k = high_stands f c x h in absurd (cc)) (cases_lt c 128)

-- the byte after the run does not stand, and so is ASCII
pub run_of-low : (f : Form) (x : List ℕ) → run_of f x < length x → get_or x (run_of f x) 0 < 128
unfolding run_of
run_of-low f [] h = absurd (omega arith)
run_of-low f (c ∷ cs) h =
    elim (stands f c cs) as (λ b. stands f c cs ≡ b → get_or (c ∷ cs) (cond b (1 + run_of f cs) 0) 0 < 128) [
      | true ↦ λ e.
          let k : run_of f cs < length cs = omega (arith, run_of-cons f c cs ∙ ap (λ b. cond b (1 + run_of f cs) 0) e) in
          subst (λ n. get_or (c ∷ cs) n 0 < 128) (let g : suc (run_of f cs) ≡ 1 + run_of f cs = omega arith in g) (run_of-low f cs k)
      | false ↦ λ e. low_stop f c cs e
    ] refl

pub run_boundary : (f : Form) (x : List ℕ) (n : ℕ) → n ≡ run_of f x → n ≤ length x → IsCharBoundary x n
run_boundary f x n e l = (l, λ h k. let low = run_of-low f x (omega arith) in let low2 : get_or x n 0 < 128 = subst (λ m. get_or x m 0 < 128) (sym e) low in absurd (omega arith))

pub rest_whole : (x : List ℕ) (k : ℕ) → take (length x - k) (drop k x) ≡ drop k x
rest_whole x k = take_all (length x - k) (drop k x) (omega (arith, length-drop k x))
