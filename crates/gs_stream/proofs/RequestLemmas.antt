-- The requests of a stream, whatever the most of them is.
use Rattle.std.proofs.Common.{◌≡◌, ℕ, zero, suc, ◌+◌, ◌≤◌, true, false, cond, eqb, leb, List, [], ◌∷◌, length, take, refl, sym, ap, ◌∙◌, arith, length-take, length-drop, length-append, Some, None}
use Rattle.gs_transfer.specs.States.{TransferState, Left, Over, ByteStep, Gives, Passes, Fails, step, start_state}
use Rattle.gs_transfer.specs.Cuts.{BodyCut, End, goes_on, cut_from, body_at}
use Rattle.gs_transfer.specs.Cuts as body
use Rattle.gs_verdict.specs.declared.verdicts.Asked.{Asked}
use Rattle.gs_verdict.specs.declared.verdicts.Verdict.{Verdict}
use Rattle.gs_verdict.specs.declared.verdicts.Verdict.TheVariants.{Deny, Ask}
use Rattle.gs_verdict.specs.Bytes.{head_verdict}
use Rattle.gs_verdict.specs.Checks.{limit_of}
use Rattle.gs_stream.specs.Heads.{Parted, through_empty_line, HeadCut, Open, TooLong, Whole, stripped, cut_at, head_at}
use Rattle.gs_stream.specs.Requests.{Request, Denied, Asks, by_end, by_verdict, by_head, requests_in, requests}
use Rattle.gs_stream.specs.Laws.{ReadsOn}
use Rattle.gs_stream.proofs.PartLemmas.{IsParted, through-parts}

-- What stands after a whole body has so many bytes at most.
abbrev LeavesIn : ℕ → End → Type 0
LeavesIn n (body.Whole rest) = length rest ≤ n
LeavesIn n other = Unit {0}

-- of one more
leaves-more : (n m : ℕ) (e : End) → n ≤ m → LeavesIn n e → LeavesIn m e
leaves-more n m (body.Whole rest) h l = omega arith
leaves-more n m body.Open h l = tt
leaves-more n m (body.Faulty status) h l = tt

-- after one byte
step-leaves : (n c : ℕ) (f : TransferState → BodyCut) (s : ByteStep) → ((t : TransferState) → LeavesIn n (f t).end) → LeavesIn n (goes_on f c s).end
step-leaves n c f (Gives t) h = h t
step-leaves n c f (Passes t) h = h t
step-leaves n c f (Fails status) h = tt

-- from each state on
rest-leaves : (limit : ℕ) (s : TransferState) (x : List ℕ) → LeavesIn (length x) (cut_from limit s x).end
rest-leaves limit (Left zero) x = omega arith
rest-leaves limit Over x = omega arith
rest-leaves limit s [] = tt
rest-leaves limit s (c ∷ x) =
    leaves-more (length x) (length (c ∷ x)) (cut_from limit s (c ∷ x)).end (omega arith) (step-leaves (length x) c (λ (t : TransferState). cut_from limit t x) (step limit s c) (λ (t : TransferState). rest-leaves limit t x))

-- Two ways to read on say the same of so many bytes.
abbrev Agrees : ℕ → (f g : List ℕ → List Request) → Type 0
Agrees n f g = (y : List ℕ) → length y ≤ n → f y ≡ g y

-- from the end of a body on
same-end : (n : ℕ) (f g : List ℕ → List Request) (a : Asked) (b : List ℕ) (e : End) → Agrees n f g → LeavesIn n e → by_end f a b e ≡ by_end g a b e
same-end n f g a b body.Open h l = refl
same-end n f g a b (body.Faulty status) h l = refl
same-end n f g a b (body.Whole rest) h l = ap (λ (z : List Request). Asks a b ∷ z) (h rest l)

-- from what a head asks for on
same-verdict : (n : ℕ) (f g : List ℕ → List Request) (v : Verdict) (rest : List ℕ) → Agrees n f g → length rest ≤ n → by_verdict f v rest ≡ by_verdict g v rest
unfolding body_at
same-verdict n f g (Deny d) rest h l = ap (λ (z : List Request). Denied d ∷ cond d.closes [] z) (h rest l)
same-verdict n f g (Ask a) rest h l =
    let limit = limit_of a.method in
    let s : TransferState = start_state a.framing in
    let d : BodyCut = cut_from limit s rest in
    same-end n f g a d.bytes d.end h (leaves-more (length rest) n d.end l (rest-leaves limit s rest))

-- What stands after a whole head has so many bytes at most.
abbrev HeadLeaves : ℕ → HeadCut → Type 0
HeadLeaves n (Whole head rest) = length rest ≤ n
HeadLeaves n other = Unit {0}

-- from a head on
same-head : (n : ℕ) (base : List ℕ) (f g : List ℕ → List Request) (h : HeadCut) → Agrees n f g → HeadLeaves n h → by_head base f h ≡ by_head base g h
same-head n base f g Open a l = refl
same-head n base f g TooLong a l = refl
same-head n base f g (Whole head rest) a l = same-verdict n f g (head_verdict base head) rest a l

-- what is stripped is no longer than the text
stripped-length : (x : List ℕ) → length (stripped x) ≤ length x
stripped-length [] = omega arith
stripped-length (c ∷ []) = elim (eqb c 10) as (λ b. length (cond b [] (c ∷ [])) ≤ 1) [ true ↦ omega arith | false ↦ omega arith ]
stripped-length (c ∷ (d ∷ cs)) =
    let x : List ℕ = c ∷ (d ∷ cs) in
    let one = stripped-length (d ∷ cs) in
    let two = stripped-length cs in
    elim (eqb c 10) as (λ b. length (cond b (stripped (d ∷ cs)) (cond (eqb c 13) (cond (eqb d 10) (stripped cs) x) x)) ≤ length x) [
      | true ↦ omega arith
      | false ↦ elim (eqb c 13) as (λ b. length (cond b (cond (eqb d 10) (stripped cs) x) x) ≤ length x) [
        | true ↦ elim (eqb d 10) as (λ b. length (cond b (stripped cs) x) ≤ length x) [ true ↦ omega arith | false ↦ omega arith ]
        | false ↦ omega arith
      ]
    ]

-- a whole head has two bytes
cut-leaves : (n : ℕ) (x f : List ℕ) (o : Parted) → length f ≤ length x → IsParted 2 f o → length x ≤ n + 1 → HeadLeaves n (cut_at x o)
cut-leaves n x f None few h l = elim (leb 16384 (length x)) as (λ b. HeadLeaves n (cond b TooLong Open)) [ true ↦ tt | false ↦ tt ]
cut-leaves n x f (Some p) few h l = omega (arith, h.1, few, l, ap length h.0, length-append p.0 p.1, length-drop (length p.0) x)

-- and what stands after it is shorter than the text
head-leaves : (n : ℕ) (x : List ℕ) → length x ≤ n + 1 → HeadLeaves n (head_at (stripped x))
unfolding head_at
head-leaves n x h =
    let y : List ℕ = stripped x in
    cut-leaves n y (take 16384 y) (through_empty_line (take 16384 y)) (omega (arith, length-take 16384 y)) (through-parts (take 16384 y)) (omega (arith, h, stripped-length x))

-- no bytes have no request
requests-nil : (n : ℕ) (base : List ℕ) → requests_in n base [] ≡ []
unfolding requests_in head_at
requests-nil zero base = refl
requests-nil (suc n) base = refl

-- The most of them does not matter, where it is no less than the bytes.
same-requests : (m n : ℕ) (base x : List ℕ) → length x ≤ m → length x ≤ n → requests_in m base x ≡ requests_in n base x
unfolding requests_in
same-requests m n base [] h k = requests-nil m base ∙ sym (requests-nil n base)
same-requests zero n base (c ∷ x) h k = absurd (omega arith)
same-requests (suc m) zero base (c ∷ x) h k = absurd (omega arith)
same-requests (suc m) (suc n) base (c ∷ x) h k =
    same-head (length x) base (requests_in m base) (requests_in n base) (head_at (stripped (c ∷ x)))
    (λ y l. same-requests m n base y (omega arith) (omega arith))
    (head-leaves (length x) (c ∷ x) (omega arith))

-- The requests are those of the first head and of what stands after it.
pub reads-on : ReadsOn
unfolding requests requests_in head_at
reads-on base [] = refl
reads-on base (c ∷ x) =
    same-head (length x) base (requests_in (length x) base) (requests base) (head_at (stripped (c ∷ x)))
    (λ y l. same-requests (length x) (length y) base y l (omega arith))
    (head-leaves (length x) (c ∷ x) (omega arith))
