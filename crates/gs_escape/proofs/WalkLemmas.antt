-- The meaning of a text, from its run and the escape after it.
use Rattle.std.proofs.Common.{◌≡◌, ◌≢◌, length-drop, ℕ, ◌+◌, ◌<◌, ◌==◌, Bool, true, false, cond, List, [], ◌∷◌, ◌++◌, length, take, drop, refl, sym, ap, ◌∙◌, arith, suc, zero, append_assoc, append-nil}
use Rattle.std.specs.Prelude.{Option, Some, None, option_map, option_and_then, encode_utf8}
use Rattle.std.specs.Option.{is_some}
use Rattle.std.specs.Str.{IsUtf8, is_utf8}
use Rattle.std.proofs.lemmas.Str.{IsUtf8-from_is_utf8, is_utf8-from_IsUtf8}
use Rattle.gs_escape.specs.declared.forms.Form.{Form}
use Rattle.gs_escape.specs.Escapes.{Escape, escape}
use Rattle.gs_escape.specs.Meanings.{stands, meant_after, unescaped, meaning}
use Rattle.gs_escape.specs.Runs.{run_of, front_escape}

pub meant_after-meant_after : (u v : List ℕ) (m : Option (List ℕ)) → meant_after u (meant_after v m) ≡ meant_after (u ++ v) m
meant_after-meant_after u v None = refl
meant_after-meant_after u v (Some w) = ap Some (sym (append_assoc u v w))

meant_after-nil : (m : Option (List ℕ)) → meant_after [] m ≡ m
meant_after-nil None = refl
meant_after-nil (Some w) = refl

pub is_some-meant_after : (u : List ℕ) (m : Option (List ℕ)) → is_some (meant_after u m) ≡ is_some m
is_some-meant_after u None = refl
is_some-meant_after u (Some w) = refl

-- the bytes of an escape are passed over
unescaped-drop : (f : Form) (n : ℕ) (x : List ℕ) → unescaped f n x ≡ unescaped f 0 (drop n x)
unfolding unescaped
unescaped-drop f zero x = refl
unescaped-drop f (suc n) [] = refl
unescaped-drop f (suc n) (c ∷ cs) = unescaped-drop f n cs

-- what an escape at the front gives, with the text after it
abbrev pub step : Form → Option (ℕ × List ℕ) → Option (List ℕ)
step f o = option_and_then (λ e. meant_after (encode_utf8 e.0) (unescaped f 0 e.1)) o

taken : (f : Form) (cs : List ℕ) (o : Option Escape)
    → option_and_then (λ e. meant_after (encode_utf8 e.0) (unescaped f e.1 cs)) o ≡ step f (option_map (λ e. (e.0, drop e.1 cs)) o)
taken f cs None = refl
taken f cs (Some e) = ap (meant_after (encode_utf8 e.0)) (unescaped-drop f e.1 cs)

unescaped-stop : (f : Form) (c : ℕ) (cs : List ℕ) → stands f c cs ≡ false → unescaped f 0 (c ∷ cs) ≡ step f (front_escape f (c ∷ cs))
unfolding unescaped front_escape
unescaped-stop f c cs h =
    ap (λ b. cond b (meant_after (c ∷ []) (unescaped f 0 cs)) (cond (c == 92) (option_and_then (λ e. meant_after (encode_utf8 e.0) (unescaped f e.1 cs)) (escape f cs)) None)) h
    ∙ elim (c == 92) as (λ b. cond b (option_and_then (λ e. meant_after (encode_utf8 e.0) (unescaped f e.1 cs)) (escape f cs)) None ≡ step f (cond b (option_map (λ e. (e.0, drop e.1 cs)) (escape f cs)) None)) [
      | true ↦ taken f cs (escape f cs)
      | false ↦ refl
    ]

unescaped-plain : (f : Form) (c : ℕ) (cs : List ℕ) → stands f c cs ≡ true → unescaped f 0 (c ∷ cs) ≡ meant_after (c ∷ []) (unescaped f 0 cs)
unfolding unescaped
unescaped-plain f c cs h =
    ap (λ b. cond b (meant_after (c ∷ []) (unescaped f 0 cs)) (cond (c == 92) (option_and_then (λ e. meant_after (encode_utf8 e.0) (unescaped f e.1 cs)) (escape f cs)) None)) h

run_of-plain : (f : Form) (c : ℕ) (cs : List ℕ) → stands f c cs ≡ true → run_of f (c ∷ cs) ≡ suc (run_of f cs)
unfolding run_of
run_of-plain f c cs h = ap (λ b. cond b (1 + run_of f cs) 0) h ∙ omega arith

run_of-stop : (f : Form) (c : ℕ) (cs : List ℕ) → stands f c cs ≡ false → run_of f (c ∷ cs) ≡ 0
unfolding run_of
run_of-stop f c cs h = ap (λ b. cond b (1 + run_of f cs) 0) h

-- what the text after the run gives
abbrev rest_of : Form → List ℕ → Option (List ℕ)
rest_of f [] = Some []
rest_of f (c ∷ cs) = step f (front_escape f (c ∷ cs))

unescaped-nil : (f : Form) → unescaped f 0 [] ≡ Some []
unfolding unescaped
unescaped-nil f = refl

run_of-nil : (f : Form) → run_of f [] ≡ 0
unfolding run_of
run_of-nil f = refl

unescaped-run : (f : Form) (x : List ℕ) → unescaped f 0 x ≡ meant_after (take (run_of f x) x) (rest_of f (drop (run_of f x) x))
unescaped-run f [] = unescaped-nil f ∙ sym (ap (λ n. meant_after (take n []) (rest_of f (drop n []))) (run_of-nil f))
unescaped-run f (c ∷ cs) =
    elim (stands f c cs) as (λ b. stands f c cs ≡ b → unescaped f 0 (c ∷ cs) ≡ meant_after (take (run_of f (c ∷ cs)) (c ∷ cs)) (rest_of f (drop (run_of f (c ∷ cs)) (c ∷ cs)))) [
      | true ↦ λ h.
          unescaped-plain f c cs h
          ∙ ap (meant_after (c ∷ [])) (unescaped-run f cs)
          ∙ meant_after-meant_after (c ∷ []) (take (run_of f cs) cs) (rest_of f (drop (run_of f cs) cs))
          ∙ sym (ap (λ n. meant_after (take n (c ∷ cs)) (rest_of f (drop n (c ∷ cs)))) (run_of-plain f c cs h))
      | false ↦ λ h.
          unescaped-stop f c cs h
          ∙ sym (meant_after-nil (step f (front_escape f (c ∷ cs))))
          ∙ sym (ap (λ n. meant_after (take n (c ∷ cs)) (rest_of f (drop n (c ∷ cs)))) (run_of-stop f c cs h))
    ] refl

rest_of-end : (f : Form) (y : List ℕ) → length y ≡ 0 → rest_of f y ≡ Some []
rest_of-end f [] h = refl
rest_of-end f (c ∷ cs) h = absurd (omega (arith, h))

rest_of-step : (f : Form) (y : List ℕ) → length y ≢ 0 → rest_of f y ≡ step f (front_escape f y)
rest_of-step f [] h = absurd (h refl)
rest_of-step f (c ∷ cs) h = refl

-- the text is its run
pub unescaped-end : (f : Form) (x plain back : List ℕ) → plain ≡ take (run_of f x) x → back ≡ drop (run_of f x) x → length back ≡ 0 → unescaped f 0 x ≡ Some plain
unescaped-end f x plain back e g h =
    unescaped-run f x
    ∙ ap (meant_after (take (run_of f x) x)) (rest_of-end f (drop (run_of f x) x) (ap length (sym g) ∙ h))
    ∙ ap Some (append-nil (take (run_of f x) x) ∙ sym e)

-- an escape stands after the run, or nothing that is one
pub unescaped-step : (f : Form) (x plain back : List ℕ) → plain ≡ take (run_of f x) x → back ≡ drop (run_of f x) x → length back ≢ 0 → unescaped f 0 x ≡ meant_after plain (step f (front_escape f back))
unescaped-step f x plain back e g h =
    unescaped-run f x
    ∙ ap (meant_after (take (run_of f x) x)) (rest_of-step f (drop (run_of f x) x) (λ k. h (ap length g ∙ k)))
    ∙ ap (λ z. meant_after (take (run_of f x) x) (step f (front_escape f z))) (sym g)
    ∙ ap (λ z. meant_after z (step f (front_escape f back))) (sym e)

pub unescaped-turn : (f : Form) (x plain back : List ℕ) (c : ℕ) (y : List ℕ) → plain ≡ take (run_of f x) x → back ≡ drop (run_of f x) x → length back ≢ 0 → Some (c, y) ≡ front_escape f back → unescaped f 0 x ≡ meant_after plain (meant_after (encode_utf8 c) (unescaped f 0 y))
unescaped-turn f x plain back c y e g h k = unescaped-step f x plain back e g h ∙ ap (λ o. meant_after plain (step f o)) (sym k)

none_of : (m : Option (List ℕ)) → is_some m ≡ false → m ≡ None
none_of None h = refl
none_of (Some v) h = absurd (cc)

pub unescaped-none : (f : Form) (w x plain back : List ℕ) → is_some (unescaped f 0 x) ≡ is_some (unescaped f 0 w) → plain ≡ take (run_of f x) x → back ≡ drop (run_of f x) x → length back ≢ 0 → None ≡ front_escape f back → unescaped f 0 w ≡ None
unescaped-none f w x plain back a e g h k =
    none_of (unescaped f 0 w) (sym a ∙ ap is_some (unescaped-step f x plain back e g h ∙ ap (λ o. meant_after plain (step f o)) (sym k)))

-- two texts are put, one after the other
pub two_puts : (o0 o1 o2 u v : List ℕ) (m : Option (List ℕ)) → o1 ≡ o0 ++ u → o2 ≡ o1 ++ v → meant_after o2 m ≡ meant_after o0 (meant_after u (meant_after v m))
two_puts o0 o1 o2 u v m e g =
    ap (λ z. meant_after z m) (g ∙ ap (λ z. z ++ v) e)
    ∙ sym (meant_after-meant_after (o0 ++ u) v m)
    ∙ sym (meant_after-meant_after o0 u (meant_after v m))

-- the meaning of UTF-8, and of other bytes
pub meaning_of_text : (f : Form) (x y : List ℕ) → y ≡ x → IsUtf8 x → meaning f x ≡ unescaped f 0 y
meaning_of_text f x y e u = ap (λ b. cond b (unescaped f 0 x) None) (is_utf8-from_IsUtf8 x u) ∙ ap (unescaped f 0) (sym e)

pub meaning_of_none : (f : Form) (x : List ℕ) → ¬ (IsUtf8 x) → meaning f x ≡ None
meaning_of_none f x n =
    elim (is_utf8 x) as (λ b. is_utf8 x ≡ b → cond b (unescaped f 0 x) None ≡ None) [
      | true ↦ λ h. absurd (n (IsUtf8-from_is_utf8 x h))
      | false ↦ λ h. refl
    ] refl

abbrev with_rest : List ℕ → Escape → ℕ × List ℕ
with_rest ds e = (e.0, drop e.1 ds)

shorter_of : (d : ℕ) (ds : List ℕ) (o : Option Escape) (c : ℕ) (y : List ℕ) → option_map (with_rest ds) o ≡ Some (c, y) → length y < length (d ∷ ds)
shorter_of d ds None c y k = absurd (cc)
shorter_of d ds (Some e) c y k =
    let p : with_rest ds e ≡ (c, y) = cc in
    let q : drop e.1 ds ≡ y = ap (λ z. z.1) p in
    omega (arith, ap length q, length-drop e.1 ds)

shorter_if : (b : Bool) (d : ℕ) (ds : List ℕ) (o : Option Escape) (c : ℕ) (y : List ℕ) → cond b (option_map (with_rest ds) o) None ≡ Some (c, y) → length y < length (d ∷ ds)
shorter_if true d ds o c y k = shorter_of d ds o c y k
shorter_if false d ds o c y k = absurd (cc)

-- and the text after the escape is shorter
pub front_escape-shorter : (f : Form) (x : List ℕ) (c : ℕ) (y : List ℕ) → front_escape f x ≡ Some (c, y) → length y < length x
unfolding front_escape
front_escape-shorter f [] c y h = absurd (cc)
front_escape-shorter f (d ∷ ds) c y h = shorter_if (d == 92) d ds (escape f ds) c y h
