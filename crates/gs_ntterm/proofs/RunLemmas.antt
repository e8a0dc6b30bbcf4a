-- A token with a run after it, and that each byte of a run is ASCII.
use Rattle.std.proofs.Common.{◌≡◌, ℕ, ◌+◌, ◌<◌, ◌≤◌, Bool, true, false, cond, List, [], ◌∷◌, ◌++◌, length, refl, sym, ap, ◌∙◌, arith, append_assoc, append-nil, length-append, Result, Ok, Err}
use Rattle.std.specs.Prelude.{◌==◌, ◌&&◌, ◌||◌, not, nat_lt, nat_le, OnOk}
use Rattle.std.proofs.lemmas.Bool.{and_parts}
use Rattle.std.proofs.lemmas.Bool.Decides.{nat_tests}
use Rattle.gs_model.specs.Characters.{quote, colon, is_iri_char, in_ranges, pn_chars}
use Rattle.gs_model.specs.Limits.{max_term_bytes}
use Rattle.gs_model.specs.Escapes.{is_line_end, is_string_char}
use Rattle.gs_ntterm.specs.Classes.{is_space}
use Rattle.gs_ntterm.specs.Tokens.{Text, Long, hold}
use Rattle.gs_ntterm.specs.Forms.{form_on, form_after, form_of}
use Rattle.gs_ntterm.specs.declared.forms.Form.{Form}
use Rattle.gs_ntterm.specs.Views.{held_form}
use Rattle.gs_ntterm.specs.Runs.{runs_in_iri, runs_in_string, runs_in_label, runs_in_comment, add_each}
use Rattle.gs_ntterm.proofs.Holding.{add-hold, add-grown}

add_each-hold : (t bs : List ℕ) → add_each (hold t) bs ≡ hold (t ++ bs)
add_each-hold t [] = ap hold (sym (append-nil t))
add_each-hold t (b ∷ bs) = ap (λ h. add_each h bs) (add-hold t (b ∷ [])) ∙ add_each-hold (t ++ b ∷ []) bs ∙ ap hold (append_assoc t (b ∷ []) bs)

pub add_each-text : (t : List ℕ) (b : ℕ) (bs : List ℕ) → add_each (Text t) (b ∷ bs) ≡ hold (t ++ b ∷ bs)
add_each-text t b bs = add_each-hold (t ++ b ∷ []) bs ∙ ap hold (append_assoc t (b ∷ []) bs)

add_each-long : (f : Form) (bs : List ℕ) → add_each (Long f) bs ≡ Long (form_after f bs)
add_each-long f [] = refl
add_each-long f (b ∷ bs) = add_each-long (form_on f b) bs

pub add_each-still_long : (l : Bool) (f g : Form) (t bs : List ℕ) → l ≡ true → g ≡ form_after f bs → held_form l g t ≡ add_each (held_form l f t) bs
add_each-still_long true f g t bs e k = ap Long k ∙ sym (add_each-long f bs)
add_each-still_long false f g t bs e k = absurd (Prim.cc)

pub add_each-too_long : (l m : Bool) (f g : Form) (t u bs : List ℕ) → l ≡ false → m ≡ true → g ≡ form_after (form_of t) bs → 0 < length bs → max_term_bytes < length t + length bs
    → held_form m g u ≡ add_each (held_form l f t) bs
add_each-too_long true m f g t u bs e k w h n = absurd (Prim.cc)
add_each-too_long false false f g t u bs e k w h n = absurd (Prim.cc)
add_each-too_long false true f g t u [] e k w h n = absurd (omega arith)
add_each-too_long false true f g t u (b ∷ bs) e k w h n = ap Long w ∙ add-grown false f t (b ∷ bs) e n ∙ sym (add_each-text t b bs)

pub add_each-fits : {A E : Type 0} (r : Result A E) (l : Bool) (f : Form) (t bs u : List ℕ) → l ≡ false → (0 < length bs → length t + length bs ≤ max_term_bytes) → OnOk r (u ≡ t ++ bs)
    → OnOk r (held_form l f u ≡ add_each (held_form l f t) bs)
add_each-fits (Err x) l f t bs u e h w = tt
add_each-fits (Ok x) true f t bs u e h w = absurd (Prim.cc)
add_each-fits (Ok x) false f t [] u e h w = ap Text (w ∙ append-nil t)
add_each-fits (Ok x) false f t (b ∷ bs) u e h w =
    let n = length-append t (b ∷ bs) in
    let k = h (omega arith) in
    let v : nat_le (length (t ++ b ∷ bs)) max_term_bytes ≡ true = grind (arith, nat_tests) in
    ap Text w ∙ sym (add_each-text t b bs ∙ ap (λ z. cond z (Text (t ++ b ∷ bs)) (Long (form_of (t ++ b ∷ bs)))) v)

-- the bytes of each class are ASCII
ascii : (b : ℕ) (more : Bool) → (nat_lt b 128 && more) ≡ true → b < 128
ascii b more h = let e = (and_parts (nat_lt b 128) more h).0 in grind (arith, nat_tests)

pub low_iri : (b : ℕ) → runs_in_iri b ≡ true → b < 128
low_iri b k = let e = (and_parts (nat_lt b 123) (is_iri_char b) k).0 in grind (arith, nat_tests)

pub low_string : (b : ℕ) → runs_in_string b ≡ true → b < 128
low_string b k = ascii b (is_string_char quote b) k

pub low_label : (b : ℕ) → runs_in_label b ≡ true → b < 128
low_label b k = ascii b (in_ranges pn_chars b || b == colon) k

pub low_comment : (b : ℕ) → runs_in_comment b ≡ true → b < 128
low_comment b k = ascii b (not (is_line_end b)) k

pub low_space : (b : ℕ) → is_space b ≡ true → b < 128
low_space b k = grind (arith, nat_tests)
