-- What a scan reports of the longest token at the front of a text.
use Rattle.std.proofs.lemmas.Bool.{and_parts}
use Rattle.std.proofs.Common.{◌≡◌, ◌≢◌, ℕ, ◌<◌, ◌≤◌, Bool, true, false, List, [], ◌∷◌, ◌++◌, refl, sym, ap, ◌∙◌, arith, subst, append_assoc, length, length-append, Some, None, take, encode_utf8, encode_utf8_all, ◌&&◌}
use Rattle.std.proofs.lemmas.Str.{encode_same, encodes-append, len_utf8_bounds, length-encode}
use Rattle.std.specs.Char.{IsScalar}
use Rattle.std.specs.Str.{all_scalars}
use lib.Utf8.{scalar}
use Rattle.gs_automaton.specs.Automata.{Found, Recognizes, run, run_from, kind_at, longest}
use Rattle.gs_automaton.specs.States.{tokens, start_of}
use Rattle.gs_automaton.specs.Scans.{IsBest, IsScanned, IsBarren}
use Rattle.gs_lex.specs.Tokens.{Longest, NoTerminal}
use Rattle.gs_automaton.specs.declared.terminals.Terminal.{Terminal}
use Rattle.gs_automaton.specs.declared.states.State.{State}
use Rattle.gs_automaton.specs.declared.scans.Scan.{Scan}
use Rattle.gs_automaton.proofs.AutomatonLemmas.{run-append, Best, best, IsSplit, longest-split}
use Rattle.gs_automaton.proofs.TerminalLemmas.{accepted-terminal, terminal-accepted}

-- of two lists of characters at the front of one text, one begins with the other
pub data Compared (v cs s z : List ℕ) : Type 0 where
  within : (d : List ℕ) → cs ≡ v ++ d → Compared v cs s z
  beyond : (c : ℕ) (d : List ℕ) → v ≡ cs ++ c ∷ d → z ≡ encode_utf8 c ++ (encode_utf8_all d ++ s) → Compared v cs s z

one_more : (c e : ℕ) (v cs s z : List ℕ) → c ≡ e → Compared v cs s z → Compared (c ∷ v) (e ∷ cs) s z
one_more c e v cs s z k (within d p) = within d (ap (λ y. y ∷ cs) (sym k) ∙ ap (λ y. c ∷ y) p)
one_more c e v cs s z k (beyond b d p q) = beyond b d (ap (λ y. y ∷ v) k ∙ ap (λ y. e ∷ y) p) q

pub compare : (v cs s z : List ℕ) → encode_utf8_all v ++ s ≡ encode_utf8_all cs ++ z → Compared v cs s z
compare [] cs s z e = within cs refl
compare (c ∷ v) [] s z e = beyond c v refl (sym e ∙ append_assoc (encode_utf8 c) (encode_utf8_all v) s)
compare (c ∷ v) (d ∷ cs) s z e =
    let k = encode_same c d (encode_utf8_all v ++ s) (encode_utf8_all cs ++ z)
    (sym (append_assoc (encode_utf8 c) (encode_utf8_all v) s) ∙ e ∙ append_assoc (encode_utf8 d) (encode_utf8_all cs) z) in
    one_more c d v cs s z k.0 (compare v cs s z k.1)

-- the characters in the middle
pub scalar-middle : (cs : List ℕ) (c : ℕ) (d : List ℕ) → all_scalars (cs ++ c ∷ d) ≡ true → IsScalar c
scalar-middle [] c d h = (and_parts (scalar c) (all_scalars d) h).0
scalar-middle (b ∷ cs) c d h = scalar-middle cs c d (and_parts (scalar b) (all_scalars (cs ++ c ∷ d)) h).1

pub scalars-front : (v d : List ℕ) → all_scalars (v ++ d) ≡ true → all_scalars v ≡ true
scalars-front [] d h = refl
scalars-front (c ∷ v) d h =
    let b = and_parts (scalar c) (all_scalars (v ++ d)) h in
    ap (λ z. z && all_scalars v) b.0 ∙ scalars-front v d b.1

-- No token goes beyond what is read.
pub record IsAll (u : Bool) (cs z : List ℕ) : Type 0 where
  pub all : (t : Terminal) (v s : List ℕ) → encode_utf8_all cs ++ z ≡ encode_utf8_all v ++ s → all_scalars v ≡ true → Recognizes (tokens u) t v → (d : List ℕ) × (cs ≡ v ++ d)

pub scalars-back : (v d : List ℕ) → all_scalars (v ++ d) ≡ true → all_scalars d ≡ true
scalars-back [] d h = h
scalars-back (c ∷ v) d h = scalars-back v d (and_parts (scalar c) (all_scalars (v ++ d)) h).1

list_some : (c : ℕ) (v : List ℕ) → c ∷ v ≢ []
list_some c v e = Prim.cc e

all_compared : (u : Bool) (cs z : List ℕ) (q : State) → run (tokens u) cs ≡ Some q → IsBarren u q z → (t : Terminal) (v s : List ℕ) → Compared v cs s z → all_scalars v ≡ true
    → Recognizes (tokens u) t v → (d : List ℕ) × (cs ≡ v ++ d)
all_compared u cs z q h k t v s (within d p) g a = (d, p)
all_compared u cs z q h k t v s (beyond c d p e) g a =
    let goes : run (tokens u) v ≡ run_from (tokens u) (Some q) (c ∷ d) =
    ap (run (tokens u)) p ∙ run-append (tokens u) (Some (tokens u).start) cs (c ∷ d) ∙ ap (λ o. run_from (tokens u) o (c ∷ d)) h in
    absurd (k t (c ∷ d) s (e ∙ sym (append_assoc (encode_utf8 c) (encode_utf8_all d) s)) (scalars-back cs (c ∷ d) (ap all_scalars (sym p) ∙ g)) (list_some c d)
    (sym (ap (kind_at (tokens u)) goes) ∙ a))

pub stuck-all : (u : Bool) (cs z : List ℕ) (q : State) → run (tokens u) cs ≡ Some q → IsBarren u q z → IsAll u cs z
stuck-all u cs z q h k = record { all = λ t v s p g a. all_compared u cs z q h k t v s (compare v cs s z (sym p)) g a }

pub no_start : (u : Bool) (t : Terminal) → Recognizes (tokens u) t [] → ⊥
no_start true t e = Prim.cc e
no_start false t e = Prim.cc e

-- the token that a scan has found in x, which becomes the text
pub record Finds (u : Bool) (x text : List ℕ) (t : Terminal) (n : ℕ) : Type 0 where
  pub chars : List ℕ
  pub rest : List ℕ
  pub longest : Longest u text t chars rest
  pub bytes : take n x ≡ encode_utf8_all chars
  pub some : 0 < n
  pub within : n ≤ length x

take_front : (v w : List ℕ) → take (length v) (v ++ w) ≡ v
take_front [] w = refl
take_front (c ∷ v) w = ap (λ z. c ∷ z) (take_front v w)

-- a character has some bytes
pub some_bytes : (w : List ℕ) → 0 < length w → 0 < length (encode_utf8_all w)
some_bytes [] h = absurd (omega arith)
some_bytes (c ∷ w) h = omega (arith, length-append (encode_utf8 c) (encode_utf8_all w), length-encode c, (len_utf8_bounds c).0)

find_case : (u : Bool) (x text cs after z : List ℕ) (k : Terminal) (n : ℕ) (f : Found Terminal ℕ) → x ≡ encode_utf8_all cs ++ after → text ≡ encode_utf8_all cs ++ z → all_scalars cs ≡ true → IsAll u cs z
    → IsSplit cs f → Best (tokens u) (Some (start_of u)) cs f → IsBest f (Some k) n → Finds u x text k n
find_case u x text cs after z k n None p w g a i b e = Prim.cc e
find_case u x text cs after z k n (Some t) p w g a i b e =
    let same : k ≡ t.0 = Prim.cc (e.0) in
    let front = encode_utf8_all t.1 in
    let back = encode_utf8_all t.2 ++ after in
    let parts : x ≡ front ++ back = p ∙ ap (λ z. encode_utf8_all z ++ after) i.parts ∙ ap (λ z. z ++ after) (encodes-append t.1 t.2) ∙ append_assoc front (encode_utf8_all t.2) after in
    record {
      chars = t.1;
      rest = encode_utf8_all t.2 ++ z;
      longest = record {
        parts = w ∙ ap (λ y. encode_utf8_all y ++ z) i.parts ∙ ap (λ y. y ++ z) (encodes-append t.1 t.2) ∙ append_assoc front (encode_utf8_all t.2) z;
        characters = scalars-front t.1 t.2 (ap all_scalars (sym i.parts) ∙ g);
        is_terminal = accepted-terminal u k t.1 (subst (λ z. Recognizes (tokens u) z t.1) (sym same) b.0);
        most = λ j v s q l m.
            let h = terminal-accepted u j v m in
            let d = a.all j v s (sym w ∙ q) l h in
            b.1 j v d.0 d.1 h;
      };
      bytes = ap (λ z. take z x) e.1 ∙ ap (take (length front)) parts ∙ take_front front back;
      some = omega (arith, some_bytes t.1 i.some, e.1);
      within = omega (arith, ap length parts, length-append front back, e.1);
    }

pub scan-finds : (u : Bool) (x text z : List ℕ) (s : Scan) (k : Terminal) → (h : IsScanned u x s) → text ≡ encode_utf8_all h.chars ++ z → IsAll u h.chars z → s.best ≡ Some k → Finds u x text k s.best_len
scan-finds u x text z s k h w a e =
    find_case u x text h.chars h.after z k s.best_len (longest (tokens u) h.chars) h.parts w h.characters a (longest-split (tokens u) (Some (start_of u)) h.chars)
    (best (tokens u) (Some (start_of u)) h.chars) (subst (λ z. IsBest (longest (tokens u) h.chars) z s.best_len) e h.is_best)

some_list : (c : ℕ) (v : List ℕ) → c ∷ v ≢ []
some_list c v e = Prim.cc e

none_case : (u : Bool) (cs : List ℕ) (n : ℕ) (f : Found Terminal ℕ) → Best (tokens u) (Some (start_of u)) cs f → IsBest f None n → (t : Terminal) (v d : List ℕ) → cs ≡ v ++ d → Recognizes (tokens u) t v → ⊥
none_case u cs n (Some f) b e t v d p a = Prim.cc (e.0)
none_case u cs n None b e t [] d p a = no_start u t a
none_case u cs n None b e t (c ∷ v) d p a = b t (c ∷ v) d p (some_list c v) a

pub scan-none : (u : Bool) (x text z : List ℕ) (s : Scan) → (h : IsScanned u x s) → text ≡ encode_utf8_all h.chars ++ z → IsAll u h.chars z → s.best ≡ None → NoTerminal u text
scan-none u x text z s h w a e t v r p g m =
    let k = terminal-accepted u t v m in
    let d = a.all t v r (sym w ∙ p) g k in
    none_case u h.chars s.best_len (longest (tokens u) h.chars) (best (tokens u) (Some (start_of u)) h.chars) (subst (λ z. IsBest (longest (tokens u) h.chars) z s.best_len) e h.is_best) t v d.0 d.1 k
