-- A map that keeps one field more.
use Rattle.std.proofs.Common.{◌≡◌, ℕ, false, List, [], ◌∷◌, ◌++◌, map, refl, sym, ap, ◌∙◌, append-nil, inl, inr, length, ◌<◌, take, get_or, ◌+◌}
use Rattle.std.specs.Borrow.{Bor}
use Rattle.std.specs.Str.{bytes_eq}
use Rattle.std.proofs.lemmas.List.{map-append, take_more}
use Rattle.std.proofs.lemmas.Bool.{cases_Bool}
use Rattle.std.proofs.lemmas.Slice.Eq.{bytes_eq-Decides}
use Rattle.http_header.specs.HeaderMap.{Entries, get_all, append}
use Rattle.http_header.specs.Token.{lowercase}
use Rattle.http_header.proofs.HeaderMapLemmas.{get_all-append_same, get_all-append_other}
use Rattle.gs_http.specs.Heads.{NameAndValue}
use Rattle.gs_http.specs.Fields.{values_of, kept_under, KeepsFields}

-- the values of two lists of fields
values_of-append : (name : List ℕ) (fs gs : List NameAndValue) → values_of name (fs ++ gs) ≡ values_of name fs ++ values_of name gs
values_of-append name [] gs = refl
values_of-append name (f ∷ fs) gs =
    elim (cases_Bool (bytes_eq (lowercase f.0) name)) [
      | inl t ↦ rw t ((ap (λ vs. f.1 ∷ vs) (values_of-append name fs gs)))
      | inr n ↦ rw n (values_of-append name fs gs)
    ]

-- two names that a test keeps apart
differ : (a b : List ℕ) → bytes_eq a b ≡ false → a ≡ b → ⊥
differ a b n e = let t = (bytes_eq-Decides a b).1 e in cc

-- one field more
pub keep_more : (m : Entries (Bor (List ℕ))) (fs : List NameAndValue) (key : List ℕ) (value : Bor (List ℕ)) (f : NameAndValue)
    → KeepsFields m fs → key ≡ lowercase f.0 → value.now ≡ f.1 → KeepsFields (append m key value) (fs ++ f ∷ [])
keep_more m fs key value f before k v name =
    let now : Bor (List ℕ) → List ℕ = λ w. w.now in
    let tail = values_of-append name fs (f ∷ []) in
    elim (cases_Bool (bytes_eq (lowercase f.0) name)) [
      | inl t ↦
          let same : key ≡ name = k ∙ (bytes_eq-Decides (lowercase f.0) name).0 t in
          let one : values_of name (f ∷ []) ≡ f.1 ∷ [] = rw t in
          ap (kept_under (append m key value)) (sym same)
          ∙ (ap (map now) (get_all-append_same m key value) ∙ map-append now (get_all m key) (value ∷ [])
          ∙ ap (λ (vs : List (List ℕ)). vs ++ value.now ∷ []) (before key)
          ∙ ap (λ (n : List ℕ). values_of n fs ++ value.now ∷ []) same
          ∙ ap (λ (w : List ℕ). values_of name fs ++ w ∷ []) v
          ∙ sym (tail ∙ ap (λ (vs : List (List ℕ)). values_of name fs ++ vs) one))
      | inr n ↦
          let none : values_of name (f ∷ []) ≡ [] = rw n in
          ap (map now) (get_all-append_other m key name value (λ e. differ (lowercase f.0) name n (sym k ∙ e)))
          ∙ before name ∙ sym (tail ∙ ap (λ vs. values_of name fs ++ vs) none ∙ append-nil (values_of name fs))
    ]

-- the next field of a list
pub keep_next : {A : Type 0} (m n : Entries (Bor (List ℕ))) (parts : A → NameAndValue) (xs : List A) (i : ℕ) (d : A) (key : List ℕ) (value : Bor (List ℕ))
    → n ≡ append m key value → i < length xs → KeepsFields m (map parts (take i xs)) → key ≡ lowercase (parts (get_or xs i d)).0
    → value.now ≡ (parts (get_or xs i d)).1 → KeepsFields n (map parts (take (i + 1) xs))
keep_next m n parts xs i d key value new lt before k v =
    let x = get_or xs i d in
    let fs = map parts (take i xs) in
    let same : map parts (take (i + 1) xs) ≡ fs ++ parts x ∷ [] =
    ap (map parts) (take_more xs i d lt) ∙ map-append parts (take i xs) (x ∷ []) in
    let more : KeepsFields (append m key value) (fs ++ parts x ∷ []) = keep_more m fs key value (parts x) before k v in
    λ name. ap (λ (o : Entries (Bor (List ℕ))). kept_under o name) new ∙ more name ∙ ap (values_of name) (sym same)
