-- How a dictionary is kept: its terms are those of the texts in its blocks.
use Rattle.std.specs.Prelude.{◌≡◌, ◌≢◌, ◌⊎◌, ℕ, ◌+◌, ◌<◌, ◌≤◌, ◌&&◌, List, [], ◌∷◌, length, map, max, bit_and, not, nat_eq, nat_lt, Bool, true, false, Option, Some, None, Result, Ok, Err}
use Rattle.std.specs.List.{range_with_len}
use Rattle.std.specs.Hash.FoldHasher as folding
use Rattle.std.specs.declared.alloc.AllocError.{AllocError}
use Rattle.std.specs.declared.hash.FoldHasher.{FoldHasher}
use Rattle.gs_model.specs.Limits.{last_term}
use Rattle.gs_model.specs.Terms.{Term}
use Rattle.gs_model.specs.Texts.{term_of, IsCanonical}
use Rattle.gs_texts.specs.Places.{IsPlaceOf, length_of}
use Rattle.gs_dict.specs.declared.chains.Entry.{Entry}
use Rattle.gs_dict.specs.Numbering.{Terms}
use Rattle.gs_dict.specs.Sweeping.{is_marked}
use Rattle.gs_dict.specs.Chains.{IsTable, EntryHas, KeepsTexts, KeepsOtherTexts, dict_entry_at, text_at, link_after}

-- the hash of a text, from a hasher that has been given the seed
unfoldable pub hash_of : FoldHasher → List ℕ → ℕ
hash_of seeded x = bit_and (folding.finish (folding.write seeded x)) 0xFFFF_FFFF

-- what a text gives its number: no term where it is empty
unfoldable pub given_by_text : List ℕ → Option Term
given_by_text [] = None
given_by_text (c ∷ x) = Some (term_of (c ∷ x))

-- what an entry gives its number
abbrev pub given_by_entry : List (List ℕ) → List Entry → ℕ → Option Term
given_by_entry blocks es i = given_by_text (text_at blocks es i)

-- the terms by number
unfoldable pub terms_of : List (List ℕ) → List Entry → Terms
terms_of blocks es = map (given_by_entry blocks es) (range_with_len 0 (length es))

-- each number is in the chain of its hash; it has no text, or one of a term, which has this hash and is no other number's
pub record IsDict (blocks : List (List ℕ)) (es : List Entry) (heads : List ℕ) (seeded : FoldHasher) (last : ℕ) : Type 0 where
  pub table : IsTable blocks es heads
  pub canonical : (i : ℕ) → i < length es → text_at blocks es i ≢ [] → IsCanonical (text_at blocks es i)
  pub hashed : (i : ℕ) → i < length es → text_at blocks es i ≢ [] → (dict_entry_at es i).hash ≡ hash_of seeded (text_at blocks es i)
  pub apart : (i j : ℕ) → i < length es → j < length es → text_at blocks es i ≢ [] → text_at blocks es i ≡ text_at blocks es j → i ≡ j
  pub few : length es ≤ last + 1
  pub bounded : last ≤ last_term

-- whether the number is given and has a text
abbrev pub has_bytes : List Entry → ℕ → Bool
has_bytes es n = nat_lt n (length es) && not (nat_eq (length_of (dict_entry_at es n).place) 0)

-- the number is given and has no text
abbrev pub IsEmptyNumber : List Entry → ℕ → Type 0
IsEmptyNumber es n = (n < length es) × (length_of (dict_entry_at es n).place ≡ 0)

-- a number that had no text, or else the next one, has this hash and this text; each other number keeps its own two
pub record GivesText (blocks : List (List ℕ)) (es : List Entry) (hash : ℕ) (x : List ℕ) (n : ℕ) (later : List (List ℕ)) (fs : List Entry) : Type 0 where
  pub within : n ≤ length es
  pub free : n < length es → text_at blocks es n ≡ []
  pub count : length fs ≡ max (length es) (n + 1)
  pub others : KeepsOtherTexts n blocks es later fs
  pub has : EntryHas later fs n hash x

-- a text is given a number; or memory was wanted, and each number keeps what it has
abbrev pub PutsText : List (List ℕ) → List Entry → ℕ → List ℕ → Result ℕ AllocError → List (List ℕ) → List Entry → Type 0
PutsText blocks es hash x (Ok n) later fs = GivesText blocks es hash x n later fs
PutsText blocks es hash x (Err e) later fs = KeepsTexts blocks es later fs × (length fs ≡ length es)

-- the entries without a mark from a number on and before another have an empty place, and the others the place that
-- they had; hashes and links stay
pub record ClearsPlaces (marks : List Bool) (from end : ℕ) (es fs : List Entry) : Type 0 where
  pub count : length fs ≡ length es
  pub cleared : (i : ℕ) → i < length es → from ≤ i → i < end → is_marked marks i ≡ false → IsPlaceOf (dict_entry_at fs i).place 0 0 0
  pub others :
      (i : ℕ) → i < length es → (i < from) ⊎ ((end ≤ i) ⊎ (is_marked marks i ≡ true)) → (dict_entry_at fs i).place ≡ (dict_entry_at es i).place
  pub hash_same : (i : ℕ) → (dict_entry_at fs i).hash ≡ (dict_entry_at es i).hash
  pub link_same : (i : ℕ) → link_after fs i ≡ link_after es i
