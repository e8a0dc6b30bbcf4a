-- The entries of a dictionary: where each text stands, and the chains of the buckets.
use Rattle.std.specs.Prelude.{◌≡◌, ◌≢◌, ℕ, ◌+◌, ◌-◌, ◌<◌, ◌≤◌, ◌^◌, List, length, slice_index, slice_index_or, bit_and, Option, Some, None, Result, Ok, Err}
use Rattle.std.specs.declared.alloc.AllocError.{AllocError}
use Rattle.gs_dict.specs.declared.chains.Entry.{Entry}
use Rattle.gs_texts.specs.declared.places.Place.{Place}
use Rattle.gs_texts.specs.Places.{LiesInBlock, text_in}

-- a place for a number that has none
abbrev pub no_place : Place
no_place = record { bits = 0 }

-- an entry for such a number
abbrev pub no_entry : Entry
no_entry = record { place = no_place; next = 0; hash = 0 }

-- the entry of a number
abbrev pub dict_entry_at : List Entry → ℕ → Entry
dict_entry_at es i = slice_index_or es i no_entry

-- the text of a number
unfoldable pub text_at : List (List ℕ) → List Entry → ℕ → List ℕ
text_at blocks es i = text_in blocks (dict_entry_at es i).place

-- the bucket of a hash, among so many
unfoldable pub bucket_of : ℕ → ℕ → ℕ
bucket_of buckets hash = bit_and hash (buckets - 1)

-- The first n numbers are in chains, by the bucket of each, the link after it, and the link of each bucket. A link is a
-- number plus one, and 0 at a chain's end; along a chain the numbers fall.
pub record IsChained (n : ℕ) (bucket next head : ℕ → ℕ) : Type 0 where
  -- a bucket's link is to one of its numbers, and the greatest
  pub head_given : (b : ℕ) → head b ≤ n
  pub head_there : (b : ℕ) → 0 < head b → bucket (head b - 1) ≡ b
  pub head_greatest : (j : ℕ) → j < n → j < head (bucket j)
  -- a number's next is the greatest of its bucket below it
  pub next_below : (i : ℕ) → i < n → next i ≤ i
  pub next_there : (i : ℕ) → i < n → 0 < next i → bucket (next i - 1) ≡ bucket i
  pub next_greatest : (i j : ℕ) → i < n → j < i → bucket j ≡ bucket i → j < next i

-- the bucket of an entry, among so many
abbrev pub bucket_at : ℕ → List Entry → ℕ → ℕ
bucket_at buckets es i = bucket_of buckets (dict_entry_at es i).hash

-- the link from an entry to the next one of its chain
abbrev pub link_after : List Entry → ℕ → ℕ
link_after es i = (dict_entry_at es i).next

-- the first n entries are in chains
abbrev pub IsLinked : ℕ → List Entry → List ℕ → Type 0
IsLinked n es heads = IsChained n (bucket_at (length heads) es) (link_after es) (slice_index heads)

-- each entry's place lies in its block
pub record AreInBlocks (blocks : List (List ℕ)) (es : List Entry) : Type 0 where
  pub lies : (i : ℕ) → i < length es → LiesInBlock blocks (dict_entry_at es i).place

-- so many buckets are enough for so many entries: a power of two, so that a bit mask reaches each bucket, and no fewer
-- than the entries, so that chains are short
pub record AreEnough (buckets entries : ℕ) : Type 0 where
  pub some : 0 < buckets
  pub power : (k : ℕ) × (buckets ≡ 2 ^ k)
  pub short : entries ≤ buckets

-- the blocks, the entries and the first links of the buckets belong together
pub record IsTable (blocks : List (List ℕ)) (es : List Entry) (heads : List ℕ) : Type 0 where
  pub linked : IsLinked (length es) es heads
  pub placed : AreInBlocks blocks es
  pub enough : AreEnough (length heads) (length es)

-- the number has this hash and this text
abbrev pub EntryHas : List (List ℕ) → List Entry → ℕ → ℕ → List ℕ → Type 0
EntryHas blocks es i hash x = ((dict_entry_at es i).hash ≡ hash) × (text_at blocks es i ≡ x)

-- no number has this hash and this text, or this one has
abbrev pub Meets : List (List ℕ) → List Entry → ℕ → List ℕ → Option ℕ → Type 0
Meets blocks es hash x None = (j : ℕ) → j < length es → EntryHas blocks es j hash x → ⊥
Meets blocks es hash x (Some i) = (i < length es) × EntryHas blocks es i hash x

-- the chain from a link on has all numbers of this hash and this text
pub record IsAlong (blocks : List (List ℕ)) (es : List Entry) (buckets hash : ℕ) (x : List ℕ) (link : ℕ) : Type 0 where
  pub given : link ≤ length es
  pub there : 0 < link → bucket_at buckets es (link - 1) ≡ bucket_of buckets hash
  pub passed : (j : ℕ) → j < length es → link ≤ j → EntryHas blocks es j hash x → ⊥

-- as many entries, with the places and the hashes that they had
pub record Agree (es fs : List Entry) : Type 0 where
  pub count : length fs ≡ length es
  pub place_same : (i : ℕ) → (dict_entry_at fs i).place ≡ (dict_entry_at es i).place
  pub hash_same : (i : ℕ) → (dict_entry_at fs i).hash ≡ (dict_entry_at es i).hash

-- each number keeps its text and its hash
pub record KeepsTexts (blocks : List (List ℕ)) (es : List Entry) (later : List (List ℕ)) (fs : List Entry) : Type 0 where
  pub text_same : (i : ℕ) → i < length es → text_at later fs i ≡ text_at blocks es i
  pub hash_same : (i : ℕ) → i < length es → (dict_entry_at fs i).hash ≡ (dict_entry_at es i).hash

-- one more entry has the next number, this hash and this text; or memory was wanted, and there are as many as before
abbrev pub AddsText : ℕ → List (List ℕ) → List Entry → ℕ → List ℕ → Result ℕ AllocError → Type 0
AddsText n later fs hash x (Ok i) = (i ≡ n) × (length fs ≡ n + 1) × EntryHas later fs n hash x
AddsText n later fs hash x (Err e) = length fs ≡ n

-- The numbers other than v are in chains, and maybe v is. The clauses are those of `IsChained`, but nothing is said of v's
-- own link, and v need not be found.
pub record IsChainedPast (n v : ℕ) (bucket next head : ℕ → ℕ) : Type 0 where
  pub head_given : (b : ℕ) → head b ≤ n
  pub head_there : (b : ℕ) → 0 < head b → bucket (head b - 1) ≡ b
  pub head_greatest : (j : ℕ) → j < n → j ≢ v → j < head (bucket j)
  pub next_below : (i : ℕ) → i < n → i ≢ v → next i ≤ i
  pub next_there : (i : ℕ) → i < n → i ≢ v → 0 < next i → bucket (next i - 1) ≡ bucket i
  pub next_greatest : (i j : ℕ) → i < n → i ≢ v → j < i → j ≢ v → bucket j ≡ bucket i → j < next i

-- the numbers other than v are in chains, and v is in none
pub record IsChainedBut (n v : ℕ) (bucket next head : ℕ → ℕ) : Type 0 where
  pub others : IsChainedPast n v bucket next head
  pub head_other : (b : ℕ) → head b ≢ v + 1
  pub next_other : (i : ℕ) → i < n → i ≢ v → next i ≢ v + 1

-- the first n entries are in such chains
abbrev pub IsLinkedPast : ℕ → ℕ → List Entry → List ℕ → Type 0
IsLinkedPast n v es heads = IsChainedPast n v (bucket_at (length heads) es) (link_after es) (slice_index heads)

abbrev pub IsLinkedBut : ℕ → ℕ → List Entry → List ℕ → Type 0
IsLinkedBut n v es heads = IsChainedBut n v (bucket_at (length heads) es) (link_after es) (slice_index heads)

-- the number, if there is one, is of the bucket and greater than v
abbrev pub IsAbove : ℕ → ℕ → (ℕ → ℕ) → ℕ → Option ℕ → Type 0
IsAbove n v bucket b None = Unit {0}
IsAbove n v bucket b (Some a) = (a < n) × (v < a) × (bucket a ≡ b)

-- the link after the number, or the bucket's, where there is none
abbrev pub link_from : (ℕ → ℕ) → (ℕ → ℕ) → ℕ → Option ℕ → ℕ
link_from next head b None = head b
link_from next head b (Some a) = next a

-- it is the least such number: the link after it leads to v or below
pub record IsLeastAbove (n v : ℕ) (bucket next head : ℕ → ℕ) (b : ℕ) (above : Option ℕ) : Type 0 where
  pub is_above : IsAbove n v bucket b above
  pub falls : link_from next head b above ≤ v + 1

-- The link after the number is written, or the bucket's, where there is none. The links were `next` and `head`; they
-- are `next'` and `head'`.
abbrev pub IsLinkSet : ℕ → Option ℕ → ℕ → (ℕ → ℕ) → (ℕ → ℕ) → (ℕ → ℕ) → (ℕ → ℕ) → Type 0
IsLinkSet b None link next head next' head' = (head' b ≡ link) × ((k : ℕ) → k ≢ b → head' k ≡ head k) × ((k : ℕ) → next' k ≡ next k)
IsLinkSet b (Some a) link next head next' head' = (next' a ≡ link) × ((k : ℕ) → k ≢ a → next' k ≡ next k) × ((k : ℕ) → head' k ≡ head k)

-- each number but this one keeps its text and its hash
pub record KeepsOtherTexts (n : ℕ) (blocks : List (List ℕ)) (es : List Entry) (later : List (List ℕ)) (fs : List Entry) : Type 0 where
  pub text_same : (i : ℕ) → i < length es → i ≢ n → text_at later fs i ≡ text_at blocks es i
  pub hash_same : (i : ℕ) → i < length es → i ≢ n → (dict_entry_at fs i).hash ≡ (dict_entry_at es i).hash
