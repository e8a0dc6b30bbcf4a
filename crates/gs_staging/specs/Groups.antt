-- Keys that are sorted by groups: parts of a list that are in order, and a part that may stand earlier.
use Rattle.std.specs.Prelude.{◌≡◌, ℕ, ◌-◌, ◌<◌, Bool, false, List, slice_index_or}
use Rattle.std.specs.Ordering.{is_lt}
use Rattle.std.specs.List.Sorted.{IsSortedWithin}
use Rattle.gs_pool.specs.declared.nodes.Key.{Key}
use Rattle.gs_keys.specs.Texts.{Terms, key_cmp}

-- whether a key comes before another
abbrev pub is_before : Terms → Key → Key → Bool
is_before terms a b = is_lt (key_cmp terms a b)

-- the keys before `end` are in order
abbrev pub IsInOrder : Terms → List Key → ℕ → Type 0
IsInOrder terms ks end = IsSortedWithin (is_before terms) ks 0 end

-- the keys from `from` up to `end` are now in order, and those before them stayed
pub record SortsWithin (terms : Terms) (old new : List Key) (from end : ℕ) : Type 0 where
  pub sorted : IsSortedWithin (is_before terms) new from end
  pub below : (k : ℕ) (d : Key) → k < from → slice_index_or new k d ≡ slice_index_or old k d

-- the key at `from` does not come before the last of those before `place`
abbrev pub MayFollowKey : Terms → List Key → ℕ → ℕ → Type 0
MayFollowKey terms ks place from = (d : Key) → 0 < place → is_before terms (slice_index_or ks from d) (slice_index_or ks (place - 1) d) ≡ false

-- the key at `place` does not come before the last of those before `end`
abbrev pub MayPrecede : Terms → List Key → ℕ → ℕ → Type 0
MayPrecede terms ks place end = (d : Key) → is_before terms (slice_index_or ks place d) (slice_index_or ks (end - 1) d) ≡ false
