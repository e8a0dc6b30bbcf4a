-- Lists of keys that rise.
use Rattle.std.specs.Prelude.{◌≡◌, ◌≢◌, ◌⊎◌, ℕ, ◌≤◌, List, [], ◌∷◌, length, take, drop, fold}
use Rattle.std.specs.declared.cmp.Ordering.{Ordering}
use Rattle.std.specs.declared.cmp.Ordering.TheVariants.{Less, Equal, Greater}
use Rattle.gs_pool.specs.declared.nodes.Key.{Key}

-- each of the keys has this property
abbrev pub AllKeys : (Key → Type 0) → List Key → Type 0
AllKeys P [] = Unit {0}
AllKeys P (x ∷ xs) = P x × AllKeys P xs

-- a key put before, in place of, or after the first of a list
abbrev pub insert_by : Ordering → Key → Key → List Key → List Key → List Key
insert_by Less x y ys rest = x ∷ y ∷ ys
insert_by Equal x y ys rest = y ∷ ys
insert_by Greater x y ys rest = y ∷ rest

-- a list without its first key, where that is the one asked for
abbrev pub remove_by : Ordering → Key → List Key → List Key → List Key
remove_by Less y ys rest = y ∷ ys
remove_by Equal y ys rest = ys
remove_by Greater y ys rest = y ∷ rest

module _ (cmp : Key → Key → Ordering) where
  -- each key is below all later ones
  abbrev pub IsRising : List Key → Type 0
  IsRising [] = Unit {0}
  IsRising (x ∷ xs) = AllKeys (λ y. cmp x y ≡ Less) xs × IsRising xs

  -- no key is equal to this one
  abbrev pub IsAbsent : Key → List Key → Type 0
  IsAbsent x ys = AllKeys (λ y. cmp x y ≢ Equal) ys

  -- the keys with x in its place
  abbrev pub insert_key : Key → List Key → List Key
  insert_key x [] = x ∷ []
  insert_key x (y ∷ ys) = insert_by (cmp x y) x y ys (insert_key x ys)

  -- some key is equal to this one
  abbrev pub HasKey : Key → List Key → Type 0
  HasKey x [] = ⊥
  HasKey x (y ∷ ys) = (cmp x y ≡ Equal) ⊎ HasKey x ys

  -- the keys without x
  abbrev pub remove_key : Key → List Key → List Key
  remove_key x [] = []
  remove_key x (y ∷ ys) = remove_by (cmp x y) y ys (remove_key x ys)

  -- the keys with each of the run in its place
  abbrev pub merge_keys : List Key → List Key → List Key
  merge_keys run ys = fold (λ ks x. insert_key x ks) ys run

  -- where a key stands in a run: the keys before `before` are below it, those from `after` on are above it, and one between is equal to it
  pub record Places (key : Key) (run : List Key) (before after : ℕ) : Type 0 where
    pub low : before ≤ after
    pub within : after ≤ length run
    pub below : AllKeys (λ x. cmp x key ≡ Less) (take before run)
    pub above : AllKeys (λ x. cmp key x ≡ Less) (drop after run)
    pub here : (before ≡ after) ⊎ ((x : Key) × (drop before run ≡ x ∷ drop after run) × (cmp x key ≡ Equal))
