-- One level of a tree that is built of a run.
use Rattle.std.proofs.Common.{◌≡◌, ℕ, zero, suc, ◌+◌, ◌*◌, ◌<◌, ◌≤◌, ◌^◌, List, [], ◌∷◌, ◌++◌, length, Option, Some, None, is_some, IsSome, refl, sym, ap, subst, ◌∙◌, inl, inr, arith, length-append, take, drop, get_or, take-append-drop}
use Rattle.std.proofs.lemmas.List.{drop_more}
use Rattle.gs_tree.proofs.Merging.{no_key}
use Rattle.std.proofs.Math.Nat.{pow-succ'}
use Rattle.std.proofs.Math.Pow.{pow_mono}
use Rattle.std.proofs.lemmas.Bool.{cases_lt, cases_eq}
use Rattle.gs_pool.specs.declared.nodes.Key.{Key}
use Rattle.gs_pool.specs.declared.nodes.Node.{Node}
use Rattle.gs_pool.specs.Pool.{Nodes, plain, node_at, in_use, aside_count, room, Fills, KeepsMarks}
use Rattle.gs_tree.specs.Tree.{Tree, leaf, fork, root_of, height, keys, occurrences, Stands, IsBalanced, BirthAtMost, Descends, height_at, tree_at, DifferByAtMost}
use Rattle.gs_tree.specs.Steps.{plain_count, one, SameTotal, Step, IsRecent, IsWritable, Links}
use Rattle.gs_tree.specs.Merging.{Built}
use Rattle.gs_tree.proofs.TreeLemmas.{one_cases, plain_count_none, plain_count_some, plain_count_same, plain_count_most, Stands-step, Step-then, Step-beside, Linked, birth_same, young_birth}
use Rattle.gs_tree.proofs.Rotations.{root_in, height_in, tree_in, linked_in, writable_kept}

-- a number in use anew
pub record Made (birth : ℕ) (p q : Nodes) (id : ℕ) : Type 0 where
  pub step : (since : ℕ) → since ≤ birth → Step since birth p q (λ x. 0) (one id)
  pub used : IsSome (node_at q id)
  pub recent : (since : ℕ) → since ≤ birth → IsRecent since q id
  pub total : SameTotal p q
  pub few : in_use q ≡ in_use p + 1
  pub marks : KeepsMarks p q
  pub replaced : aside_count q ≡ aside_count p

pub made : (birth : ℕ) (p q : Nodes) (id : ℕ) (n : Node) → n.birth ≡ birth → Fills p q id n → room q + 1 ≡ room p → Made birth p q id
made birth p q id n young f rooms = record {
  step = λ since le. record {
    kept = λ x m e h. f.updates.others x (λ g. let z : node_at p x ≡ None = subst (λ y. node_at p y ≡ None) (sym g) f.was_free in let bad : Some m ≡ None = sym e ∙ z in cc) ∙ e;
    balance = λ x. omega (arith, counts x);
    older = λ x m e h. elim (cases_eq x id) [
      | inl here ↦ absurd (let k : node_at q id ≡ Some m = subst (λ i. node_at q i ≡ Some m) here e in let g = birth_same _ _ (sym f.updates.changed ∙ k) in omega arith)
      | inr ne ↦ sym (f.updates.others x ne) ∙ e
    ];
    born = λ x m e. elim (cases_eq x id) [
      | inl here ↦ inr (let k : node_at q id ≡ Some m = subst (λ i. node_at q i ≡ Some m) here e in sym (birth_same _ _ (sym f.updates.changed ∙ k)) ∙ young)
      | inr ne ↦ inl (sym (f.updates.others x ne) ∙ e)
    ];
    marks = λ x. inl (f.marks x);
  };
  used = ap is_some f.updates.changed;
  recent = λ since le m e. let g = birth_same _ _ (sym f.updates.changed ∙ e) in omega arith;
  total = omega (arith, f.in_use);
  few = f.in_use;
  marks = f.marks;
  replaced = f.aside;
}
  where
    counts : (x : ℕ) → one id x + plain_count p x ≡ plain_count q x
    counts x = elim (one_cases id x) [
      | inl here ↦ omega (arith, here.1, subst (λ i. plain_count q i ≡ 1) here.0 (plain_count_some q id n f.updates.changed f.plain_now), subst (λ i. plain_count p i ≡ 0) here.0 (plain_count_none p id f.was_free))
      | inr ne ↦ omega (arith, ne.1, plain_count_same p q x (f.updates.others x (λ e. ne.0 (sym e))) (f.marks x))
    ]

twice : (n : ℕ) → 2 ^ suc n ≡ 2 * 2 ^ n
twice n = pow-succ' 2 n

-- the heights of two trees of digits whose sizes differ by one at most
halves : (a b ha hb : ℕ) → b ≤ a → a ≤ b + 1 → a < 2 ^ ha → 2 ^ ha ≤ 2 * a + 1 → b < 2 ^ hb → 2 ^ hb ≤ 2 * b + 1 → (hb ≤ ha) × (ha ≤ hb + 1)
halves a b ha hb le ge al ah bl bh = (
  elim (cases_lt ha hb) [
    | inr done ↦ done
    | inl over ↦ let m : 2 ^ suc ha ≤ 2 ^ hb = pow_mono (omega arith) in absurd (omega (arith, twice ha))
  ],
  elim (cases_lt (hb + 1) ha) [
    | inr done ↦ done
    | inl over ↦ let m : 2 ^ suc (suc hb) ≤ 2 ^ ha = pow_mono (omega arith) in absurd (omega (arith, twice hb, twice (suc hb)))
  ],
)

digits : (a b ha : ℕ) → b ≤ a → a ≤ b + 1 → a < 2 ^ ha → 2 ^ ha ≤ 2 * a + 1 → (a + b + 1 < 2 ^ suc ha) × (2 ^ suc ha ≤ 2 * (a + b + 1) + 1)
digits a b zero le ge al ah = (omega (arith, twice zero), omega (arith, twice zero))
digits a b (suc k) le ge al ah = (omega (arith, twice (suc k)), omega (arith, twice (suc k), twice k))

pub low_digits : (h n : ℕ) → n < 2 ^ 64 → 2 ^ h ≤ 2 * n + 1 → h ≤ 64
low_digits h n small e = elim (cases_lt 64 h) [
  | inr done ↦ done
  | inl over ↦ let m : 2 ^ 65 ≤ 2 ^ h = pow_mono {i = 65} {j = h} (omega arith) in absurd (omega arith)
]

-- a run is cut in halves
pub half_parts : (run low rest high : List Key) (n : ℕ) → low ≡ take n run → rest ≡ drop n run → high ≡ drop 1 rest → 0 < length rest → run ≡ low ++ get_or rest 0 no_key ∷ high
half_parts run low rest high n el er eh some =
    sym (take-append-drop n run) ∙ ap (λ xs. xs ++ drop n run) (sym el) ∙ ap (λ xs. low ++ xs) (sym er ∙ drop_more rest 0 no_key some ∙ ap (λ xs. get_or rest 0 no_key ∷ xs) (sym eh))

module _ (birth : ℕ) (p p1 p2 p3 : Nodes) (left right : Option ℕ) (top : ℕ) (key : Key) (run low high : List Key) (l r : Tree) (run_is : run ≡ low ++ key ∷ high) (le : length high ≤ length low) (ge : length low ≤ length high + 1) (a : Built birth p p1 left low l) (m : Made birth p1 p2 top) (b : Built birth p2 p3 right high r) where
  steps : (since : ℕ) → since ≤ birth → Step since birth p p3 (λ x. 0) (λ x. one top x + occurrences l x + occurrences r x)
  steps since young =
      Step-then since birth p p1 p3 _ _ _ (a.step since young)
      (Step-then since birth p1 p2 p3 _ _ _ (Step-beside since birth p1 p2 (λ x. 0) (one top) (occurrences l) (λ x. one top x + occurrences l x) (m.step since young) (λ x. omega arith) (λ x. omega arith))
      (Step-beside since birth p2 p3 (λ x. 0) (occurrences r) (λ x. one top x + occurrences l x) (λ x. one top x + occurrences l x + occurrences r x) (b.step since young) (λ x. omega arith) (λ x. omega arith)))

  apart : (x : ℕ) → one top x + occurrences l x + occurrences r x ≤ 1
  apart x = omega (arith, (steps birth (omega arith)).balance x, plain_count_most p3 x)

  left_there : Stands p3 l
  left_there = Stands-step birth birth p2 p3 (λ x. 0) (occurrences r) l (b.step birth (omega arith)) (λ x h. refl) (Stands-step birth birth p1 p2 (λ x. 0) (one top) l (m.step birth (omega arith)) (λ x h. refl) a.stands)

  top_writable : IsWritable birth p3 top
  top_writable = writable_kept birth birth p2 p3 (λ x. 0) (occurrences r) top (b.step birth (omega arith)) refl (record { used = m.used; recent = m.recent birth (omega arith) })

  lengths : length run ≡ length low + length high + 1
  lengths = omega (arith, ap length run_is, length-append low (key ∷ high))

  near : (height r ≤ height l) × (height l ≤ height r + 1)
  near = halves (length low) (length high) (height l) (height r) le ge a.low a.high b.low b.high

  pub built_used : IsSome (node_at p3 top)
  built_used = top_writable.used

  pub built_left : length run < 2 ^ 64 → (Rattle.gs_tree.specs.Tree.IsRoot p3 left) × (height_at p3 left < 2 ^ 15)
  built_left small = (root_in p3 left l a.root left_there, omega (arith, height_in p3 left l a.root left_there, low_digits (height l) (length low) (omega (arith, lengths)) a.high))

  pub built_right : length run < 2 ^ 64 → (Rattle.gs_tree.specs.Tree.IsRoot p3 right) × (height_at p3 right < 2 ^ 15)
  built_right small = (root_in p3 right r b.root b.stands, omega (arith, height_in p3 right r b.root b.stands, low_digits (height r) (length high) (omega (arith, lengths)) b.high))

  pub built : (p4 : Nodes) → Links p3 p4 top left key right birth → Built birth p p4 (Some top) run (tree_at p4 (Some top))
  built p4 link =
      let t = fork top birth l key r in
      let k : Linked birth p3 p4 top birth l key r = linked_in birth p3 p4 top birth l key r left right link a.root b.root top_writable (omega arith) left_there b.stands apart in
      let d = digits (length low) (length high) (height l) le ge a.low a.high in
      let h : height t ≡ suc (height l) = omega (arith, near.0) in
      subst (Built birth p p4 (Some top) run) (sym (tree_in p4 (Some top) t refl k.stands)) (record {
        root = refl;
        stands = k.stands;
        balanced = ((near.1, omega (arith, near.0)), a.balanced, b.balanced);
        keys_are = ap (λ ks. ks ++ key ∷ keys r) a.keys_are ∙ ap (λ ks. low ++ key ∷ ks) b.keys_are ∙ sym run_is;
        descends = (a.born, b.born, a.descends, b.descends);
        born = omega arith;
        step = λ since young.
            let n : Linked since p3 p4 top birth l key r = linked_in since p3 p4 top birth l key r left right link a.root b.root (record { used = top_writable.used; recent = λ x e. omega (arith, top_writable.recent x e) }) young left_there b.stands apart in
            Step-then since birth p p3 p4 _ _ _ (steps since young) (Step-beside since birth p3 p4 (one top) (one top) (λ x. one top x + occurrences l x + occurrences r x) (occurrences t) n.step (λ x. omega arith) (λ x. omega arith));
        total = omega (arith, a.total, m.total, b.total, link.total, link.same);
        exact = omega (arith, a.exact, m.few, b.exact, link.same, lengths);
        none_older = λ since young. omega (arith, young_birth since birth young, a.none_older since young, b.none_older since young);
        marks = λ x. ap (λ ms. get_or ms x plain) link.marks ∙ b.marks x ∙ m.marks x ∙ a.marks x;
        replaced = ap (Rattle.std.specs.Prelude.count_by Rattle.gs_pool.specs.Pool.is_aside) link.marks ∙ b.replaced ∙ m.replaced ∙ a.replaced;
        low = omega (arith, d.0, ap (λ n. 2 ^ n) h, lengths);
        high = omega (arith, d.1, ap (λ n. 2 ^ n) h, lengths);
      })

pub built_none : (birth : ℕ) (p : Nodes) (run : List Key) → length run ≡ 0 → Built birth p p None run (tree_at p None)
built_none birth p [] e = record {
  root = refl;
  stands = tt;
  balanced = tt;
  keys_are = refl;
  descends = tt;
  born = tt;
  step = λ since young. record {
    kept = λ x n e h. e;
    balance = λ x. refl;
    older = λ x n e h. e;
    born = λ x n e. inl e;
    marks = λ x. inl refl;
  };
  total = omega arith;
  exact = omega arith;
  none_older = λ since young. refl;
  marks = λ x. refl;
  replaced = refl;
  low = omega arith;
  high = omega arith;
}
built_none birth p (x ∷ run) e = absurd (omega arith)
