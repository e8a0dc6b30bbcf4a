-- What a change of a pool does to the trees in it.
use Rattle.std.proofs.Common.{◌≡◌, ◌≢◌, ◌⊎◌, ℕ, zero, suc, ◌+◌, ◌-◌, ◌<◌, ◌≤◌, max, Bool, true, false, cond, eqb, List, [], ◌∷◌, ◌++◌, Option, Some, None, is_some, IsSome, refl, sym, ap, subst, ◌∙◌, inl, inr, arith, true≢false}
use Rattle.std.proofs.lemmas.Bool.{eq-eqb, ne_eqb, cases_eq, lt-ltb, le-ltb}
use Rattle.gs_pool.specs.declared.nodes.Key.{Key}
use Rattle.gs_pool.specs.declared.nodes.Node.{Node}
use Rattle.gs_pool.specs.Pool.{Nodes, NodeMark, plain, aside, replaced, retired, node_at, mark_at}
use Rattle.gs_tree.specs.Tree.{Tree, leaf, fork, root_of, height, occurrences, top_node, Stands, height_at, IsRoot, grow, grow_node, tree_at, node_height, BirthAtMost, Descends, older_birth}
use Rattle.gs_tree.specs.Steps.{plain_count, plain_node, plain_mark, one, Step, IsRecent, IsOlder, CopiesIfOlder, Links}

pub one_same : (x : ℕ) → one x x ≡ 1
one_same x = rw (eq-eqb x x refl)

one_other : (i x : ℕ) → i ≢ x → one i x ≡ 0
one_other i x ne = rw (ne_eqb i x ne)

-- `one i x` is 1 or 0
pub one_cases : (i x : ℕ) → ((i ≡ x) × (one i x ≡ 1)) ⊎ ((i ≢ x) × (one i x ≡ 0))
one_cases i x = elim (cases_eq i x) [ inl e ↦ inl (e, subst (λ y. one i y ≡ 1) e (one_same i)) | inr ne ↦ inr (ne, one_other i x ne) ]

-- a plain node in use counts 1, and a free number 0
pub plain_count_some : (p : Nodes) (x : ℕ) (n : Node) → node_at p x ≡ Some n → mark_at p x ≡ plain → plain_count p x ≡ 1
plain_count_some p x n e f = ap (λ o. plain_node o (mark_at p x)) e ∙ ap plain_mark f

pub plain_count_none : (p : Nodes) (x : ℕ) → node_at p x ≡ None → plain_count p x ≡ 0
plain_count_none p x e = ap (λ o. plain_node o (mark_at p x)) e

plain_mark_most : (m : NodeMark) → plain_mark m ≤ 1
plain_mark_most plain = omega arith
plain_mark_most (aside death whole) = omega arith
plain_mark_most (retired death whole) = omega arith

plain_node_most : (o : Option Node) (m : NodeMark) → plain_node o m ≤ 1
plain_node_most None m = omega arith
plain_node_most (Some n) m = plain_mark_most m

pub plain_count_most : (p : Nodes) (x : ℕ) → plain_count p x ≤ 1
plain_count_most p x = plain_node_most (node_at p x) (mark_at p x)

-- what is counted depends on the node and the mark alone
pub plain_count_same : (p q : Nodes) (x : ℕ) → node_at q x ≡ node_at p x → mark_at q x ≡ mark_at p x → plain_count q x ≡ plain_count p x
plain_count_same p q x e f = ap (λ o. plain_node o (mark_at q x)) e ∙ ap (plain_node (node_at p x)) f

-- a node in use counts by its mark
pub plain_count_mark : (p : Nodes) (x : ℕ) → IsSome (node_at p x) → plain_count p x ≡ plain_mark (mark_at p x)
plain_count_mark p x used = by_node (node_at p x) used
  where
    by_node : (o : Option Node) → IsSome o → plain_node o (mark_at p x) ≡ plain_mark (mark_at p x)
    by_node None h = absurd (true≢false (sym h))
    by_node (Some n) h = refl

mark_cases : (m : NodeMark) → (m ≡ plain) ⊎ (plain_mark m ≡ 0)
mark_cases plain = inl refl
mark_cases (aside death whole) = inr refl
mark_cases (retired death whole) = inr refl

-- what is counted is a plain node
pub plain_found : (p : Nodes) (x : ℕ) → 0 < plain_count p x → IsSome (node_at p x) × (mark_at p x ≡ plain)
plain_found p x h = by_node (node_at p x) h
  where
    by_node : (o : Option Node) → 0 < plain_node o (mark_at p x) → IsSome o × (mark_at p x ≡ plain)
    by_node None h = absurd (omega arith)
    by_node (Some n) h = elim (mark_cases (mark_at p x)) [ inl is ↦ (refl, is) | inr not ↦ absurd (omega arith) ]

-- a tree stands where each of its nodes is as it was
pub Stands-same : (p q : Nodes) (t : Tree) → ((x : ℕ) (n : Node) → 0 < occurrences t x → node_at p x ≡ Some n → node_at q x ≡ Some n) → Stands p t → Stands q t
Stands-same p q leaf same s = tt
Stands-same p q (fork id birth l k r) same s = (
  same id _ (omega (arith, one_same id)) s.0,
  Stands-same p q l (λ x n h e. same x n (omega arith) e) s.1,
  Stands-same p q r (λ x n h e. same x n (omega arith) e) s.2,
)

-- a tree that a step does not hold stays, and so does what is older
pub Stands-step : (since birth : ℕ) (p q : Nodes) (before after : ℕ → ℕ) (t : Tree) → Step since birth p q before after → ((x : ℕ) → 0 < occurrences t x → before x ≡ 0) → Stands p t → Stands q t
Stands-step since birth p q before after t step off s = Stands-same p q t (λ x n h e. step.kept x n e (inl (off x h))) s

pub height_at-is : (p : Nodes) (t : Tree) → Stands p t → height_at p (root_of t) ≡ height t
height_at-is p leaf s = refl
height_at-is p (fork id birth l k r) s = ap node_height s.0

pub IsRoot-is : (p : Nodes) (t : Tree) → Stands p t → IsRoot p (root_of t)
IsRoot-is p leaf s = tt
IsRoot-is p (fork id birth l k r) s = ap is_some s.0

grow-is : (n : ℕ) (p : Nodes) (t : Tree) → height t ≤ n → Stands p t → grow n p (root_of t) ≡ t
grow-is zero p leaf h s = refl
grow-is (suc n) p leaf h s = refl
grow-is zero p (fork id birth l k r) h s = absurd (omega arith)
grow-is (suc n) p (fork id birth l k r) h s =
    ap (grow_node (grow n p) id) s.0
    ∙ ap (λ a. fork id birth a k (grow n p (root_of r))) (grow-is n p l (omega arith) s.1)
    ∙ ap (λ a. fork id birth l k a) (grow-is n p r (omega arith) s.2)

-- a root means the tree that stands there
pub tree_at-is : (p : Nodes) (t : Tree) → Stands p t → tree_at p (root_of t) ≡ t
tree_at-is p t s = grow-is (height_at p (root_of t)) p t (omega (arith, height_at-is p t s)) s

-- a node in use that is in none of the trees that change stays in none
off_stays : (since birth : ℕ) (p q : Nodes) (a b : ℕ → ℕ) (x : ℕ) (n : Node) → Step since birth p q a b → node_at p x ≡ Some n → a x ≡ 0 → b x ≡ 0
off_stays since birth p q a b x n s e off =
    let now : node_at q x ≡ Some n = s.kept x n e (inl off) in
    let before : plain_count p x ≡ plain_mark (mark_at p x) = plain_count_mark p x (ap is_some e) in
    let after : plain_count q x ≡ plain_mark (mark_at q x) = plain_count_mark q x (ap is_some now) in
    elim (mark_cases (mark_at p x)) [
      | inl is ↦ omega (arith, s.balance x, before, ap plain_mark is, plain_count_most q x)
      | inr not ↦ elim (s.marks x) [
        | inl same ↦ omega (arith, s.balance x, before, after, ap plain_mark same)
        | inr changed ↦ absurd (omega (arith, ap plain_mark changed.1))
      ]
    ]

-- two steps are one
pub Step-then : (since birth : ℕ) (p q r : Nodes) (a b c : ℕ → ℕ) → Step since birth p q a b → Step since birth q r b c → Step since birth p r a c
Step-then since birth p q r a b c s t = record {
  kept = λ x n e h. t.kept x n (s.kept x n e h) (elim h [
    | inl none ↦ inl (off_stays since birth p q a b x n s e none)
    | inr old ↦ inr old
  ]);
  balance = λ x. omega (arith, s.balance x, t.balance x);
  older = λ x n e h. s.older x n (t.older x n e h) h;
  born = λ x n e. elim (t.born x n e) [ inl was ↦ s.born x n was | inr new ↦ inr new ];
  marks = λ x. elim (t.marks x) [
    | inl same ↦ elim (s.marks x) [ inl same2 ↦ inl (same ∙ same2) | inr old ↦ inr (old.0, old.1, same ∙ old.2) ]
    | inr new ↦ elim (s.marks x) [
      | inl same2 ↦ inr ((new.0.0, s.older x new.0.0 new.0.1 new.0.2, new.0.2), sym same2 ∙ new.1, new.2)
      | inr old ↦ absurd (omega (arith, ap plain_mark (sym old.2 ∙ new.1)))
    ]
  ];
}

-- a step, seen among more trees, which stay
pub Step-beside : (since birth : ℕ) (p q : Nodes) (a b c d : ℕ → ℕ) → Step since birth p q a b → ((x : ℕ) → c x + b x ≡ a x + d x) → ((x : ℕ) → a x ≤ c x) → Step since birth p q c d
Step-beside since birth p q a b c d s e le = record {
  kept = λ x n f h. s.kept x n f (elim h [ inl none ↦ inl (omega (arith, le x)) | inr old ↦ inr old ]);
  balance = λ x. omega (arith, s.balance x, e x, le x);
  older = s.older;
  born = s.born;
  marks = s.marks;
}

-- a node is no older than `since`, or is copied
pub CopiesIfOlder-step : (since birth : ℕ) (p q : Nodes) (id copy : ℕ) → CopiesIfOlder since birth p q id copy → Step since birth p q (one id) (one copy)
CopiesIfOlder-step since birth p q id copy o = elim o.cases [
  | inl same ↦ record {
    kept = λ x n e h. same.nodes x ∙ e;
    balance = λ x. omega (arith, ap (λ i. one i x) same.same, plain_count_same p q x (same.nodes x) (same.marks x));
    older = λ x n e h. sym (same.nodes x) ∙ e;
    born = λ x n e. inl (sym (same.nodes x) ∙ e);
    marks = λ x. inl (same.marks x);
  }
  | inr new ↦
      let old : IsOlder since p id = new.older in
      let apart : copy ≢ id = λ f. let g : node_at p id ≡ None = subst (λ i. node_at p i ≡ None) f new.was_free in let bad : Some old.0 ≡ None = sym old.1 ∙ g in cc in
      let there : node_at q id ≡ Some old.0 = new.others id (λ f. apart (sym f)) ∙ old.1 in
      let was : plain_count p id ≡ 1 = plain_count_some p id old.0 old.1 new.was_plain in
      let gone : plain_count q id ≡ 0 = plain_count_mark q id (ap is_some there) ∙ ap plain_mark new.set_aside in
      let free : plain_count p copy ≡ 0 = plain_count_none p copy new.was_free in
      let made : plain_count q copy ≡ 1 = plain_count_mark q copy o.used ∙ ap plain_mark new.plain_now in
      record {
        kept = λ x n e h. let ne : x ≢ copy = λ f. let g : node_at p x ≡ None = subst (λ i. node_at p i ≡ None) (sym f) new.was_free in let bad : Some n ≡ None = sym e ∙ g in absurd (cc) in new.others x ne ∙ e;
        balance = λ x. elim (one_cases copy x) [
          | inl here ↦ elim (one_cases id x) [
            | inl same ↦ absurd (apart (here.0 ∙ sym same.0))
            | inr ne ↦ omega (arith, here.1, ne.1, subst (λ i. plain_count p i ≡ 0) here.0 free, subst (λ i. plain_count q i ≡ 1) here.0 made)
          ]
          | inr off ↦ elim (one_cases id x) [
            | inl same ↦ omega (arith, off.1, same.1, subst (λ i. plain_count p i ≡ 1) same.0 was, subst (λ i. plain_count q i ≡ 0) same.0 gone)
            | inr ne ↦ omega (arith, off.1, ne.1, plain_count_same p q x (new.others x (λ f. off.0 (sym f))) (new.marks x (λ f. ne.0 (sym f))))
          ]
        ];
        older = λ x n e h. elim (cases_eq x copy) [
          | inl here ↦ absurd (omega (arith, o.recent n (subst (λ i. node_at q i ≡ Some n) here e)))
          | inr ne ↦ sym (new.others x ne) ∙ e
        ];
        born = λ x n e. elim (cases_eq x copy) [
          | inl here ↦ inr (new.born n (subst (λ i. node_at q i ≡ Some n) here e))
          | inr ne ↦ inl (sym (new.others x ne) ∙ e)
        ];
        marks = λ x. elim (cases_eq x id) [
          | inl here ↦ inr (subst (λ i. IsOlder since p i × (mark_at p i ≡ plain) × (mark_at q i ≡ replaced)) (sym here) (old, new.was_plain, new.set_aside))
          | inr ne ↦ inl (new.marks x ne)
        ];
      }
]

-- a node that is made the parent of two trees
pub record Linked (since : ℕ) (p q : Nodes) (id birth : ℕ) (l : Tree) (k : Key) (r : Tree) : Type 0 where
  pub stands : Stands q (fork id birth l k r)
  pub step : Step since birth p q (one id) (one id)
  pub recent : IsRecent since q id

pub linked : (since : ℕ) (p q : Nodes) (id birth : ℕ) (l : Tree) (k : Key) (r : Tree) → Links p q id (root_of l) k (root_of r) birth → IsSome (node_at p id) → IsRecent since p id → since ≤ birth → Stands p l → Stands p r → occurrences l id ≡ 0 → occurrences r id ≡ 0 → Linked since p q id birth l k r
linked since p q id birth l k r link used recent young sl sr offl offr =
    let step : Step since birth p q (one id) (one id) = record {
      kept = λ x n e h. elim (one_cases id x) [
        | inl here ↦ elim h [ inl none ↦ absurd (omega (arith, here.1)) | inr old ↦ absurd (omega (arith, recent n (subst (λ i. node_at p i ≡ Some n) (sym here.0) e))) ]
        | inr ne ↦ link.others x (λ f. ne.0 (sym f)) ∙ e
      ];
      balance = λ x. omega (arith, same_used x);
      older = λ x n e h. elim (cases_eq x id) [
        | inl here ↦ absurd (let f : node_at q id ≡ Some n = subst (λ i. node_at q i ≡ Some n) here e in let g = same_birth _ _ (sym link.node ∙ f) in omega arith)
        | inr ne ↦ sym (link.others x ne) ∙ e
      ];
      born = λ x n e. elim (cases_eq x id) [
        | inl here ↦ inr (let f : node_at q id ≡ Some n = subst (λ i. node_at q i ≡ Some n) here e in sym (same_birth _ _ (sym link.node ∙ f)))
        | inr ne ↦ inl (sym (link.others x ne) ∙ e)
      ];
      marks = λ x. inl (ap (λ ms. Rattle.std.proofs.Common.get_or ms x plain) link.marks);
    } in
    record {
      stands = (
        link.node ∙ ap (λ h. Some (let n : Node = record { key = k; left = root_of l; right = root_of r; height = h; birth = birth } in n)) (ap (λ h. h + 1) (ap (λ a. max a (height_at p (root_of r))) (height_at-is p l sl) ∙ ap (max (height l)) (height_at-is p r sr))),
        Stands-step since birth p q (one id) (one id) l step (λ x h. elim (one_cases id x) [ inl here ↦ absurd (omega (arith, subst (λ i. occurrences l i ≡ 0) here.0 offl)) | inr ne ↦ ne.1 ]) sl,
        Stands-step since birth p q (one id) (one id) r step (λ x h. elim (one_cases id x) [ inl here ↦ absurd (omega (arith, subst (λ i. occurrences r i ≡ 0) here.0 offr)) | inr ne ↦ ne.1 ]) sr,
      );
      step = step;
      recent = λ n e. let f = link.node in let g = same_birth _ _ (sym f ∙ e) in omega arith;
    }
  where
    same_used : (x : ℕ) → plain_count p x ≡ plain_count q x
    same_used x =
        let mark : mark_at q x ≡ mark_at p x = ap (λ ms. Rattle.std.proofs.Common.get_or ms x plain) link.marks in
        elim (one_cases id x) [
          | inl here ↦ omega (arith, plain_count_mark p x (subst (λ i. IsSome (node_at p i)) here.0 used), plain_count_mark q x (subst (λ i. IsSome (node_at q i)) here.0 (ap is_some link.node)), ap plain_mark mark)
          | inr ne ↦ omega (arith, plain_count_same p q x (link.others x (λ f. ne.0 (sym f))) mark)
        ]

    same_birth : (m n : Node) → Some m ≡ Some n → m.birth ≡ n.birth
    same_birth m n e = cc

pub BirthAtMost-later : (a b : ℕ) (t : Tree) → a ≤ b → BirthAtMost a t → BirthAtMost b t
BirthAtMost-later a b leaf h k = tt
BirthAtMost-later a b (fork id birth l j r) h k = omega arith

pub birth_same : (m n : Node) → Some m ≡ Some n → m.birth ≡ n.birth
birth_same m n e = cc

-- each node of a tree whose births descend is no younger than its root's bound
pub born_at : (p : Nodes) (v : ℕ) (t : Tree) (x : ℕ) (n : Node) → Stands p t → Descends t → BirthAtMost v t → 0 < occurrences t x → node_at p x ≡ Some n → n.birth ≤ v
born_at p v leaf x n s d b h e = absurd (omega arith)
born_at p v (fork id birth l k r) x n s d b h e =
    let low : birth ≤ v = b in
    elim (one_cases id x) [
      | inl here ↦ let found : node_at p x ≡ Some (top_node birth l k r) = subst (λ y. node_at p y ≡ Some (top_node birth l k r)) here.0 s.0 in omega (arith, birth_same _ _ (sym found ∙ e))
      | inr ne ↦ elim (zero_or (occurrences l x)) [
        | inl none ↦ omega (arith, born_at p birth r x n s.2 d.3 d.1 (omega (arith, ne.1)) e)
        | inr some ↦ omega (arith, born_at p birth l x n s.1 d.2 d.0 some e)
      ]
    ]
  where
    zero_or : (n : ℕ) → (n ≡ 0) ⊎ (0 < n)
    zero_or zero = inl refl
    zero_or (suc n) = inr (omega arith)

-- what is born at `since` or later is not older
pub young_birth : (since birth : ℕ) → since ≤ birth → older_birth since birth ≡ 0
young_birth since birth young = rw (le-ltb birth since young)

-- what is born before is
pub old_birth : (since birth : ℕ) → birth < since → older_birth since birth ≡ 1
old_birth since birth old = rw (lt-ltb birth since old)

-- a root with no number is of the empty tree
pub no_root_leaf : (t : Tree) → root_of t ≡ None → t ≡ leaf
no_root_leaf leaf e = refl
no_root_leaf (fork id birth l k r) e = absurd (cc)
