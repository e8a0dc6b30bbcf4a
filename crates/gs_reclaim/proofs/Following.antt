-- How the lists of held nodes come to follow the pins, and what is looked at again.
use Rattle.std.proofs.Common.{◌≡◌, ◌≢◌, ℕ, zero, suc, ◌+◌, ◌-◌, ◌<◌, ◌≤◌, Bool, true, false, cond, eqb, List, take, length, get_or, set, Option, Some, None, refl, sym, ap, subst, ◌∙◌, inl, inr, arith, length-set, true≢false}
use Rattle.std.specs.Option.{option_eq}
use Rattle.std.proofs.lemmas.Bool.{cases_eq, eq-eqb, ne_eqb}
use Rattle.std.proofs.lemmas.List.{get_or-set_same, get_or-set_other, get_or-take, length-take}
use Rattle.std.proofs.lemmas.List.Edits.{swap_is}
use Rattle.std.proofs.lemmas.List.Folds.{list_any_at}
use Rattle.gs_pool.specs.Pool.{Nodes, is_aside, aside_count, plain}
use Rattle.gs_pool.specs.Held.{let_go, KeepsLists, GivesAll, Exchanges}
use Rattle.gs_pool.proofs.FollowLemmas.{pin_within, same_pin}
use Rattle.gs_versions.specs.Pins.{Pins, is_pinned, FindsSeat}
use Rattle.gs_ledger.specs.Marks.{death_of}
use Rattle.gs_reclaim.specs.Holders.{AgreesAt, Agrees, let_go_of, let_go_at, IsHolder, FindsHolder, sum_below, let_go_by, KeepsDead, FollowsPin}

-- sums of what is the same, of what is no more, and of what is nothing
sum_same : (n : ℕ) (f g : ℕ → ℕ) → ((k : ℕ) → k < n → f k ≡ g k) → sum_below n f ≡ sum_below n g
sum_same zero f g h = refl
sum_same (suc n) f g h = omega (arith, h n (omega arith), sum_same n f g (λ k lt. h k (omega (arith, lt))))

sum_most : (n : ℕ) (f g : ℕ → ℕ) → ((k : ℕ) → f k ≤ g k) → sum_below n f ≤ sum_below n g
sum_most zero f g h = omega arith
sum_most (suc n) f g h = omega (arith, h n, sum_most n f g h)

sum_none : (n : ℕ) (f : ℕ → ℕ) → ((k : ℕ) → k < n → f k ≡ 0) → sum_below n f ≡ 0
sum_none zero f h = refl
sum_none (suc n) f h = omega (arith, h n (omega arith), sum_none n f (λ k lt. h k (omega (arith, lt))))

-- sums of what differs at one number, and of what changes places at two
sum_but_one : (n a : ℕ) (f g : ℕ → ℕ) → a < n → ((k : ℕ) → k ≢ a → f k ≡ g k) → sum_below n f + g a ≡ sum_below n g + f a
sum_but_one zero a f g lt h = absurd (omega (arith, lt))
sum_but_one (suc n) a f g lt h = elim (cases_eq n a) [
  | inl here ↦
      let rest = sum_same n f g (λ k less. h k (λ e. absurd (omega (arith, less, e, here)))) in
      omega (arith, rest, ap f here, ap g here)
  | inr ne ↦ omega (arith, h n ne, sum_but_one n a f g (omega (arith, lt, ne)) h)
]

sum_swap : (n a b : ℕ) (f g : ℕ → ℕ) → a < n → b < n → a ≢ b → g a ≡ f b → g b ≡ f a → ((k : ℕ) → k ≢ a → k ≢ b → g k ≡ f k) → sum_below n g ≡ sum_below n f
sum_swap n a b f g lt to apart one two rest =
    let h : ℕ → ℕ = λ x. cond {A = ℕ} (eqb x a) (g x) (f x) in
    let at : h a ≡ g a = ap (λ t. cond {A = ℕ} t (g a) (f a)) (eq-eqb a a refl) in
    let off : (k : ℕ) → k ≢ a → f k ≡ h k = λ k ne. sym (ap (λ t. cond {A = ℕ} t (g k) (f k)) (ne_eqb k a ne)) in
    let near : (k : ℕ) → k ≢ b → h k ≡ g k = λ k ne. elim (cases_eq k a) [
      | inl here ↦ ap (λ t. cond {A = ℕ} t (g k) (f k)) (eq-eqb k a here)
      | inr away ↦ sym (off k away) ∙ sym (rest k away ne)
    ] in
    omega (arith, sum_but_one n a f h lt off, sum_but_one n b h g to near, at, off b (λ e. apart (sym e)), one, two)

-- a pin is equal to itself
same_option : (a b : Option ℕ) → a ≡ b → option_eq eqb a b ≡ true
same_option None b e = ap (option_eq eqb None) (sym e)
same_option (Some x) b e = ap (option_eq eqb (Some x)) (sym e) ∙ eq-eqb x x refl

-- two pins that a test found apart are
pub pins_apart : (a b : Option ℕ) → option_eq eqb a b ≡ false → a ≢ b
pins_apart a b e same = true≢false (sym (same_option a b same) ∙ e)

-- and a test finds two apart that are
other_option : (a b : Option ℕ) → a ≢ b → option_eq eqb a b ≡ false
other_option a b ne = by_test (option_eq eqb a b) refl
  where
    by_test : (t : Bool) → option_eq eqb a b ≡ t → option_eq eqb a b ≡ false
    by_test true e = absurd (ne (same_pin a b e))
    by_test false e = e

-- a version that a seat has pinned is pinned
pinned_at : (seats : List (Option ℕ)) (k version : ℕ) → get_or seats k None ≡ Some version → is_pinned seats version ≡ true
pinned_at seats k version is = list_any_at (λ pin. option_eq eqb pin (Some version)) seats k None (pin_within seats k version is) (same_option (get_or seats k None) (Some version) is)

-- what is kept for a pinned version, or for none, lets go nothing
kept_whole : (seats : List (Option ℕ)) (n k : ℕ) (pin : Option ℕ) (held : ℕ) → k < n → pin ≡ get_or seats k None → let_go_of (take n seats) pin held ≡ 0
kept_whole seats n k None held lt is = refl
kept_whole seats n k (Some version) held lt is = ap (λ b. cond {A = ℕ} b 0 held) (pinned_at (take n seats) k version (get_or-take n seats k None lt ∙ sym is))

-- of no nodes none are let go
none_of : (seats : List (Option ℕ)) (pin : Option ℕ) → let_go_of seats pin 0 ≡ 0
none_of seats None = refl
none_of seats (Some version) = by_test (is_pinned seats version)
  where
    by_test : (b : Bool) → cond {A = ℕ} b 0 0 ≡ 0
    by_test true = refl
    by_test false = refl

-- where each list agrees, none lets go any
pub none_let_go : (p : Nodes) (v : Pins) → Agrees p v → let_go_by p v ≡ 0
none_let_go p v agrees = sum_none (length p.pins) (let_go_at p v) (λ k lt. kept_whole v.seats (length p.pins) k (get_or p.pins k None) (get_or p.held k 0) lt (agrees k lt))

-- all lists agree where each below their number does
pub all_agree : (p : Nodes) (v : Pins) (n : ℕ) → ((s : ℕ) → s < n → AgreesAt p v s) → length p.pins ≤ n → Agrees p v
all_agree p v n h few s lt = h s (omega (arith, lt, few))

-- what is let go, by the number of the lists
let_go_as : (q : Nodes) (v : Pins) (n : ℕ) → length q.pins ≡ n → let_go_by q v ≡ sum_below n (λ k. let_go_of (take n v.seats) (get_or q.pins k None) (get_or q.held k 0))
let_go_as q v n many = ap (λ m. sum_below m (λ k. let_go_of (take m v.seats) (get_or q.pins k None) (get_or q.held k 0))) many

-- where no node and no mark is another, no death is
pub dead_kept : (p q : Nodes) → q.nodes ≡ p.nodes → q.marks ≡ p.marks → KeepsDead p q
dead_kept p q nodes marks = record { nodes = nodes; deaths = λ x. ap (λ ms. death_of (get_or ms x plain)) marks }

-- nor is more or less set aside
pub aside_kept : (p q : Nodes) → q.marks ≡ p.marks → aside_count q ≡ aside_count p
aside_kept p q marks = ap (λ ms. Rattle.std.proofs.Common.count_by is_aside ms) marks

-- a list that agrees has followed
pub follows_same : (p : Nodes) (v : Pins) (list : ℕ) → AgreesAt p v list → FollowsPin v p p list true
follows_same p v list at = record { nodes = refl; marks = refl; spare = refl; limit = refl; many = refl; agreed = λ s e. e; loose = refl; turned = at }

-- a list follows its pin, and lets go just what no seat needs
pub follows_pin : (p q : Nodes) (v : Pins) (list : ℕ) (pin : Option ℕ) → list < length p.pins → pin ≡ get_or v.seats list None → q.nodes ≡ p.nodes → q.marks ≡ p.marks → q.spare ≡ p.spare → q.limit ≡ p.limit → q.pins ≡ set p.pins list pin → q.loose ≡ p.loose + let_go p list pin → KeepsLists p q list → let_go p list pin ≡ let_go_at p v list → FollowsPin v p q list true
follows_pin p q v list pin lt is nodes marks spare limit pins loose held goes =
    let n = length p.pins in
    let many : length q.pins ≡ n = ap length pins ∙ length-set p.pins list pin in
    let here : get_or q.pins list None ≡ get_or v.seats list None = ap (λ ps. get_or ps list None) pins ∙ get_or-set_same p.pins list pin None lt ∙ is in
    let off : (s : ℕ) → s ≢ list → get_or q.pins s None ≡ get_or p.pins s None = λ s ne. ap (λ ps. get_or ps s None) pins ∙ get_or-set_other p.pins list s pin None ne in
    let go : ℕ → ℕ = λ k. let_go_of (take n v.seats) (get_or q.pins k None) (get_or q.held k 0) in
    let none : go list ≡ 0 = kept_whole v.seats n list (get_or q.pins list None) (get_or q.held list 0) lt here in
    let rest : (k : ℕ) → k ≢ list → go k ≡ let_go_at p v k = λ k ne. ap (λ o. let_go_of (take n v.seats) o (get_or q.held k 0)) (off k ne) ∙ ap (let_go_of (take n v.seats) (get_or p.pins k None)) (held k ne) in
    record {
      nodes = nodes;
      marks = marks;
      spare = spare;
      limit = limit;
      many = many;
      agreed = λ s e. elim (cases_eq s list) [
        | inl same ↦ subst (λ t. AgreesAt q v t) (sym same) here
        | inr ne ↦ off s ne ∙ e
      ];
      loose = omega (arith, loose, goes, none, let_go_as q v n many, sum_but_one n list go (let_go_at p v) lt rest);
      turned = here;
    }

-- what is let go by a list whose pin ended, where no seat has its version pinned
pub goes_whole : (p : Nodes) (v : Pins) (list : ℕ) (pin : Option ℕ) → get_or p.pins list None ≢ pin → let_go_at p v list ≡ get_or p.held list 0 → let_go p list pin ≡ let_go_at p v list
goes_whole p v list pin ne whole = ap (λ b. cond {A = ℕ} b 0 (get_or p.held list 0)) (other_option (get_or p.pins list None) pin ne) ∙ sym whole

-- and by a list with no node
pub goes_none : (p : Nodes) (v : Pins) (list : ℕ) (pin : Option ℕ) → get_or p.held list 0 ≡ 0 → let_go p list pin ≡ let_go_at p v list
goes_none p v list pin none =
    ap (λ m. cond {A = ℕ} (option_eq eqb (get_or p.pins list None) pin) 0 m) none
    ∙ by_test (option_eq eqb (get_or p.pins list None) pin)
    ∙ sym (ap (let_go_of (take (length p.pins) v.seats) (get_or p.pins list None)) none ∙ none_of (take (length p.pins) v.seats) (get_or p.pins list None))
  where
    by_test : (b : Bool) → cond {A = ℕ} b 0 0 ≡ 0
    by_test true = refl
    by_test false = refl

-- a holder's list is another one
pub holder_apart : (p : Nodes) (v : Pins) (list other : ℕ) → IsHolder v p list other → (AgreesAt p v list → ⊥) → list ≢ other
holder_apart p v list other h stale same = stale (h.kept ∙ sym h.pinned ∙ ap (λ k. get_or v.seats k None) (sym same))

-- what is let go stays where one list has the nodes of two that are kept for a pinned version
holder_go : (p q : Nodes) (v : Pins) (list other : ℕ) → IsHolder v p list other → get_or p.pins other None ≡ get_or p.pins list None → q.pins ≡ p.pins → GivesAll p q list other → let_go_by q v ≡ let_go_by p v
holder_go p q v list other h same pins hands =
    let n = length p.pins in
    let go : ℕ → ℕ = λ k. let_go_of (take n v.seats) (get_or q.pins k None) (get_or q.held k 0) in
    let kept : (pin : Option ℕ) (held : ℕ) → pin ≡ Some h.version → let_go_of (take n v.seats) pin held ≡ 0 = λ pin held is. kept_whole v.seats n other pin held h.below (is ∙ sym h.pinned) in
    let shown : (k : ℕ) → get_or q.pins k None ≡ get_or p.pins k None = λ k. ap (λ ps. get_or ps k None) pins in
    let both : (k : ℕ) → get_or p.pins k None ≡ Some h.version → go k ≡ let_go_at p v k = λ k is. kept (get_or q.pins k None) (get_or q.held k 0) (shown k ∙ is) ∙ sym (kept (get_or p.pins k None) (get_or p.held k 0) is) in
    let each : (k : ℕ) → k < n → go k ≡ let_go_at p v k = λ k lt. elim (cases_eq k list) [
      | inl here ↦ both k (ap (λ s. get_or p.pins s None) here ∙ h.kept)
      | inr ne ↦ elim (cases_eq k other) [
        | inl there ↦ both k (ap (λ s. get_or p.pins s None) there ∙ same ∙ h.kept)
        | inr away ↦ ap (λ o. let_go_of (take n v.seats) o (get_or q.held k 0)) (shown k) ∙ ap (let_go_of (take n v.seats) (get_or p.pins k None)) (hands.others k ne away)
      ]
    ] in
    let_go_as q v n (ap length pins) ∙ sum_same n go (let_go_at p v) each

-- the list of a pin that ended goes to a seat that has its version pinned
pub follows_hand : (p p1 q : Nodes) (v : Pins) (list other : ℕ) → IsHolder v p list other → get_or p.pins other None ≡ get_or p.pins list None → p1.nodes ≡ p.nodes → p1.marks ≡ p.marks → p1.spare ≡ p.spare → p1.limit ≡ p.limit → p1.loose ≡ p.loose → p1.pins ≡ p.pins → GivesAll p p1 list other → FollowsPin v p1 q list true → FollowsPin v p q list true
follows_hand p p1 q v list other h same nodes marks spare limit loose pins hands f = record {
  nodes = f.nodes ∙ nodes;
  marks = f.marks ∙ marks;
  spare = f.spare ∙ spare;
  limit = f.limit ∙ limit;
  many = f.many ∙ ap length pins;
  agreed = λ s e. f.agreed s (ap (λ ps. get_or ps s None) pins ∙ e);
  loose = omega (arith, f.loose, loose, holder_go p p1 v list other h same pins hands);
  turned = f.turned;
}

-- two lists change places: the one that goes to the holder agrees, and what is let go stays
pub follows_exchange : (p q : Nodes) (v : Pins) (list other : ℕ) → list < length p.pins → IsHolder v p list other → (AgreesAt p v list → ⊥) → get_or p.pins other None ≢ get_or p.pins list None → q.nodes ≡ p.nodes → q.marks ≡ p.marks → q.spare ≡ p.spare → q.limit ≡ p.limit → q.loose ≡ p.loose → Exchanges p q list other → FollowsPin v p q list false
follows_exchange p q v list other lt h stale differ nodes marks spare limit loose ex =
    let n = length p.pins in
    let apart = holder_apart p v list other h stale in
    let once = set p.pins list (get_or p.pins other None) in
    let pins : q.pins ≡ set once other (get_or p.pins list None) = ex.pins ∙ sym (swap_is p.pins list other None lt h.below) in
    let many : length q.pins ≡ n = ap length pins ∙ length-set once other (get_or p.pins list None) ∙ length-set p.pins list (get_or p.pins other None) in
    let to : other < length once = omega (arith, h.below, length-set p.pins list (get_or p.pins other None)) in
    let at_other : get_or q.pins other None ≡ get_or p.pins list None = ap (λ ps. get_or ps other None) pins ∙ get_or-set_same once other (get_or p.pins list None) None to in
    let at_list : get_or q.pins list None ≡ get_or p.pins other None = ap (λ ps. get_or ps list None) pins ∙ get_or-set_other once other list (get_or p.pins list None) None apart ∙ get_or-set_same p.pins list (get_or p.pins other None) None lt in
    let off : (s : ℕ) → s ≢ list → s ≢ other → get_or q.pins s None ≡ get_or p.pins s None = λ s ne away. ap (λ ps. get_or ps s None) pins ∙ get_or-set_other once other s (get_or p.pins list None) None away ∙ get_or-set_other p.pins list s (get_or p.pins other None) None ne in
    let does : AgreesAt q v other = at_other ∙ h.kept ∙ sym h.pinned in
    let go : ℕ → ℕ = λ k. let_go_of (take n v.seats) (get_or q.pins k None) (get_or q.held k 0) in
    let moved : (a b : ℕ) → get_or q.pins a None ≡ get_or p.pins b None → get_or q.held a 0 ≡ get_or p.held b 0 → go a ≡ let_go_at p v b = λ a b is held. ap (λ o. let_go_of (take n v.seats) o (get_or q.held a 0)) is ∙ ap (let_go_of (take n v.seats) (get_or p.pins b None)) held in
    let sums = sum_swap n list other (let_go_at p v) go lt h.below apart (moved list other at_list ex.gets) (moved other list at_other ex.gives) (λ k ne away. moved k k (off k ne away) (ex.others k ne away)) in
    record {
      nodes = nodes;
      marks = marks;
      spare = spare;
      limit = limit;
      many = many;
      agreed = λ s e. elim (cases_eq s list) [
        | inl here ↦ absurd (stale (subst (λ k. AgreesAt p v k) here e))
        | inr ne ↦ elim (cases_eq s other) [
          | inl there ↦ subst (λ k. AgreesAt q v k) (sym there) does
          | inr away ↦ off s ne away ∙ e
        ]
      ];
      loose = omega (arith, loose, let_go_as q v n many, sums);
      turned = (other, record { list = h.below; did_not = λ e. differ (e ∙ h.pinned ∙ sym h.kept); does = does });
    }

-- what a search for a seat found
pub finds_holder : (p : Nodes) (v : Pins) (list version : ℕ) (found : Option ℕ) → get_or p.pins list None ≡ Some version → FindsSeat (take (length p.pins) v.seats) version found → FindsHolder v p list found
finds_holder p v list version None kept none = ap (λ o. let_go_of (take (length p.pins) v.seats) o (get_or p.held list 0)) kept ∙ ap (λ b. cond {A = ℕ} b 0 (get_or p.held list 0)) none
finds_holder p v list version (Some other) kept is =
    let below : other < length p.pins = omega (arith, pin_within (take (length p.pins) v.seats) other version is, length-take (length p.pins) v.seats) in
    record { version = version; kept = kept; below = below; pinned = sym (get_or-take (length p.pins) v.seats other None below) ∙ is }

-- and where a list is kept for none
pub finds_none : (p : Nodes) (v : Pins) (list : ℕ) → get_or p.pins list None ≡ None → get_or p.held list 0 ≡ 0 → FindsHolder v p list None
finds_none p v list kept none = ap (λ o. let_go_of (take (length p.pins) v.seats) o (get_or p.held list 0)) kept ∙ sym none

-- how many lists are not kept for what their seats have pinned
stale_at : Nodes → Pins → ℕ → ℕ
stale_at p v k = cond {A = ℕ} (option_eq eqb (get_or p.pins k None) (get_or v.seats k None)) 0 1

pub stale_by : Nodes → Pins → ℕ
stale_by p v = sum_below (length p.pins) (stale_at p v)

-- a list that agrees is none of them
stale_none : (p : Nodes) (v : Pins) (k : ℕ) → AgreesAt p v k → stale_at p v k ≡ 0
unfolding stale_at
stale_none p v k at = ap (λ b. cond {A = ℕ} b 0 1) (same_option (get_or p.pins k None) (get_or v.seats k None) at)

-- one that does not is one
stale_one : (p : Nodes) (v : Pins) (k : ℕ) → (AgreesAt p v k → ⊥) → stale_at p v k ≡ 1
unfolding stale_at
stale_one p v k not = ap (λ b. cond {A = ℕ} b 0 1) (other_option (get_or p.pins k None) (get_or v.seats k None) not)

-- where what agreed agrees, no more do not
stale_most : (p q : Nodes) (v : Pins) → ((s : ℕ) → AgreesAt p v s → AgreesAt q v s) → (k : ℕ) → stale_at q v k ≤ stale_at p v k
unfolding stale_at
stale_most p q v agreed k = by_test (option_eq eqb (get_or p.pins k None) (get_or v.seats k None)) refl
  where
    few : (b : Bool) → cond {A = ℕ} b 0 1 ≤ 1
    few true = omega arith
    few false = omega arith

    by_test : (t : Bool) → option_eq eqb (get_or p.pins k None) (get_or v.seats k None) ≡ t → stale_at q v k ≤ stale_at p v k
    by_test true e = omega (arith, stale_none q v k (agreed k (same_pin (get_or p.pins k None) (get_or v.seats k None) e)))
    by_test false e = omega (arith, ap (λ b. cond {A = ℕ} b 0 1) e, few (option_eq eqb (get_or q.pins k None) (get_or v.seats k None)))

-- a sum of what is nowhere more, and less at one number
sum_less : (n a : ℕ) (f g : ℕ → ℕ) → a < n → ((k : ℕ) → f k ≤ g k) → f a < g a → sum_below n f < sum_below n g
sum_less zero a f g lt h less = absurd (omega (arith, lt))
sum_less (suc n) a f g lt h less = elim (cases_eq n a) [
  | inl here ↦ omega (arith, sum_most n f g h, less, ap f here, ap g here)
  | inr ne ↦ omega (arith, h n, sum_less n a f g (omega (arith, lt, ne)) h less)
]

-- the measure of the loop: lists to come, and lists that do not agree
pub stale_kept : (p q : Nodes) (v : Pins) (list : ℕ) (done : Bool) → FollowsPin v p q list done → stale_by q v ≤ stale_by p v
unfolding stale_by
stale_kept p q v list done f = omega (arith, ap (λ n. sum_below n (stale_at q v)) f.many, sum_most (length p.pins) (stale_at q v) (stale_at p v) (stale_most p q v f.agreed))

-- and it falls where another list agrees now
pub stale_falls : (p q : Nodes) (v : Pins) (list : ℕ) → FollowsPin v p q list false → stale_by q v < stale_by p v
unfolding stale_by
stale_falls p q v list f =
    let s = f.turned.0 in
    let t = f.turned.1 in
    omega (arith, ap (λ n. sum_below n (stale_at q v)) f.many, sum_less (length p.pins) s (stale_at q v) (stale_at p v) t.list (stale_most p q v f.agreed) (omega (arith, stale_none q v s t.does, stale_one p v s t.did_not)))
