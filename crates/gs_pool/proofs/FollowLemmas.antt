-- What the lists of held nodes say to a contract, and how a pool goes on where one gets a node or is given up.
use Rattle.std.proofs.Common.{◌≡◌, ℕ, zero, suc, ◌+◌, ◌<◌, ◌≤◌, true, false, eqb, List, [], ◌∷◌, map, length, replicate, get_or, set, Option, Some, None, slice_get, refl, sym, ap, subst, ◌∙◌, inl, inr, arith, length-set, true≢false, ◌≢◌, cond}
use Rattle.std.specs.Prelude.{is_none}
use Rattle.std.specs.Option.{option_eq}
use Rattle.std.proofs.lemmas.Bool.{cases_lt, eqb-true}
use Rattle.std.proofs.lemmas.List.{map-set, length-map, get_or-map, get_or_past, get_or-replicate, set-get_or, length-replicate, get_or-set_same, get_or-set_other}
use Rattle.std.proofs.lemmas.List.Folds.{sum_by-replicate}
use Rattle.std.proofs.lemmas.Option.{slice_get_within, slice_get_read, get_or_from_slice_get}
use Rattle.std.proofs.Math.Seq.{map-set_same}
use Rattle.gs_model.specs.Limits.{last_node}
use Rattle.gs_pool.specs.declared.nodes.Node.{Node}
use Rattle.gs_pool.specs.declared.holds.Hold.{Hold}
use Rattle.gs_pool.specs.Pool.{Nodes, plain, is_aside, is_retired}
use Rattle.gs_pool.specs.Held.{IsNeededBy, AreHeld, let_go}
use Rattle.gs_pool.specs.Places.{Place, content_of, next_of, node_in, mark_in, is_whole, node_of, mark_of, is_free_place, is_aside_place, is_retired_place}
use Rattle.gs_pool.specs.Lists.{place_kind, hold_at, times, pin_of, hold_count, empty_hold, with_node_first, is_kept_for, is_retired_at, AreRetired, AreSoundLists}
use Rattle.gs_pool.proofs.ListLemmas.{place_of, list_off, count-set}
use Rattle.gs_pool.proofs.HoldLemmas.{kept_for, kept_pin, all_held, last_within, total_few, held_few, empty_count}
use Rattle.gs_pool.proofs.ReleaseLemmas.{released_none, released}
use Rattle.gs_pool.proofs.PlaceLemmas.{IsUsed, held_sound}
use Rattle.gs_pool.proofs.StateLemmas.{retired_place}

-- the pins, by list
pins_at : (holds : List Hold) (k : ℕ) → get_or (map pin_of holds) k None ≡ (hold_at holds k).pin
pins_at [] k = refl
pins_at (h ∷ holds) zero = refl
pins_at (h ∷ holds) (suc k) = pins_at holds k

pub pin_within : (pins : List (Option ℕ)) (k v : ℕ) → get_or pins k None ≡ Some v → k < length pins
pin_within pins k v is = elim (cases_lt k (length pins)) [
  | inl lt ↦ lt
  | inr past ↦ absurd (let e : get_or pins k None ≡ None = get_or_past pins k None past in cc)
]

-- whether a number is retired, by the mark that is shown and by its place
shown_retired : (places : List Place) (x : ℕ) → is_retired (get_or (map mark_of places) x plain) ≡ is_retired_at is_retired_place places x
shown_retired [] x = refl
shown_retired (s ∷ places) zero = refl
shown_retired (s ∷ places) (suc x) = shown_retired places x

-- where none is left that is not held, each that is retired is held
pub are_held : (p : Nodes) (places : List Place) (first : Option ℕ) (holds : List Hold) (loose total : ℕ) → AreRetired place_kind places first holds loose total → first ≡ None → p.nodes ≡ map node_of places → p.marks ≡ map mark_of places → p.pins ≡ map pin_of holds → AreHeld p
are_held p places first holds loose total r none nodes marks pins x is =
    let held = all_held places first holds loose total r none x (sym (shown_retired places x) ∙ ap (λ ms. is_retired (get_or ms x plain)) (sym marks) ∙ is) in
    let k = held.0 in
    let d = held.1 in
    let keeps = kept_pin place_kind (hold_at holds k).pin d held.3 in
    let within = slice_get_within places x d held.2 in
    let at : get_or places x d ≡ d = get_or_from_slice_get places x d d held.2 in
    let state = retired_place d.state d.death (content_of d) keeps.retired in
    record {
      list = k;
      death = d.death;
      whole = is_whole d.state;
      marked = ap (λ ms. get_or ms x plain) marks ∙ get_or-map mark_of places x d plain within ∙ ap mark_of at ∙ state.0;
      needed = record {
        version = keeps.version;
        node = content_of d;
        pinned = ap (λ ps. get_or ps k None) pins ∙ pins_at holds k ∙ keeps.is;
        found = ap (λ ns. get_or ns x None) nodes ∙ get_or-map node_of places x d None within ∙ ap node_of at ∙ state.1;
        lies = keeps.lies;
      };
    }

-- a list of holds that is read at a number
pub hold_is : (holds : List Hold) (k : ℕ) (h : Hold) → k < length holds → h ≡ get_or holds k h → hold_at holds k ≡ h
hold_is holds k h lt read = get_or_from_slice_get holds k h (empty_hold None) (slice_get_read holds (length holds) k h refl lt read)

-- the place that gets onto a list is needed by its pin
pub needed_place : (p : Nodes) (places : List Place) (holds : List Hold) (list id death : ℕ) (s d : Place) → IsNeededBy p list id death → IsUsed places id d → p.nodes ≡ map node_of places → p.pins ≡ map pin_of holds → content_of s ≡ content_of d → s.death ≡ death → is_retired_place s ≡ true → is_kept_for place_kind (hold_at holds list).pin s ≡ true
needed_place p places holds list id death s d need used nodes pins content dies is_so =
    let there : Some (content_of d) ≡ Some need.node = sym used.shown ∙ ap (λ ns. get_or ns id None) (sym nodes) ∙ need.found in
    let same : content_of d ≡ need.node = cc in
    let born : s.node.birth ≡ need.node.birth = ap (λ (n : Node). n.birth) (content ∙ same) in
    kept_for place_kind (hold_at holds list).pin s need.version (sym (pins_at holds list) ∙ ap (λ ps. get_or ps list None) (sym pins) ∙ need.pinned) is_so
    (omega (arith, need.lies.0, born), omega (arith, need.lies.1, dies))

-- a list that is read is one of those that are there
pub list_within : (p : Nodes) (holds : List Hold) (list id death : ℕ) → IsNeededBy p list id death → p.pins ≡ map pin_of holds → list < length holds
list_within p holds list id death need pins = omega (arith, pin_within p.pins list need.version need.pinned, ap length pins, length-map holds pin_of)

-- all lists after the next place of a retired one is another, where the retired ones are on lists still
pub relinked_sound : (places : List Place) (ff fr ft now : Option ℕ) (holds others : List Hold) (free loose more total limit : ℕ) → AreSoundLists places ff fr ft holds free loose total limit → (z : ℕ) (s d : Place) → z < length places → d ≡ get_or places z d → is_retired_place d ≡ true → content_of s ≡ content_of d → s.state ≡ d.state → s.death ≡ d.death → AreRetired place_kind (set places z s) now others more total → AreSoundLists (set places z s) ff fr now others free more total limit
relinked_sound places ff fr ft now holds others free loose more total limit sound z s d within at was content state dies lists =
    let place = retired_place d.state d.death (content_of d) was in
    let mark : mark_of s ≡ mark_of d = ap (λ t. mark_in t s.death) state ∙ ap (mark_in d.state) dies in
    let node : node_of s ≡ node_of d = ap (λ t. node_in t (content_of s)) state ∙ ap (node_in d.state) content in
    let used : is_free_place d ≡ false = ap is_none place.1 in
    let off : is_aside_place d ≡ false = ap is_aside place.0 in
    let still : is_free_place s ≡ false = ap is_none node ∙ used in
    let counted = rw (used, still) at (count-set is_free_place places z s d within at) in
    record {
      free_list = list_off next_of is_free_place places ff z s d sound.free_list within at used still;
      aside_list = list_off next_of is_aside_place places fr z s d sound.aside_list within at off (ap is_aside mark ∙ off);
      retired_lists = lists;
      counted = omega (arith, sound.counted, counted);
      short = omega (arith, length-set places z s, sound.short);
      small = sound.small;
    }

-- a list gets a node, or is given up
module _ (places : List Place) (ff fr ft : Option ℕ) (holds : List Hold) (free loose total limit k : ℕ) (h : Hold) (sound : AreSoundLists places ff fr ft holds free loose total limit) (lt : k < length holds) (read : h ≡ get_or holds k h) where
  same : hold_at holds k ≡ h
  same = hold_is holds k h lt read

  first_same : (hold_at holds k).first ≡ h.first
  first_same = ap (λ (o : Hold). o.first) same

  -- a plain place gets onto it
  pub more_sound : (id : ℕ) (s d : Place) → d ≡ get_or places id d → id < length places → is_free_place d ≡ false → mark_of d ≡ plain → is_free_place s ≡ false → is_aside_place s ≡ false → is_kept_for place_kind (hold_at holds k).pin s ≡ true → next_of s ≡ h.first → AreSoundLists (set places id s) ff fr ft (set holds k (with_node_first h id)) free loose (total + 1) limit
  more_sound id s d at within was mark now off kept next =
      subst (λ (o : Hold). AreSoundLists (set places id s) ff fr ft (set holds k (with_node_first o id)) free loose (total + 1) limit) same
      (held_sound places ff fr ft holds free loose total limit id s d sound at k lt within was mark now off kept (next ∙ sym first_same))

  pub emptied_sound : (pin : Option ℕ) → h.first ≡ None → AreSoundLists places ff fr ft (set holds k (empty_hold pin)) free loose total limit
  emptied_sound pin none = record {
    free_list = sound.free_list;
    aside_list = sound.aside_list;
    retired_lists = released_none places ft holds loose total sound.retired_lists k pin lt (first_same ∙ none);
    counted = sound.counted;
    short = sound.short;
    small = sound.small;
  }

  pub few_held : loose + h.count ≤ limit
  few_held = omega (arith, held_few places ft holds loose total sound.retired_lists k lt, total_few places ft holds loose total sound.retired_lists, ap (λ (o : Hold). o.count) same, sound.short)

  -- its last place
  pub record HasLast (y : ℕ) : Type 0 where
    pub within : h.last < length places
    pub retired : (d : Place) → d ≡ get_or places h.last d → is_retired_place d ≡ true

  pub has_last : (y : ℕ) → h.first ≡ Some y → HasLast y
  has_last y is =
      let on = last_within places ft holds loose total sound.retired_lists k y (first_same ∙ is) in
      let found : slice_get places h.last ≡ Some on.0 = subst (λ (o : Hold). slice_get places o.last ≡ Some on.0) same on.1 in
      let within = slice_get_within places h.last on.0 found in
      record {
        within = within;
        retired = λ d at. let here = place_of places h.last d within at in let one : on.0 ≡ d = cc in ap is_retired_place (sym one) ∙ (kept_pin place_kind (hold_at holds k).pin on.0 on.2).retired;
      }

  pub released_sound : (pin : Option ℕ) (y : ℕ) (s d : Place) → h.first ≡ Some y → d ≡ get_or places h.last d → content_of s ≡ content_of d → s.state ≡ d.state → s.death ≡ d.death → next_of s ≡ ft → AreSoundLists (set places h.last s) ff fr (Some y) (set holds k (empty_hold pin)) free (loose + h.count) total limit
  released_sound pin y s d is at content state dies next =
      let last = has_last y is in
      let was = last.retired d at in
      let mark : mark_of s ≡ mark_of d = ap (λ t. mark_in t s.death) state ∙ ap (mark_in d.state) dies in
      relinked_sound places ff fr ft (Some y) holds (set holds k (empty_hold pin)) free loose (loose + h.count) total limit sound h.last s d last.within at was content state dies
      (subst (λ (o : Hold). AreRetired place_kind (set places o.last s) (Some y) (set holds k (empty_hold pin)) (loose + o.count) total) same
      (released places ft holds loose total sound.retired_lists k pin lt y s d (first_same ∙ is) (subst (λ (o : Hold). d ≡ get_or places o.last d) (sym same) at) (ap is_retired mark) next))

  -- nothing else is seen of it
  pub nodes_same : (s d : Place) → d ≡ get_or places h.last d → content_of s ≡ content_of d → s.state ≡ d.state → map node_of (set places h.last s) ≡ map node_of places
  nodes_same s d at content state = map-set_same node_of places h.last s d (ap (λ t. node_in t (content_of s)) state ∙ ap (node_in d.state) content ∙ ap node_of at)

  pub marks_same : (s d : Place) → d ≡ get_or places h.last d → s.state ≡ d.state → s.death ≡ d.death → map mark_of (set places h.last s) ≡ map mark_of places
  marks_same s d at state dies = map-set_same mark_of places h.last s d (ap (λ t. mark_in t s.death) state ∙ ap (mark_in d.state) dies ∙ ap mark_of at)

-- the pins where one list follows another
pub pins_set : (holds : List Hold) (k : ℕ) (h : Hold) (pin : Option ℕ) → h.pin ≡ pin → map pin_of (set holds k h) ≡ set (map pin_of holds) k pin
pins_set holds k h pin is = map-set pin_of holds k h ∙ ap (set (map pin_of holds) k) is

pub pins_kept : (holds : List Hold) (k : ℕ) (h old : Hold) → old ≡ get_or holds k old → h.pin ≡ old.pin → map pin_of (set holds k h) ≡ map pin_of holds
pins_kept holds k h old read is = map-set_same pin_of holds k h old (is ∙ ap pin_of read)

pub same_pin : (a b : Option ℕ) → option_eq eqb a b ≡ true → a ≡ b
same_pin None None e = refl
same_pin None (Some y) e = absurd (true≢false (sym e))
same_pin (Some x) None e = absurd (true≢false (sym e))
same_pin (Some x) (Some y) e = ap Some (eqb-true x y e)

pub pins_follow : (holds : List Hold) (k : ℕ) (h : Hold) (pin : Option ℕ) → k < length holds → h ≡ get_or holds k h → option_eq eqb h.pin pin ≡ true → map pin_of holds ≡ set (map pin_of holds) k pin
pins_follow holds k h pin lt read e = sym (set-get_or (map pin_of holds) k None) ∙ ap (set (map pin_of holds) k) (pins_at holds k ∙ ap pin_of (hold_is holds k h lt read) ∙ same_pin h.pin pin e)

all_same : {A : Type 0} (n k : ℕ) (x : A) → get_or (replicate n x) k x ≡ x
all_same n k x = elim (cases_lt k n) [
  | inl lt ↦ get_or-replicate n k x x lt
  | inr past ↦ get_or_past (replicate n x) k x (omega (arith, length-replicate n x))
]

-- a pool with no place
empty_sound : (n limit : ℕ) → limit ≤ last_node + 1 → AreSoundLists [] None None None (replicate n (empty_hold None)) 0 0 0 limit
empty_sound n limit small = record {
  free_list = record { ids = []; chain = refl; once = λ x. omega arith; all = refl };
  aside_list = record { ids = []; chain = refl; once = λ x. omega arith; all = refl };
  retired_lists = record {
    ids = [];
    held = replicate n [];
    chain = refl;
    many = length-replicate n [] ∙ sym (length-replicate n (empty_hold None));
    each = λ k. rw (all_same n k (empty_hold None), all_same {A = List ℕ} n k []) (record { chain = refl; last = tt; counted = refl });
    once = λ x. omega (arith, sum_by-replicate (times x) n []);
    loose_is = refl;
    all = omega (arith, sum_by-replicate (λ (l : List ℕ). length l) n []);
    total_is = refl;
  };
  counted = refl;
  short = omega arith;
  small = small;
}

pub none_sound : (places : List Place) (holds : List Hold) (limit : ℕ) → places ≡ [] → holds ≡ replicate (length holds) (empty_hold None) → limit ≤ last_node + 1 → AreSoundLists places None None None holds 0 0 0 limit
none_sound places holds limit none empty small =
    subst (λ ps. AreSoundLists ps None None None holds 0 0 0 limit) (sym none)
    (subst (λ hs. AreSoundLists [] None None None hs 0 0 0 limit) (sym empty) (empty_sound (length holds) limit small))

map-replicate : {A B : Type 0} (f : A → B) (n : ℕ) (x : A) → map f (replicate n x) ≡ replicate n (f x)
map-replicate f zero x = refl
map-replicate f (suc n) x = ap (λ ys. f x ∷ ys) (map-replicate f n x)

pub pins_empty : (holds : List Hold) → holds ≡ replicate (length holds) (empty_hold None) → map pin_of holds ≡ replicate (length holds) None
pins_empty holds e = ap (map pin_of) e ∙ map-replicate pin_of (length holds) (empty_hold None)

-- how many nodes each list has
pub counts_at : (holds : List Hold) (k : ℕ) → get_or (map hold_count holds) k 0 ≡ (hold_at holds k).count
counts_at [] k = refl
counts_at (h ∷ holds) zero = refl
counts_at (h ∷ holds) (suc k) = counts_at holds k

pub counts_else : (holds : List Hold) (k other : ℕ) (h : Hold) → other ≢ k → get_or (map hold_count (set holds k h)) other 0 ≡ get_or (map hold_count holds) other 0
counts_else holds k other h ne = rw (map-set hold_count holds k h) (get_or-set_other (map hold_count holds) k other h.count 0 ne)

-- and the list that was written has as many as were written
pub counts_own : (holds : List Hold) (k : ℕ) (h : Hold) → k < length holds → get_or (map hold_count (set holds k h)) k 0 ≡ h.count
counts_own holds k h lt = rw (map-set hold_count holds k h) (get_or-set_same (map hold_count holds) k h.count 0 (omega (arith, lt, length-map holds hold_count)))

-- the pin that is seen of a list, and how many nodes
pub pin_shown : (p : Nodes) (holds : List Hold) (k : ℕ) (h : Hold) → p.pins ≡ map pin_of holds → k < length holds → h ≡ get_or holds k h → get_or p.pins k None ≡ h.pin
pin_shown p holds k h pins lt read = ap (λ ps. get_or ps k None) pins ∙ pins_at holds k ∙ ap pin_of (hold_is holds k h lt read)

pub held_shown : (p : Nodes) (holds : List Hold) (k : ℕ) (h : Hold) → p.held ≡ map hold_count holds → k < length holds → h ≡ get_or holds k h → get_or p.held k 0 ≡ h.count
held_shown p holds k h held lt read = ap (λ cs. get_or cs k 0) held ∙ counts_at holds k ∙ ap hold_count (hold_is holds k h lt read)

-- what a list lets go: nothing where its pin stays, and else all that it has
pub none_let_go : (p : Nodes) (holds : List Hold) (k : ℕ) (h : Hold) (pin : Option ℕ) → p.pins ≡ map pin_of holds → k < length holds → h ≡ get_or holds k h → option_eq eqb h.pin pin ≡ true → let_go p k pin ≡ 0
none_let_go p holds k h pin pins lt read same =
    ap (λ o. cond {A = ℕ} (option_eq eqb o pin) 0 (get_or p.held k 0)) (pin_shown p holds k h pins lt read) ∙ ap (λ b. cond {A = ℕ} b 0 (get_or p.held k 0)) same

pub all_let_go : (p : Nodes) (holds : List Hold) (k : ℕ) (h : Hold) (pin : Option ℕ) → p.pins ≡ map pin_of holds → p.held ≡ map hold_count holds → k < length holds → h ≡ get_or holds k h → option_eq eqb h.pin pin ≡ false → let_go p k pin ≡ h.count
all_let_go p holds k h pin pins held lt read same =
    ap (λ o. cond {A = ℕ} (option_eq eqb o pin) 0 (get_or p.held k 0)) (pin_shown p holds k h pins lt read) ∙ ap (λ b. cond {A = ℕ} b 0 (get_or p.held k 0)) same ∙ held_shown p holds k h held lt read

-- a list that no one begins has none
pub none_counted : (places : List Place) (first : Option ℕ) (holds : List Hold) (loose total k : ℕ) (h : Hold) → AreRetired place_kind places first holds loose total → k < length holds → h ≡ get_or holds k h → h.first ≡ None → h.count ≡ 0
none_counted places first holds loose total k h r lt read none =
    let same = hold_is holds k h lt read in
    ap hold_count (sym same) ∙ empty_count places first holds loose total r k (ap (λ (o : Hold). o.first) same ∙ none)
