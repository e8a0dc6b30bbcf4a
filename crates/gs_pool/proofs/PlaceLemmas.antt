-- What a pool shows of its places, and how each change of a place keeps all three lists.
use Rattle.std.proofs.Common.{◌≡◌, ◌≢◌, ℕ, ◌+◌, ◌-◌, ◌<◌, ◌≤◌, Bool, true, false, cond, List, map, length, get_or, set, Option, Some, None, is_some, IsSome, count_by, sym, ap, subst, ◌∙◌, arith, length-set}
use Rattle.std.specs.Prelude.{is_none}
use Rattle.std.proofs.lemmas.List.{length-map, get_or-map, get_or_past}
use Rattle.std.proofs.Math.Seq.{map-set_same}
use Rattle.gs_pool.specs.declared.nodes.Node.{Node}
use Rattle.gs_pool.specs.declared.slots.State.{State}
use Rattle.gs_pool.specs.declared.slots.State.TheVariants.{Plain}
use Rattle.gs_pool.specs.Pool.{Nodes, NodeMark, plain, aside, retired, is_aside, is_retired, Marks}
use Rattle.gs_pool.specs.Places.{Place, free_place, content_of, next_of, node_in, mark_in, node_of, mark_of, is_free_place, is_aside_place, is_retired_place}
use Rattle.gs_pool.specs.declared.holds.Hold.{Hold}
use Rattle.gs_pool.specs.Lists.{place_kind, hold_at, with_node_first, is_kept_for, AreSoundLists}
use Rattle.gs_pool.proofs.ListLemmas.{list_push, list_pop, list_off, count-set}
use Rattle.gs_pool.proofs.MapLemmas.{at_itself, some_not_none, count_shown, shown_here, shown_else}
use Rattle.gs_pool.proofs.StateLemmas.{node_is_content, plain_state}
use Rattle.gs_pool.proofs.RetireLemmas.{retired_off, retired_push, retired_pop, retired_hold}

-- what is read at a number in use
pub record IsUsed (places : List Place) (id : ℕ) (d : Place) : Type 0 where
  pub within : id < length places
  pub shown : get_or (map node_of places) id None ≡ Some (content_of d)
  pub node : node_of d ≡ Some (content_of d)
  pub mark : get_or (map mark_of places) id plain ≡ mark_of d
  pub not_free : is_free_place d ≡ false

pub is_used : (places : List Place) (id : ℕ) (d : Place) → d ≡ get_or places id d → IsSome (get_or (map node_of places) id None) → IsUsed places id d
is_used places id d read used =
    let inside : id < length (map node_of places) = grind (arith, get_or_past) in
    let within : id < length places = omega (arith, length-map places node_of) in
    let was : get_or (map node_of places) id None ≡ node_of d = get_or-map node_of places id d None within ∙ ap node_of (sym read) in
    let some : IsSome (node_of d) = subst IsSome was used in
    let node : node_of d ≡ Some (content_of d) = node_is_content d.state (content_of d) some in
    record {
      within = within;
      shown = was ∙ node;
      node = node;
      mark = get_or-map mark_of places id d plain within ∙ ap mark_of (sym read);
      not_free = some_not_none (node_of d) some;
    }

-- what is read at the number of a plain node
pub record IsPlainAt (places : List Place) (id : ℕ) (d : Place) : Type 0 where
  pub read : d ≡ get_or places id d
  pub used : IsUsed places id d
  pub unlisted : mark_of d ≡ plain
  pub state : d.state ≡ Plain

pub is_plain_at : (places : List Place) (id : ℕ) → IsSome (get_or (map node_of places) id None) → get_or (map mark_of places) id plain ≡ plain → IsPlainAt places id (get_or places id (free_place None))
is_plain_at places id some mark =
    let d = get_or places id (free_place None) in
    let read = at_itself places id (free_place None) in
    let u = is_used places id d read some in
    let unlisted : mark_of d ≡ plain = sym u.mark ∙ mark in
    record {
      read = read;
      used = u;
      unlisted = unlisted;
      state = plain_state d.state d.death (content_of d) (ap is_some u.node) unlisted;
    }

-- what is shown after a place was written
pub record Writes (places : List Place) (id : ℕ) (s d : Place) : Type 0 where
  pub len : length (set places id s) ≡ length places
  pub node : get_or (map node_of (set places id s)) id None ≡ node_of s
  pub node_others : (x : ℕ) → x ≢ id → get_or (map node_of (set places id s)) x None ≡ get_or (map node_of places) x None
  pub mark : get_or (map mark_of (set places id s)) id plain ≡ mark_of s
  pub mark_others : (x : ℕ) → x ≢ id → get_or (map mark_of (set places id s)) x plain ≡ get_or (map mark_of places) x plain
  pub free : count_by is_none (map node_of (set places id s)) + cond (is_none (node_of d)) 1 0 ≡ count_by is_none (map node_of places) + cond (is_none (node_of s)) 1 0
  pub used : count_by is_some (map node_of (set places id s)) + cond (is_some (node_of d)) 1 0 ≡ count_by is_some (map node_of places) + cond (is_some (node_of s)) 1 0
  pub aside_ones : count_by is_aside (map mark_of (set places id s)) + cond (is_aside (mark_of d)) 1 0 ≡ count_by is_aside (map mark_of places) + cond (is_aside (mark_of s)) 1 0
  pub retired_ones : count_by is_retired (map mark_of (set places id s)) + cond (is_retired (mark_of d)) 1 0 ≡ count_by is_retired (map mark_of places) + cond (is_retired (mark_of s)) 1 0

pub writes : (places : List Place) (id : ℕ) (s d : Place) → id < length places → d ≡ get_or places id d → Writes places id s d
writes places id s d within read = record {
  len = length-set places id s;
  node = shown_here node_of None places id s within;
  node_others = λ x ne. shown_else node_of None places id x s ne;
  mark = shown_here mark_of plain places id s within;
  mark_others = λ x ne. shown_else mark_of plain places id x s ne;
  free = count is_none node_of;
  used = count is_some node_of;
  aside_ones = count is_aside mark_of;
  retired_ones = count is_retired mark_of;
}
  where
    count : {B : Type 0} (test : B → Bool) (show : Place → B) → count_by test (map show (set places id s)) + cond (test (show d)) 1 0 ≡ count_by test (map show places) + cond (test (show s)) 1 0
    count test show = omega (arith, count_shown test show places, count_shown test show (set places id s), count-set (λ p. test (show p)) places id s d within read)

-- a place gets another mark, and keeps its node
pub record Relists (places : List Place) (id : ℕ) (s : Place) (m n : NodeMark) : Type 0 where
  pub nodes : map node_of (set places id s) ≡ map node_of places
  pub len : length (set places id s) ≡ length places
  pub changed : get_or (map mark_of (set places id s)) id plain ≡ n
  pub others : (x : ℕ) → x ≢ id → get_or (map mark_of (set places id s)) x plain ≡ get_or (map mark_of places) x plain
  pub aside_ones : count_by is_aside (map mark_of (set places id s)) + cond (is_aside m) 1 0 ≡ count_by is_aside (map mark_of places) + cond (is_aside n) 1 0
  pub retired_ones : count_by is_retired (map mark_of (set places id s)) + cond (is_retired m) 1 0 ≡ count_by is_retired (map mark_of places) + cond (is_retired n) 1 0

pub relists : (places : List Place) (id : ℕ) (s d : Place) (m n : NodeMark) → id < length places → d ≡ get_or places id d → node_of s ≡ node_of d → mark_of d ≡ m → mark_of s ≡ n → Relists places id s m n
relists places id s d m n within read same was now =
    let w = writes places id s d within read in
    record {
      nodes = map-set_same node_of places id s d (same ∙ ap node_of read);
      len = w.len;
      changed = w.mark ∙ now;
      others = w.mark_others;
      aside_ones = rw (was, now) at w.aside_ones;
      retired_ones = rw (was, now) at w.retired_ones;
    }

-- the pool that has the place with the other mark
pub marked : (old new : Nodes) (places : List Place) (id : ℕ) (s : Place) (m n : NodeMark) → Relists places id s m n → old.nodes ≡ map node_of places → old.marks ≡ map mark_of places → new.nodes ≡ map node_of (set places id s) → new.marks ≡ map mark_of (set places id s) → new.spare ≡ old.spare → new.limit ≡ old.limit → Marks old new id n
marked old new places id s m n r old_nodes old_marks new_nodes new_marks spare limit = record {
  nodes = new_nodes ∙ r.nodes ∙ sym old_nodes;
  spare = spare;
  limit = limit;
  changed = rw new_marks r.changed;
  others = λ x ne. rw (new_marks, old_marks) (r.others x ne);
}

-- a place of a state that is not free, with the content of a place in use, has that place's node
pub same_node : (places : List Place) (id : ℕ) (s d : Place) (st : State) → IsUsed places id d → content_of s ≡ content_of d → s.state ≡ st → ((n : Node) → node_in st n ≡ Some n) → node_of s ≡ node_of d
same_node places id s d st used content state some = ap (λ k. node_in k (content_of s)) state ∙ some (content_of s) ∙ ap Some content ∙ sym used.node

-- the mark of a place by its state
pub mark_by : (s : Place) (st : State) (death : ℕ) → s.state ≡ st → s.death ≡ death → mark_of s ≡ mark_in st death
mark_by s st death state dies = ap (λ k. mark_in k s.death) state ∙ ap (mark_in st) dies

-- the lists after a plain place gets onto one, or a place of one gets plain
module _ (places : List Place) (ff fr ft : Option ℕ) (holds : List Hold) (free loose total limit id : ℕ) (s d : Place) (sound : AreSoundLists places ff fr ft holds free loose total limit) (read : d ≡ get_or places id d) where
  fewer_free : id < length places → is_free_place d ≡ false → is_free_place s ≡ false → free ≡ count_by is_free_place (set places id s)
  fewer_free within was now =
      let counted = rw (was, now) at (count-set is_free_place places id s d within read) in omega (arith, sound.counted)

  short : length (set places id s) ≤ limit
  short = omega (arith, length-set places id s, sound.short)

  pub aside_sound : (death : ℕ) (whole : Bool) → id < length places → is_free_place d ≡ false → mark_of d ≡ plain → is_free_place s ≡ false → mark_of s ≡ aside death whole → next_of s ≡ fr → AreSoundLists (set places id s) ff (Some id) ft holds free loose total limit
  aside_sound death whole within was mark now new next = record {
    free_list = list_off next_of is_free_place places ff id s d sound.free_list within read was now;
    aside_list = list_push next_of is_aside_place places fr id s d sound.aside_list within read (ap is_aside mark) (ap is_aside new) next;
    retired_lists = retired_off places ft holds loose total sound.retired_lists id s d read within (ap is_retired mark) (ap is_retired new);
    counted = fewer_free within was now;
    short = short;
    small = sound.small;
  }

  pub retired_sound : (death : ℕ) (whole : Bool) → id < length places → is_free_place d ≡ false → mark_of d ≡ plain → is_free_place s ≡ false → mark_of s ≡ retired death whole → next_of s ≡ ft → AreSoundLists (set places id s) ff fr (Some id) holds free (loose + 1) (total + 1) limit
  retired_sound death whole within was mark now new next = record {
    free_list = list_off next_of is_free_place places ff id s d sound.free_list within read was now;
    aside_list = list_off next_of is_aside_place places fr id s d sound.aside_list within read (ap is_aside mark) (ap is_aside new);
    retired_lists = retired_push places ft holds loose total sound.retired_lists id s d read within (ap is_retired mark) (ap is_retired new) next;
    counted = fewer_free within was now;
    short = short;
    small = sound.small;
  }

  pub unaside_sound : fr ≡ Some id → is_free_place d ≡ false → is_retired_place d ≡ false → is_free_place s ≡ false → mark_of s ≡ plain → AreSoundLists (set places id s) ff (next_of d) ft holds free loose total limit
  unaside_sound is was other now new =
      let pops = list_pop next_of is_aside_place places fr id s d sound.aside_list is read (ap is_aside new) in
      record {
        free_list = list_off next_of is_free_place places ff id s d sound.free_list pops.within read was now;
        aside_list = pops.list;
        retired_lists = retired_off places ft holds loose total sound.retired_lists id s d read pops.within other (ap is_retired new);
        counted = fewer_free pops.within was now;
        short = short;
        small = sound.small;
      }

  pub unretired_sound : ft ≡ Some id → is_free_place d ≡ false → is_aside_place d ≡ false → is_free_place s ≡ false → mark_of s ≡ plain → AreSoundLists (set places id s) ff fr (next_of d) holds free (loose - 1) (total - 1) limit
  unretired_sound is was other now new =
      let pops = retired_pop places ft holds loose total sound.retired_lists id s d is read (ap is_retired new) in
      record {
        free_list = list_off next_of is_free_place places ff id s d sound.free_list pops.within read was now;
        aside_list = list_off next_of is_aside_place places fr id s d sound.aside_list pops.within read other (ap is_aside new);
        retired_lists = pops.lists;
        counted = fewer_free pops.within was now;
        short = short;
        small = sound.small;
      }

  pub freed_sound : id < length places → is_free_place d ≡ false → mark_of d ≡ plain → is_free_place s ≡ true → mark_of s ≡ plain → next_of s ≡ ff → AreSoundLists (set places id s) (Some id) fr ft holds (free + 1) loose total limit
  freed_sound within was mark now new next =
      let counted = rw (was, now) at (count-set is_free_place places id s d within read) in
      record {
        free_list = list_push next_of is_free_place places ff id s d sound.free_list within read was now next;
        aside_list = list_off next_of is_aside_place places fr id s d sound.aside_list within read (ap is_aside mark) (ap is_aside new);
        retired_lists = retired_off places ft holds loose total sound.retired_lists id s d read within (ap is_retired mark) (ap is_retired new);
        counted = omega (arith, sound.counted);
        short = short;
        small = sound.small;
      }

  pub filled_sound : ff ≡ Some id → mark_of d ≡ plain → is_free_place s ≡ false → mark_of s ≡ plain → (0 < free) × AreSoundLists (set places id s) (next_of d) fr ft holds (free - 1) loose total limit
  filled_sound is mark now new =
      let pops = list_pop next_of is_free_place places ff id s d sound.free_list is read now in
      let counted = rw (pops.was, now) at (count-set is_free_place places id s d pops.within read) in (
        omega (arith, sound.counted, pops.some),
        record {
          free_list = pops.list;
          aside_list = list_off next_of is_aside_place places fr id s d sound.aside_list pops.within read (ap is_aside mark) (ap is_aside new);
          retired_lists = retired_off places ft holds loose total sound.retired_lists id s d read pops.within (ap is_retired mark) (ap is_retired new);
          counted = omega (arith, sound.counted);
          short = short;
          small = sound.small;
        },
      )

  -- a plain place is changed, and stays plain
  pub changed_sound : id < length places → is_free_place d ≡ false → mark_of d ≡ plain → is_free_place s ≡ false → mark_of s ≡ plain → AreSoundLists (set places id s) ff fr ft holds free loose total limit
  changed_sound within was mark now new = record {
    free_list = list_off next_of is_free_place places ff id s d sound.free_list within read was now;
    aside_list = list_off next_of is_aside_place places fr id s d sound.aside_list within read (ap is_aside mark) (ap is_aside new);
    retired_lists = retired_off places ft holds loose total sound.retired_lists id s d read within (ap is_retired mark) (ap is_retired new);
    counted = fewer_free within was now;
    short = short;
    small = sound.small;
  }

  -- a plain place gets onto the list of a hold
  pub held_sound : (k : ℕ) → k < length holds → id < length places → is_free_place d ≡ false → mark_of d ≡ plain → is_free_place s ≡ false → is_aside_place s ≡ false → is_kept_for place_kind (hold_at holds k).pin s ≡ true → next_of s ≡ (hold_at holds k).first → AreSoundLists (set places id s) ff fr ft (set holds k (with_node_first (hold_at holds k) id)) free loose (total + 1) limit
  held_sound k lt within was mark now off kept next = record {
    free_list = list_off next_of is_free_place places ff id s d sound.free_list within read was now;
    aside_list = list_off next_of is_aside_place places fr id s d sound.aside_list within read (ap is_aside mark) off;
    retired_lists = retired_hold places ft holds loose total sound.retired_lists id s d read k lt within (ap is_retired mark) kept next;
    counted = fewer_free within was now;
    short = short;
    small = sound.small;
  }
