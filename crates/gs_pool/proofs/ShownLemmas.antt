-- What a pool shows after the first place of a list left it, and after a place more.
use Rattle.std.proofs.Common.{◌≡◌, ℕ, zero, suc, ◌+◌, ◌<◌, true, false, cond, List, [], ◌∷◌, ◌++◌, map, length, get_or, set, Option, Some, None, is_some, count_by, refl, sym, ap, ◌∙◌, arith, length-set, true≢false, eqb}
use Rattle.std.specs.Prelude.{is_none}
use Rattle.std.proofs.lemmas.Bool.{eqb-true, eq-eqb}
use Rattle.std.proofs.lemmas.List.{length-map, length_push, get_or-map, get_or_past}
use Rattle.std.proofs.lemmas.List.Sums.{sum_by_push}
use Rattle.gs_pool.specs.declared.nodes.Node.{Node}
use Rattle.gs_pool.specs.declared.slots.State.TheVariants.{Plain}
use Rattle.gs_pool.specs.Pool.{Nodes, NodeMark, plain, aside, retired, is_aside, is_retired, Fills}
use Rattle.gs_pool.specs.Places.{Place, content_of, next_of, node_in, is_whole, node_of, mark_of, is_free_place, is_aside_place}
use Rattle.gs_pool.specs.declared.holds.Hold.{Hold}
use Rattle.gs_pool.specs.Lists.{place_kind, IsListOf, AreRetired, AreSoundLists}
use Rattle.gs_pool.proofs.ListLemmas.{list_pop, list_more, none_listed}
use Rattle.gs_pool.proofs.MapLemmas.{count_shown, shown_last, shown_push, counted_push}
use Rattle.gs_pool.proofs.StateLemmas.{aside_place, retired_place, free_state}
use Rattle.gs_pool.proofs.RetireLemmas.{retired_pop, retired_more}
use Rattle.gs_pool.proofs.PlaceLemmas.{Relists, relists, writes, mark_by}

-- the place with this mark is plain again
pub record Leaves (places : List Place) (id : ℕ) (s d : Place) (m : NodeMark) : Type 0 where
  pub within : id < length places
  pub shown : get_or (map node_of places) id None ≡ Some (content_of d)
  pub mark : get_or (map mark_of places) id plain ≡ m
  pub was : mark_of d ≡ m
  pub not_free : is_free_place d ≡ false
  pub still_used : is_free_place s ≡ false
  pub now : mark_of s ≡ plain
  pub relists : Relists places id s m plain

leaves : (places : List Place) (id : ℕ) (s d : Place) (m : NodeMark) → id < length places → d ≡ get_or places id d → node_of d ≡ Some (content_of d) → mark_of d ≡ m → content_of s ≡ content_of d → s.state ≡ Plain → s.death ≡ 0 → Leaves places id s d m
leaves places id s d m within read node was content state dies =
    let same : node_of s ≡ node_of d = ap (λ k. node_in k (content_of s)) state ∙ ap Some content ∙ sym node in
    let now = mark_by s Plain 0 state dies in
    let not_free : is_free_place d ≡ false = ap is_none node in
    record {
      within = within;
      shown = get_or-map node_of places id d None within ∙ ap node_of (sym read) ∙ node;
      mark = get_or-map mark_of places id d plain within ∙ ap mark_of (sym read) ∙ was;
      was = was;
      not_free = not_free;
      still_used = ap is_none same ∙ not_free;
      now = now;
      relists = relists places id s d m plain within read same was now;
    }

pub leaves_aside : (places : List Place) (first : Option ℕ) (id : ℕ) (s d : Place) → IsListOf next_of is_aside_place places first → first ≡ Some id → d ≡ get_or places id d → content_of s ≡ content_of d → s.state ≡ Plain → s.death ≡ 0 → Leaves places id s d (aside d.death (is_whole d.state))
leaves_aside places first id s d list is read content state dies =
    let pops = list_pop next_of is_aside_place places first id s d list is read (ap is_aside (mark_by s Plain 0 state dies)) in
    let was = aside_place d.state d.death (content_of d) pops.was in
    leaves places id s d (aside d.death (is_whole d.state)) pops.within read was.1 was.0 content state dies

pub leaves_retired : (places : List Place) (first : Option ℕ) (holds : List Hold) (loose total id : ℕ) (s d : Place) → AreRetired place_kind places first holds loose total → first ≡ Some id → d ≡ get_or places id d → content_of s ≡ content_of d → s.state ≡ Plain → s.death ≡ 0 → Leaves places id s d (retired d.death (is_whole d.state))
leaves_retired places first holds loose total id s d lists is read content state dies =
    let pops = retired_pop places first holds loose total lists id s d is read (ap is_retired (mark_by s Plain 0 state dies)) in
    let was = retired_place d.state d.death (content_of d) pops.was in
    leaves places id s d (retired d.death (is_whole d.state)) pops.within read was.1 was.0 content state dies

-- all marks stay where a place keeps its mark
pub marks_kept : (places : List Place) (id : ℕ) (s d : Place) → d ≡ get_or places id d → mark_of s ≡ mark_of d → map mark_of (set places id s) ≡ map mark_of places
marks_kept places id s d read same = Rattle.std.proofs.Math.Seq.map-set_same mark_of places id s d (same ∙ ap mark_of read)

-- there are as many numbers after a place is written
pub numbers_kept : (places : List Place) (id : ℕ) (s : Place) → length (map node_of (set places id s)) ≡ length (map node_of places)
numbers_kept places id s = length-map (set places id s) node_of ∙ length-set places id s ∙ sym (length-map places node_of)

-- a number that is free has no mark
pub free_is_unmarked : (places : List Place) (id : ℕ) → get_or (map node_of places) id None ≡ None → get_or (map mark_of places) id plain ≡ plain
free_is_unmarked [] id h = refl
free_is_unmarked (s ∷ places) zero h = (free_state s.state s.death (content_of s) (ap is_none h)).0
free_is_unmarked (s ∷ places) (suc id) h = free_is_unmarked places id h

-- the first free place gets a node
pub record Filled (places : List Place) (id limit : ℕ) (s d : Place) (n : Node) : Type 0 where
  pub within : id < length places
  pub was : is_free_place d ≡ true
  pub mark : mark_of d ≡ plain
  pub fills : (old new : Nodes) → old.nodes ≡ map node_of places → old.marks ≡ map mark_of places → new.nodes ≡ map node_of (set places id s) → new.marks ≡ map mark_of (set places id s) → new.limit ≡ limit → Fills old new id n
  pub fewer : count_by is_none (map node_of (set places id s)) + 1 ≡ count_by is_none (map node_of places)

pub filled : (places : List Place) (ff fr ft : Option ℕ) (holds : List Hold) (free loose total limit id : ℕ) (s d : Place) (n : Node) → AreSoundLists places ff fr ft holds free loose total limit → ff ≡ Some id → d ≡ get_or places id d → node_of s ≡ Some n → mark_of s ≡ plain → Filled places id limit s d n
filled places ff fr ft holds free loose total limit id s d n sound is read node mark =
    let pops = list_pop next_of is_free_place places ff id s d sound.free_list is read (ap is_none node) in
    let was = free_state d.state d.death (content_of d) pops.was in
    let w = writes places id s d pops.within read in
    let kept = marks_kept places id s d read (mark ∙ sym was.0) in
    let used = rw (ap is_some was.1, ap is_some node) at w.used in
    let fewer = rw (pops.was, ap is_none node) at w.free in
    record {
      within = pops.within;
      was = pops.was;
      mark = was.0;
      fills = λ old new old_nodes old_marks new_nodes new_marks limits. record {
        was_free = rw old_nodes (get_or-map node_of places id d None pops.within ∙ ap node_of (sym read) ∙ was.1);
        updates = record {
          changed = rw new_nodes (w.node ∙ node);
          others = λ x ne. rw (new_nodes, old_nodes) (w.node_others x ne);
        };
        plain_now = rw new_marks (w.mark ∙ mark);
        marks = λ x. ap (λ ms. get_or ms x plain) (new_marks ∙ kept ∙ sym old_marks);
        below = omega (arith, limits, sound.short, pops.within);
        in_use = rw (new_nodes, old_nodes) (omega arith);
        aside = ap (count_by is_aside) (new_marks ∙ kept ∙ sym old_marks);
        retired = ap (count_by is_retired) (new_marks ∙ kept ∙ sym old_marks);
        reuses = λ some. rw (new_nodes, old_nodes) (omega (arith, length-map (set places id s) node_of, length-map places node_of, w.len));
        grows = λ full. let none : count_by is_none (map node_of places) ≡ 0 = rw old_nodes at full in absurd (omega (arith, fewer));
      };
      fewer = omega arith;
    }

-- a place more gets a node
pub record Pushed (places : List Place) (limit : ℕ) (s : Place) (n : Node) : Type 0 where
  pub fills : (old new : Nodes) → old.nodes ≡ map node_of places → old.marks ≡ map mark_of places → new.nodes ≡ map node_of (places ++ s ∷ []) → new.marks ≡ map mark_of (places ++ s ∷ []) → new.limit ≡ limit → Fills old new (length places) n
  pub free : count_by is_none (map node_of (places ++ s ∷ [])) ≡ 0

pub pushed : (places : List Place) (ff fr ft : Option ℕ) (holds : List Hold) (free loose total limit : ℕ) (s : Place) (n : Node) → AreSoundLists places ff fr ft holds free loose total limit → ff ≡ None → length places < limit → node_of s ≡ Some n → mark_of s ≡ plain → Pushed places limit s n
pushed places ff fr ft holds free loose total limit s n sound none room node mark =
    let full : count_by is_none (map node_of places) ≡ 0 = count_shown is_none node_of places ∙ none_listed next_of is_free_place places ff sound.free_list none in
    let same : (x : ℕ) → get_or (map mark_of (places ++ s ∷ [])) x plain ≡ get_or (map mark_of places) x plain = λ x. elim (eqb x (length places)) as (λ b. eqb x (length places) ≡ b → get_or (map mark_of (places ++ s ∷ [])) x plain ≡ get_or (map mark_of places) x plain) [
      | true ↦ λ e.
          let at : x ≡ length places = eqb-true x (length places) e in
          rw at (shown_last mark_of plain places s ∙ mark) ∙ sym (get_or_past (map mark_of places) x plain (omega (arith, length-map places mark_of)))
      | false ↦ λ e. shown_push mark_of plain places s x (λ f. true≢false (sym (eq-eqb x (length places) f) ∙ e))
    ] refl in
    let used = rw (ap is_some node) at (counted_push is_some node_of places s) in
    let free_after = rw (ap is_none node) at (counted_push is_none node_of places s) in
    let aside_after = rw (ap is_aside mark) at (counted_push is_aside mark_of places s) in
    let retired_after = rw (ap is_retired mark) at (counted_push is_retired mark_of places s) in
    record {
      fills = λ old new old_nodes old_marks new_nodes new_marks limits. record {
        was_free = rw old_nodes (get_or_past (map node_of places) (length places) None (omega (arith, length-map places node_of)));
        updates = record {
          changed = rw new_nodes (shown_last node_of None places s ∙ node);
          others = λ x ne. rw (new_nodes, old_nodes) (shown_push node_of None places s x ne);
        };
        plain_now = rw new_marks (shown_last mark_of plain places s ∙ mark);
        marks = λ x. rw (new_marks, old_marks) (same x);
        below = omega (arith, limits, room);
        in_use = rw (new_nodes, old_nodes) (omega arith);
        aside = rw (new_marks, old_marks) (omega arith);
        retired = rw (new_marks, old_marks) (omega arith);
        grows = λ _. rw (new_nodes, old_nodes) (omega (arith, length-map (places ++ s ∷ []) node_of, length-map places node_of, length_push places s));
        reuses = λ some. let has : 0 < count_by is_none (map node_of places) = rw old_nodes at some in absurd (omega arith);
      };
      free = omega arith;
    }

pub pushed_sound : (places : List Place) (ff fr ft : Option ℕ) (holds : List Hold) (free loose total limit : ℕ) (s : Place) (n : Node) → AreSoundLists places ff fr ft holds free loose total limit → length places < limit → node_of s ≡ Some n → mark_of s ≡ plain → AreSoundLists (places ++ s ∷ []) ff fr ft holds free loose total limit
pushed_sound places ff fr ft holds free loose total limit s n sound room node mark =
    let counted = rw (ap is_none node) at (sum_by_push (λ p. cond (is_free_place p) 1 0) places s) in
    record {
      free_list = list_more next_of is_free_place places ff s sound.free_list (ap is_none node);
      aside_list = list_more next_of is_aside_place places fr s sound.aside_list (ap is_aside mark);
      retired_lists = retired_more places ft holds loose total s sound.retired_lists (ap is_retired mark);
      counted = omega (arith, sound.counted);
      short = omega (arith, length_push places s);
      small = sound.small;
    }
