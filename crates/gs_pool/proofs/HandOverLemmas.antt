-- What is seen of a pool where one list goes onto another, or two change places.
use Rattle.std.proofs.Common.{◌≡◌, ◌≢◌, ℕ, ◌+◌, ◌<◌, ◌≤◌, true, List, map, length, get_or, set, Option, Some, None, refl, sym, ap, subst, ◌∙◌, arith, length-set, true≢false}
use Rattle.std.specs.Prelude.{is_some}
use Rattle.std.proofs.lemmas.List.Edits.{swap_is}
use Rattle.std.proofs.lemmas.List.{length-map, map-set, get_or-set_same, get_or-set_other}
use Rattle.gs_pool.specs.declared.holds.Hold.{Hold}
use Rattle.gs_pool.specs.Pool.{Nodes}
use Rattle.gs_pool.specs.Held.{GivesAll, Exchanges}
use Rattle.gs_pool.specs.Places.{Place, content_of, next_of, mark_in, mark_of}
use Rattle.gs_pool.specs.Pool.{is_retired}
use Rattle.gs_pool.specs.Lists.{place_kind, hold_at, pin_of, hold_count, empty_hold, joined_holds, AreRetired, AreSoundLists}
use Rattle.gs_pool.proofs.HoldLemmas.{total_few}
use Rattle.gs_pool.proofs.JoinLemmas.{few_both, exchanged, handed}
use Rattle.gs_pool.proofs.FollowLemmas.{hold_is, has_last, relinked_sound, counts_at, counts_else, pin_shown, held_shown, pins_kept}

-- where it is not none, there is one
pub some_first : (o : Option ℕ) → is_some o ≡ true → (y : ℕ) × (o ≡ Some y)
some_first None e = absurd (true≢false (sym e))
some_first (Some y) e = (y, refl)

module _ (places : List Place) (ff fr ft : Option ℕ) (holds : List Hold) (free loose total limit k j : ℕ) (h g : Hold) (sound : AreSoundLists places ff fr ft holds free loose total limit) (lt : k < length holds) (to : j < length holds) (apart : k ≢ j) (read : h ≡ get_or holds k h) (at : g ≡ get_or holds j g) where
  from_is : hold_at holds k ≡ h
  from_is = hold_is holds k h lt read

  onto_is : hold_at holds j ≡ g
  onto_is = hold_is holds j g to at

  -- both have no more nodes than there are numbers
  pub few_handed : h.count + g.count ≤ limit
  few_handed = omega (arith, few_both places ft holds loose total sound.retired_lists k j lt to apart, total_few places ft holds loose total sound.retired_lists, ap hold_count from_is, ap hold_count onto_is, sound.short)

  pub exchanged_sound : AreSoundLists places ff fr ft (set (set holds k g) j h) free loose total limit
  exchanged_sound = record {
    free_list = sound.free_list;
    aside_list = sound.aside_list;
    retired_lists = subst (λ a. AreRetired place_kind places ft (set (set holds k g) j a) loose total) from_is
        (subst (λ b. AreRetired place_kind places ft (set (set holds k b) j (hold_at holds k)) loose total) onto_is
        (exchanged places ft holds loose total sound.retired_lists k j lt to apart));
    counted = sound.counted;
    short = sound.short;
    small = sound.small;
  }

  pub handed_sound : (y : ℕ) (s d : Place) → h.first ≡ Some y → h.pin ≡ g.pin → d ≡ get_or places h.last d → content_of s ≡ content_of d → s.state ≡ d.state → s.death ≡ d.death → next_of s ≡ g.first → AreSoundLists (set places h.last s) ff fr ft (set (set holds k (empty_hold h.pin)) j (joined_holds h g)) free loose total limit
  handed_sound y s d is pins there content state dies next =
      let last = has_last places ff fr ft holds free loose total limit k h sound lt read y is in
      let mark : mark_of s ≡ mark_of d = ap (λ t. mark_in t s.death) state ∙ ap (mark_in d.state) dies in
      relinked_sound places ff fr ft ft holds (set (set holds k (empty_hold h.pin)) j (joined_holds h g)) free loose loose total limit sound h.last s d last.within there (last.retired d there) content state dies
      (subst (λ (a : Hold). AreRetired place_kind (set places a.last s) ft (set (set holds k (empty_hold a.pin)) j (joined_holds a g)) loose total) from_is
      (subst (λ (b : Hold). AreRetired place_kind (set places (hold_at holds k).last s) ft (set (set holds k (empty_hold (hold_at holds k).pin)) j (joined_holds (hold_at holds k) b)) loose total) onto_is
      (handed places ft holds loose total sound.retired_lists k j lt to apart y s d
      (ap (λ (o : Hold). o.first) from_is ∙ is)
      (ap pin_of from_is ∙ pins ∙ sym (ap pin_of onto_is))
      (subst (λ (o : Hold). d ≡ get_or places o.last d) (sym from_is) there)
      (ap is_retired mark) (ap (λ n. n.birth) content) dies
      (next ∙ sym (ap (λ (o : Hold). o.first) onto_is)))))

  -- all pins stay where one list goes onto another
  pub pins_handed : map pin_of (set (set holds k (empty_hold h.pin)) j (joined_holds h g)) ≡ map pin_of holds
  pins_handed =
      pins_kept (set holds k (empty_hold h.pin)) j (joined_holds h g) g (at ∙ sym (get_or-set_other holds k j (empty_hold h.pin) g (λ e. apart (sym e)))) refl
      ∙ pins_kept holds k (empty_hold h.pin) h read refl

  -- how many each list has then
  pub counts_handed : (p q : Nodes) → p.held ≡ map hold_count holds → q.held ≡ map hold_count (set (set holds k (empty_hold h.pin)) j (joined_holds h g)) → GivesAll p q k j
  counts_handed p q held now =
      let none = empty_hold h.pin in
      let all = set (set holds k none) j (joined_holds h g) in
      let shown : (i : ℕ) → get_or q.held i 0 ≡ (hold_at all i).count = λ i. ap (λ cs. get_or cs i 0) now ∙ counts_at all i in
      record {
        emptied = shown k ∙ ap hold_count (get_or-set_other (set holds k none) j k (joined_holds h g) (empty_hold None) apart ∙ get_or-set_same holds k none (empty_hold None) lt);
        gets = omega (arith, shown j, ap hold_count (get_or-set_same (set holds k none) j (joined_holds h g) (empty_hold None) (omega (arith, to, length-set holds k none))), held_shown p holds k h held lt read, held_shown p holds j g held to at);
        others = λ i off away. ap (λ cs. get_or cs i 0) now ∙ counts_else (set holds k none) j i (joined_holds h g) away ∙ counts_else holds k i none off ∙ sym (ap (λ cs. get_or cs i 0) held);
      }

  -- the pins, and how many each list has, where two change places
  pub exchanges : (p q : Nodes) → p.pins ≡ map pin_of holds → p.held ≡ map hold_count holds → q.pins ≡ map pin_of (set (set holds k g) j h) → q.held ≡ map hold_count (set (set holds k g) j h) → Exchanges p q k j
  exchanges p q pins held pins_now now =
      let all = set (set holds k g) j h in
      let shown : (i : ℕ) → get_or q.held i 0 ≡ (hold_at all i).count = λ i. ap (λ cs. get_or cs i 0) now ∙ counts_at all i in
      record {
        pins = pins_now ∙ map-set pin_of (set holds k g) j h ∙ ap (λ xs. set xs j h.pin) (map-set pin_of holds k g)
            ∙ ap (λ b. set (set (map pin_of holds) k b) j h.pin) (sym (pin_shown p holds j g pins to at))
            ∙ ap (λ b. set (set (map pin_of holds) k (get_or p.pins j None)) j b) (sym (pin_shown p holds k h pins lt read))
            ∙ ap (λ ps. set (set ps k (get_or p.pins j None)) j (get_or p.pins k None)) (sym pins)
            ∙ swap_is p.pins k j None (omega (arith, lt, ap length pins, length-map holds pin_of)) (omega (arith, to, ap length pins, length-map holds pin_of));
        gives = shown j ∙ ap hold_count (get_or-set_same (set holds k g) j h (empty_hold None) (omega (arith, to, length-set holds k g))) ∙ sym (held_shown p holds k h held lt read);
        gets = shown k ∙ ap hold_count (get_or-set_other (set holds k g) j k h (empty_hold None) apart ∙ get_or-set_same holds k g (empty_hold None) lt) ∙ sym (held_shown p holds j g held to at);
        others = λ i off away. ap (λ cs. get_or cs i 0) now ∙ counts_else (set holds k g) j i h away ∙ counts_else holds k i g off ∙ sym (ap (λ cs. get_or cs i 0) held);
      }
