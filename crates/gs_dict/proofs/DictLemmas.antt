-- What stays true of a dictionary, as texts move, come and go.
use Rattle.std.proofs.Common.{◌≡◌, ◌≢◌, ◌⊎◌, ℕ, ◌+◌, ◌-◌, ◌<◌, ◌≤◌, ◌^◌, max, List, [], ◌++◌, length, take, drop, ap, sym, ◌∙◌, subst, refl, inl, inr, arith, get_or, is_some, nat_lt, Bool, true, false, Option, Some, None}
use Rattle.std.proofs.lemmas.Bool.{cases_eq, cases_lt}
use Rattle.std.proofs.lemmas.List.{take-append-le, take_all}
use Rattle.std.proofs.lemmas.Bool.Decides.{nat_tests}
use Rattle.std.specs.Option.{IfSome, IfNone}
use Rattle.std.specs.declared.hash.FoldHasher.{FoldHasher}
use Rattle.gs_model.specs.Limits.{last_term}
use Rattle.gs_model.specs.Terms.{Term, text_of, IsTerm}
use Rattle.gs_model.specs.Texts.{IsCanonical}
use Rattle.gs_model.proofs.TextLemmas.{term_of-text_of}
use Rattle.gs_dict.specs.declared.chains.Entry.{Entry}
use Rattle.gs_dict.specs.Chains.{IsChained, IsLinked, IsTable, AreInBlocks, AreEnough, EntryHas, Meets, KeepsTexts, KeepsOtherTexts, dict_entry_at, text_at, bucket_of, bucket_at, link_after}
use Rattle.gs_dict.specs.Numbering.{Numbered, term_given, GivesNumber}
use Rattle.gs_dict.specs.Kept.{IsDict, IsEmptyNumber, GivesText, hash_of, given_by_text, terms_of}
use Rattle.gs_dict.proofs.EmptyLemmas.{empty_at, canonical_some}
use Rattle.gs_dict.proofs.TermLemmas.{shown, length-terms_of, get-terms_of, past_none, free_none, text_number, new_term, terms_kept}

-- chains are the same where buckets and links are
chained_same :
    (n : ℕ) (b b' next next' head : ℕ → ℕ) → IsChained n b next head → ((i : ℕ) → i < n → b' i ≡ b i) → ((i : ℕ) → i < n → next' i ≡ next i)
    → IsChained n b' next' head
chained_same n b b' next next' head h same_b same_next = record {
  head_given = h.head_given;
  head_there = λ k some. let below : head k - 1 < n = omega (arith, h.head_given k) in same_b (head k - 1) below ∙ h.head_there k some;
  head_greatest = λ j below. omega (arith, h.head_greatest j below, ap head (same_b j below));
  next_below = λ i below. omega (arith, same_next i below, h.next_below i below);
  next_there = λ i below some.
      let was : 0 < next i = omega (arith, same_next i below) in
      let before : next i - 1 < n = omega (arith, h.next_below i below) in
      ap (λ k. b' (k - 1)) (same_next i below) ∙ (same_b (next i - 1) before ∙ (h.next_there i below was ∙ sym (same_b i below)));
  next_greatest = λ i j below under same.
      let before : j < n = omega arith in
      omega (arith, same_next i below, h.next_greatest i j below under (sym (same_b j before) ∙ (same ∙ same_b i below)));
}

-- a table is one with other places, where hashes and links are the same
pub table_placed :
    (blocks later : List (List ℕ)) (es fs : List Entry) (heads : List ℕ) → IsTable blocks es heads → AreInBlocks later fs → length fs ≡ length es
    → ((i : ℕ) → i < length es → (dict_entry_at fs i).hash ≡ (dict_entry_at es i).hash) → ((i : ℕ) → link_after fs i ≡ link_after es i)
    → IsTable later fs heads
table_placed blocks later es fs heads table placed count hashes links =
    let N : ℕ → Type 0 = λ n. IsLinked n fs heads in
    record {
      linked = subst N (sym count)
          (chained_same (length es) (bucket_at (length heads) es) (bucket_at (length heads) fs) (link_after es) (link_after fs) (λ k. get_or heads k 0) table.linked
          (λ i inside. ap (bucket_of (length heads)) (hashes i inside)) (λ i inside. links i));
      placed = placed;
      enough = record { some = table.enough.some; power = table.enough.power; short = omega (arith, table.enough.short, count) };
    }

-- a dictionary where some numbers lost their text, and the others kept theirs
pub dict_loses :
    (blocks later : List (List ℕ)) (es fs : List Entry) (heads links : List ℕ) (s : FoldHasher) (last : ℕ) → IsDict blocks es heads s last
    → IsTable later fs links → length fs ≡ length es
    → ((i : ℕ) → i < length es → (text_at later fs i ≡ []) ⊎ (text_at later fs i ≡ text_at blocks es i))
    → ((i : ℕ) → i < length es → (dict_entry_at fs i).hash ≡ (dict_entry_at es i).hash) → IsDict later fs links s last
dict_loses blocks later es fs heads links s last d table count texts hashes =
    let inside : (i : ℕ) → i < length fs → i < length es = λ i p. omega arith in
    let kept : (i : ℕ) → i < length fs → text_at later fs i ≢ [] → text_at later fs i ≡ text_at blocks es i =
    λ i p some. elim (texts i (inside i p)) [ inl empty ↦ absurd (some empty) | inr same ↦ same ] in
    let was : (i : ℕ) → i < length fs → text_at later fs i ≢ [] → text_at blocks es i ≢ [] = λ i p some empty. some (kept i p some ∙ empty) in
    let P : List ℕ → Type 0 = λ x. IsCanonical x in
    record {
      table = table;
      canonical = λ i p some. subst P (sym (kept i p some)) (d.canonical i (inside i p) (was i p some));
      hashed = λ i p some. hashes i (inside i p) ∙ (d.hashed i (inside i p) (was i p some) ∙ ap (hash_of s) (sym (kept i p some)));
      apart = λ i j p q some e.
          let other : text_at later fs j ≢ [] = λ empty. some (e ∙ empty) in
          d.apart i j (inside i p) (inside j q) (was i p some) (sym (kept i p some) ∙ (e ∙ kept j q other));
      few = omega (arith, d.few, count);
      bounded = d.bounded;
    }

-- a dictionary whose texts were all kept
pub dict_kept :
    (blocks later : List (List ℕ)) (es fs : List Entry) (heads links : List ℕ) (s : FoldHasher) (last : ℕ) → IsDict blocks es heads s last
    → IsTable later fs links → KeepsTexts blocks es later fs → length fs ≡ length es → IsDict later fs links s last
dict_kept blocks later es fs heads links s last d table kept count =
    dict_loses blocks later es fs heads links s last d table count (λ i p. inr (kept.text_same i p)) kept.hash_same

-- the text of a term is canonical
pub canonical_text : (t : Term) → IsTerm t → IsCanonical (text_of t)
canonical_text t valid = record {
  canonical = ap text_of (term_of-text_of t);
  valid = let P : Term → Type 0 = λ u. IsTerm u in subst P (sym (term_of-text_of t)) valid;
}

module _ (blocks later : List (List ℕ)) (es fs : List Entry) (heads links : List ℕ) (s : FoldHasher) (last n : ℕ) (x : List ℕ)
    (d : IsDict blocks es heads s last) (given : GivesText blocks es (hash_of s x) x n later fs) where
  -- a number that is not the given one was there
  was_there : (i : ℕ) → i < length fs → i ≢ n → i < length es
  was_there i p other = omega (arith, given.count, given.within)

  -- where no number had the text, none but the given one has it
  only_given : IsCanonical x → Meets blocks es (hash_of s x) x None → (i : ℕ) → i < length fs → i ≢ n → text_at later fs i ≢ x
  only_given canonical none i p other e =
      let inside : i < length es = was_there i p other in
      let same : text_at blocks es i ≡ x = sym (given.others.text_same i inside other) ∙ e in
      let some : text_at blocks es i ≢ [] = λ empty. canonical_some x canonical (sym same ∙ empty) in
      none i inside (d.hashed i inside some ∙ ap (hash_of s) same, same)

  -- a dictionary where a number was given a text that none had
  pub dict_given : IsTable later fs links → IsCanonical x → Meets blocks es (hash_of s x) x None → n ≤ last → IsDict later fs links s last
  dict_given table canonical none room =
      let P : List ℕ → Type 0 = λ y. IsCanonical y in
      let here : (i : ℕ) → i ≡ n → text_at later fs i ≡ x = λ i at. ap (text_at later fs) at ∙ given.has.1 in
      let same : (i : ℕ) → i < length fs → i ≢ n → text_at later fs i ≡ text_at blocks es i =
      λ i p other. given.others.text_same i (was_there i p other) other in
      let was : (i : ℕ) → i < length fs → i ≢ n → text_at later fs i ≢ [] → text_at blocks es i ≢ [] =
      λ i p other some empty. some (same i p other ∙ empty) in
      record {
        table = table;
        canonical = λ i p some. elim (cases_eq i n) [
          | inl at ↦ subst P (sym (here i at)) canonical
          | inr other ↦ subst P (sym (same i p other)) (d.canonical i (was_there i p other) (was i p other some))
        ];
        hashed = λ i p some. elim (cases_eq i n) [
          | inl at ↦ ap (λ k. (dict_entry_at fs k).hash) at ∙ (given.has.0 ∙ ap (hash_of s) (sym (here i at)))
          | inr other ↦
              given.others.hash_same i (was_there i p other) other
              ∙ (d.hashed i (was_there i p other) (was i p other some) ∙ ap (hash_of s) (sym (same i p other)))
        ];
        apart = λ i j p q some e. elim (cases_eq i n) [
          | inl at_i ↦ elim (cases_eq j n) [
            | inl at_j ↦ at_i ∙ sym at_j
            | inr other ↦ absurd (only_given canonical none j q other (sym e ∙ here i at_i))
          ]
          | inr other_i ↦ elim (cases_eq j n) [
            | inl at_j ↦ absurd (only_given canonical none i p other_i (e ∙ here j at_j))
            | inr other_j ↦
                d.apart i j (was_there i p other_i) (was_there j q other_j) (was i p other_i some) (sym (same i p other_i) ∙ (e ∙ same j q other_j))
          ]
        ];
        few = omega (arith, given.count, room, d.few);
        bounded = d.bounded;
      }

-- each number but the given one has what it had
others_same :
    (blocks later : List (List ℕ)) (es fs : List Entry) (hash : ℕ) (x : List ℕ) (n m : ℕ) → GivesText blocks es hash x n later fs → m ≢ n
    → term_given (terms_of later fs) m ≡ term_given (terms_of blocks es) m
others_same blocks later es fs hash x n m given other = elim (cases_lt m (length es)) [
  | inl inside ↦
      let still : m < length fs = omega (arith, given.count) in
      get-terms_of later fs m still ∙ (ap given_by_text (given.others.text_same m inside other) ∙ sym (get-terms_of blocks es m inside))
  | inr past ↦
      let beyond : length fs ≤ m = omega (arith, given.count, given.within) in
      past_none later fs m beyond ∙ sym (past_none blocks es m past)
]

-- a term is given a number by its text
number_given :
    (blocks later : List (List ℕ)) (es fs : List Entry) (hash last n : ℕ) (t : Term) → GivesText blocks es hash (text_of t) n later fs
    → n ≤ last → ((m : ℕ) → term_given (terms_of blocks es) m ≢ Some t) → GivesNumber (shown blocks es last) t n (shown later fs last)
number_given blocks later es fs hash last n t given room absent =
    let there : n < length fs = omega (arith, given.count) in
    record {
      absent = absent;
      free = free_none blocks es n given.free;
      within = room;
      given = text_number later fs n t there given.has.1;
      others = λ m other. others_same blocks later es fs hash (text_of t) n m given other;
      used = λ m below. elim (cases_eq m n) [
        | inl at ↦ inr at
        | inr other ↦ inl (omega (arith, below, length-terms_of later fs, length-terms_of blocks es, given.count, given.within))
      ];
      last = refl;
    }

not_less : (m n : ℕ) → nat_lt m n ≡ false → n ≤ m
not_less m n h = grind (arith, nat_tests)

-- the number that is given is not past the last: one that had no text is none of those, and the next one where not all are given
pub room_left :
    (empty : Option ℕ) (full : Bool) (n l m last : ℕ) → IfSome empty (λ k. m ≡ l) → (full ≡ false) ⊎ (is_some empty ≡ true) → full ≡ nat_lt last l
    → m ≡ max l (n + 1) → n ≤ l → l ≤ last + 1 → n ≤ last
room_left None full n l m last same (inl not) decides count within few = omega (arith, not_less last l (sym decides ∙ not), within)
room_left None full n l m last same (inr some) decides count within few = absurd (cc)
room_left (Some k) full n l m last same room decides count within few = omega (arith, same, count, few)

-- and where it is the next one, there are fewer than 2 ^ 32
pub next_fits :
    (empty : Option ℕ) (full : Bool) (l last : ℕ) → (full ≡ false) ⊎ (is_some empty ≡ true) → full ≡ nat_lt last l → last ≤ last_term
    → IfNone empty (l + 1 < 2 ^ 32)
next_fits None full l last (inl not) decides small = omega (arith, not_less last l (sym decides ∙ not))
next_fits None full l last (inr some) decides small = absurd (cc)
next_fits (Some k) full l last room decides small = tt

-- whether all numbers are given, by the entries
pub full_by_entries :
    (blocks : List (List ℕ)) (es : List Entry) (last : ℕ) (d : Numbered) (full : Bool) → shown blocks es last ≡ d
    → full ≡ nat_lt d.last (length d.terms) → full ≡ nat_lt last (length es)
full_by_entries blocks es last d full is decides =
    decides ∙ (ap (λ (e : Numbered). nat_lt e.last (length e.terms)) (sym is) ∙ ap (nat_lt last) (length-terms_of blocks es))

-- a new term, with the number that its text was given
pub joined :
    (blocks later : List (List ℕ)) (es fs : List Entry) (heads links : List ℕ) (s : FoldHasher) (last : ℕ) (t : Term) (x : List ℕ) (h n : ℕ)
    → IsDict blocks es heads s last → IsTerm t → x ≡ text_of t → h ≡ hash_of s x → Meets blocks es (hash_of s (text_of t)) (text_of t) None
    → IsTable later fs links → GivesText blocks es h x n later fs → n ≤ last
    → IsDict later fs links s last × GivesNumber (shown blocks es last) t n (shown later fs last)
joined blocks later es fs heads links s last t x h n d valid text hash none table gives room =
    let H : ℕ → Type 0 = λ k. GivesText blocks es k x n later fs in
    let X : List ℕ → Type 0 = λ z. GivesText blocks es (hash_of s z) z n later fs in
    let given : GivesText blocks es (hash_of s (text_of t)) (text_of t) n later fs = subst X text (subst H hash gives) in (
      dict_given blocks later es fs heads links s last n (text_of t) d given table (canonical_text t valid) none room,
      number_given blocks later es fs (hash_of s (text_of t)) last n t given room (new_term blocks es heads s last d t none),
    )

-- a dictionary whose texts were moved, and what it shows
pub dict_moved :
    (blocks later : List (List ℕ)) (e es fs : List Entry) (heads : List ℕ) (s : FoldHasher) (last : ℕ) → IsDict blocks es heads s last → e ≡ es
    → AreInBlocks later fs → KeepsTexts blocks e later fs → ((i : ℕ) → link_after fs i ≡ link_after e i) → length fs ≡ length e
    → IsDict later fs heads s last × (shown later fs last ≡ shown blocks es last)
dict_moved blocks later e es fs heads s last d same placed kept links count =
    let D : List Entry → Type 0 = λ z. IsDict blocks z heads s last in
    let was : IsDict blocks e heads s last = subst D (sym same) d in (
      dict_kept blocks later e fs heads heads s last was (table_placed blocks later e fs heads was.table placed count kept.hash_same links) kept count,
      ap (λ ts. record { terms = ts; last = last }) (terms_kept blocks later e fs kept count) ∙ ap (λ z. shown blocks z last) same,
    )

-- a list of so many items, after all of them were written
pub written : {X : Type 0} (n : ℕ) (new old : List X) → length new ≡ n → take n (new ++ drop (length new) old) ≡ new
written n new old is = take-append-le n new (drop (length new) old) (omega (arith, is)) ∙ take_all n new (omega (arith, is))

-- a number without a text that is given one
pub given_as :
    (blocks later : List (List ℕ)) (e es fs : List Entry) (hash : ℕ) (x : List ℕ) (n : ℕ) → e ≡ es → IsEmptyNumber es n
    → KeepsOtherTexts n blocks e later fs → EntryHas later fs n hash x → length fs ≡ length e → GivesText blocks es hash x n later fs
given_as blocks later e es fs hash x n same empty others has count =
    let K : List Entry → Type 0 = λ z. KeepsOtherTexts n blocks z later fs in
    record {
      within = omega (arith, empty.0);
      free = λ inside. empty_at blocks es n empty.1;
      count = omega (arith, count, empty.0, ap length same);
      others = subst K same others;
      has = has;
    }

-- one without terms
pub dict_empty :
    (blocks : List (List ℕ)) (heads : List ℕ) (s : FoldHasher) (last : ℕ) → ((b : ℕ) → get_or heads b 0 ≡ 0) → AreEnough (length heads) 0
    → last ≤ last_term → IsDict blocks [] heads s last
dict_empty blocks heads s last empty enough bounded = record {
  table = record {
    linked = record {
      head_given = λ b. omega (arith, empty b);
      head_there = λ b p. absurd (omega (arith, empty b));
      head_greatest = λ j p. absurd (omega arith);
      next_below = λ i p. absurd (omega arith);
      next_there = λ i p q. absurd (omega arith);
      next_greatest = λ i j p q r. absurd (omega arith);
    };
    placed = record { lies = λ i p. absurd (omega arith) };
    enough = enough;
  };
  canonical = λ i p some. absurd (omega arith);
  hashed = λ i p some. absurd (omega arith);
  apart = λ i j p q some e. absurd (omega arith);
  few = omega arith;
  bounded = bounded;
}
