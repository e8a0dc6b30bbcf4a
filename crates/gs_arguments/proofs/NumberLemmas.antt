-- What clap finds for `--workers` and `--piece` passed its range, and is read as the number that it says.
use Rattle.std.proofs.Common.{◌≡◌, ◌∙◌, ◌<◌, ◌^◌, ℕ, List, [], ◌∷◌, Option, Some, None, Bool, true, false, refl, sym, ap, subst, inl, inr, arith, length, map, codes, cond, ◌==◌, zero, suc, true≢false, eqb-true, not, Result}
use Rattle.std.specs.Prelude.{pos, IfSome, MatchOption, option_map, option_and_then, slice_get, unwrap_or}
use Rattle.std.specs.Str.Parse.{ParsesUnsigned, ExplainsUnsignedError, HasUnsignedDigitsIfOk, starts_with_minus}
use Rattle.std.specs.declared.num.ParseIntError.{ParseIntError}
use Rattle.std.proofs.lemmas.Int.{ints}
use Rattle.std.proofs.lemmas.List.{get_or-map, length-map}
use Rattle.std.specs.Borrow.{Bor}
use Rattle.std.specs.List.{All, slice_index_or}
use Rattle.std.specs.Str.{bytes_eq}
use Rattle.std.proofs.lemmas.List.Elements.{All-get_or}
use Rattle.std.proofs.lemmas.Slice.Eq.{bytes_eq-Decides}
use Rattle.clap.specs.Words.{App, Rule, Text, app_of, args_of, groups_of, first_value, one_text, found_of, matched_of, read_as, reading_of, rule_of, Accepts, IsSignedIn, IsParsedFrom, without_minus, ReadsOne}
use Rattle.clap.specs.Walk.{is_empty}
use Rattle.clap.specs.Simple.{has_plain_fields}
use Rattle.clap.proofs.WalkLemmas.{both}
use Rattle.clap.specs.Facts.{Entry, EntryPasses, HasReading, PassesArg, ValuesPass, parser_of, parser_of_value}
use Rattle.clap.specs.declared.builder.arg.Arg.{Arg}
use Rattle.clap.specs.declared.builder.command.Command.{Command}
use Rattle.clap.specs.declared.builder.command.Command.TheViews.{out-Command}
use Rattle.clap.specs.declared.builder.value_parser.Reading.{Reading}
use Rattle.clap.specs.declared.builder.value_parser.Reading.TheVariants.{WithoutMinus}
use Rattle.clap.specs.declared.builder.value_parser.ValueParser.TheVariants as vp
use Rattle.clap.specs.declared.parser.matches.ArgMatches.{ArgMatches}
use Rattle.clap.specs.declared.parser.matches.Found.{Found}
use Rattle.clap.specs.declared.parser.matches.MatchedArg.{MatchedArg}
use Rattle.clap.proofs.CallerLemmas.{entry_by_id, same_rules_by_id}
use Rattle.gs_arguments.specs.Options.{ReadsNumber, ReadsWorkers, ReadsPiece, gsd, listen, once, base, workers, piece}
use Rattle.gs_arguments.specs.Asked.{SaysOptionNumber}

-- ---- the text

plain_text : (t : Text) → starts_with_minus t ≡ false → without_minus t ≡ t
plain_text [] h = refl
plain_text (x ∷ xs) h = go (x == 45) h
  where
    go : (b : Bool) → b ≡ false → unwrap_or (cond b (Some xs) None) (x ∷ xs) ≡ x ∷ xs
    go true e = absurd (cc)
    go false e = refl

-- a text of a number from 1 on begins with no minus
no_minus : (most : ℕ) (t : Text) → IsSignedIn (pos 1) (pos most) t → starts_with_minus t ≡ false
no_minus most t h = go (starts_with_minus t) refl
  where
    go : (b : Bool) → starts_with_minus t ≡ b → b ≡ false
    go true e =
        let low = rw e at h.2 in
        absurd (omega (arith, ints))
    go false e = refl

-- what `parse` gives of a text, at an unsigned type of so many bits
abbrev pub Parses : ℕ → List ℕ → Result ℕ ParseIntError → Type 0
Parses bits bs r = ParsesUnsigned bits 10 bs r × ExplainsUnsignedError 10 bs r × HasUnsignedDigitsIfOk bs r

none_found : (f : Found) (id : Text) → first_value f id ≡ None → one_text f id ≡ None
none_found f id h = go (matched_of f id) h
  where
    at : (a : MatchedArg) (vs : List (Bor (List ℕ))) → option_map (λ s. s.now) (slice_get vs 0) ≡ None → option_map (λ s. read_as a.reading s.now) (slice_get vs 0) ≡ None
    at a [] e = refl
    at a (v ∷ vs) e = absurd (cc)

    go : (o : Option MatchedArg) → option_and_then (λ a. option_map (λ s. s.now) (slice_get a.vals.items 0)) o ≡ None
        → option_and_then (λ a. option_map (λ s. read_as a.reading s.now) (slice_get a.vals.items 0)) o ≡ None
    go None e = refl
    go (Some a) e = at a a.vals.items e

module _ (bits most : ℕ) (id : Text) (fits : most < 2 ^ bits) where
  number_of : (f : Found) (t : Text) (r : Option ℕ) → first_value f id ≡ Some t → ReadsOne (Parses bits) t r → IsSignedIn (pos 1) (pos most) t
      → MatchOption r (first_value f id ≡ None) (SaysOptionNumber id most f)
  number_of f t (Some v) found read passed =
      let minus = no_minus most t passed in
      let low = rw minus at passed.2 in
      let high = rw minus at passed.3 in
      (t, found, read.0.1, omega (arith, ints, read.0.1), omega (arith, ints, read.0.1))
  number_of f t None found read passed =
      let minus = no_minus most t passed in
      let low = rw minus at passed.2 in
      let high = rw minus at passed.3 in
      let numeral = rw minus at passed.0 in
      absurd (read.1.0 (numeral, omega (arith, ints)))

  -- what is read of an option is the number that its text says
  pub number_read : (f : Found) (r : Option ℕ) → ReadsNumber id most f → (one_text f id ≡ None → r ≡ None)
      → ((t : Text) → one_text f id ≡ Some t → ReadsOne (Parses bits) t r) → MatchOption r (first_value f id ≡ None) (SaysOptionNumber id most f)
  number_read f r reads none some = go (first_value f id) refl reads
    where
      go : (o : Option Text) → first_value f id ≡ o → IfSome o (λ text. (one_text f id ≡ Some text) × IsSignedIn (pos 1) (pos most) text)
          → MatchOption r (first_value f id ≡ None) (SaysOptionNumber id most f)
      go None e h = rw (none (none_found f id e)) e
      go (Some t) e h = number_of f t r e (some t h.0) h.1

-- ---- the options

-- those of the program, in turn
abbrev ours : List Rule
ours = listen ∷ once ∷ base ∷ workers ∷ piece ∷ []

-- the k-th of them, and no other, has this name, and it takes whole numbers from 1 to the greatest
record IsNumberAt (k : ℕ) (id : Text) (most : ℕ) : Type 0 where
  below : k < 5
  name : (r : Rule) → (slice_index_or ours k r).id ≡ id
  parser : (r : Rule) → (slice_index_or ours k r).parser ≡ Some (vp.Signed (pos 1) (pos most))
  alone : (j : ℕ) (r : Rule) → j < 5 → bytes_eq (slice_index_or ours j r).id id ≡ true → j ≡ k
  own : bytes_eq id id ≡ true
  some : bytes_eq id [] ≡ false
  not_help : bytes_eq id (codes "help") ≡ false
  not_version : bytes_eq id (codes "version") ≡ false

workers_alone : (j : ℕ) (r : Rule) → j < 5 → bytes_eq (slice_index_or ours j r).id (codes "workers") ≡ true → j ≡ 3
workers_alone zero r lt same = absurd (true≢false (sym same))
workers_alone (suc zero) r lt same = absurd (true≢false (sym same))
workers_alone (suc (suc zero)) r lt same = absurd (true≢false (sym same))
workers_alone (suc (suc (suc zero))) r lt same = refl
workers_alone (suc (suc (suc (suc zero)))) r lt same = absurd (true≢false (sym same))
workers_alone (suc (suc (suc (suc (suc j))))) r lt same = absurd (omega arith)

piece_alone : (j : ℕ) (r : Rule) → j < 5 → bytes_eq (slice_index_or ours j r).id (codes "piece") ≡ true → j ≡ 4
piece_alone zero r lt same = absurd (true≢false (sym same))
piece_alone (suc zero) r lt same = absurd (true≢false (sym same))
piece_alone (suc (suc zero)) r lt same = absurd (true≢false (sym same))
piece_alone (suc (suc (suc zero))) r lt same = absurd (true≢false (sym same))
piece_alone (suc (suc (suc (suc zero)))) r lt same = refl
piece_alone (suc (suc (suc (suc (suc j))))) r lt same = absurd (omega arith)

workers_at : IsNumberAt 3 (codes "workers") 256
workers_at = record {
  below = omega arith;
  name = λ r. refl;
  parser = λ r. refl;
  alone = workers_alone;
  own = refl;
  some = refl;
  not_help = refl;
  not_version = refl;
}

piece_at : IsNumberAt 4 (codes "piece") 4096
piece_at = record {
  below = omega arith;
  name = λ r. refl;
  parser = λ r. refl;
  alone = piece_alone;
  own = refl;
  some = refl;
  not_help = refl;
  not_version = refl;
}

each_simple : (j : ℕ) (r : Rule) → j < 5 → (slice_index_or ours j r).is_simple ≡ true
each_simple zero r lt = refl
each_simple (suc zero) r lt = refl
each_simple (suc (suc zero)) r lt = refl
each_simple (suc (suc (suc zero))) r lt = refl
each_simple (suc (suc (suc (suc zero)))) r lt = refl
each_simple (suc (suc (suc (suc (suc j))))) r lt = absurd (omega arith)

-- ---- the arguments

is_none : {X : Type 0} (xs : List X) → is_empty xs ≡ true → xs ≡ []
is_none [] e = refl
is_none (x ∷ xs) e =
    let none = eqb-true (length (x ∷ xs)) 0 e in
    absurd (omega arith)

not_true : (b : Bool) → not b ≡ true → b ≡ false
not_true true e = absurd (true≢false (sym e))
not_true false e = refl

simple_groups : (a : Arg) → (rule_of a).is_simple ≡ true → a.groups.items ≡ []
simple_groups a h = is_none a.groups.items (both _ _ (both _ _ (both _ _ h).1).1).0

differ : (a b : Text) → bytes_eq a a ≡ true → bytes_eq a b ≡ false → a ≡ b → ⊥
differ a b same other e = true≢false (sym same ∙ ap (bytes_eq a) e ∙ other)

module _ (c : Command) (is : app_of c ≡ gsd) where
  are : map rule_of (args_of c) ≡ ours
  are = ap (λ (a : App). a.top.rules) is

  count : length (args_of c) ≡ 5
  count = sym (length-map (args_of c) rule_of) ∙ ap length are

  within : (j : ℕ) → j < length (args_of c) → j < 5
  within j lt = subst (λ n. j < n) count lt

  -- the rules of each argument are those of the option at its place
  rule_at : (j : ℕ) (d : Arg) → j < length (args_of c) → rule_of (slice_index_or (args_of c) j d) ≡ slice_index_or ours j (rule_of d)
  rule_at j d lt = sym (get_or-map rule_of (args_of c) j d (rule_of d) lt) ∙ ap (λ l. slice_index_or l j (rule_of d)) are

  no_groups : All (λ a. a.groups.items ≡ []) (args_of c)
  no_groups j d lt =
      simple_groups (slice_index_or (args_of c) j d) (ap (λ (r : Rule). r.is_simple) (rule_at j d lt) ∙ each_simple j (rule_of d) (within j lt))

  fields : (groups_of c ≡ []) × ((out-Command c).has_globals ≡ false)
  fields = go (ap (λ (a : App). a.top.is_plain) is)
    where
      go : has_plain_fields (out-Command c) ≡ true → (groups_of c ≡ []) × ((out-Command c).has_globals ≡ false)
      go h = (is_none (groups_of c) (both (is_empty (groups_of c)) _ h).0, not_true (out-Command c).has_globals (both (not (out-Command c).has_globals) _ (both (not (out-Command c).allow_external_subcommands) _ (both (is_empty (groups_of c)) _ h).1).1).0)

-- ---- the entry

module _ (c : Command) (m : ArgMatches) (is : app_of c ≡ gsd) (p : IsParsedFrom c m) (k : ℕ) (id : Text) (most : ℕ) (here : IsNumberAt k id most) where
  -- an argument of the built command with this name has the rules of the option
  same : (j : ℕ) (x : Arg) → j < length (args_of p.built) → slice_index_or (args_of p.built) j x ≡ x → bytes_eq x.id.now id ≡ true
      → parser_of x ≡ vp.Signed (pos 1) (pos most)
  same j x lt at name =
      let low : k < length (args_of c) = subst (λ n. k < n) (sym (count c is)) here.below in
      let rules_are = rule_at c is k x low in
      let name_is : (slice_index_or (args_of c) k x).id.now ≡ id = ap (λ (r : Rule). r.id) rules_are ∙ here.name (rule_of x) in
      let rules = same_rules_by_id c m p k x low
      (λ i e high found. here.alone i (rule_of e) (within c is i high)
      (subst (λ w. bytes_eq w id ≡ true) (ap (λ (r : Rule). r.id) (rule_at c is i e high))
      (subst (λ w. bytes_eq (slice_index_or (args_of c) i e).id.now w ≡ true) name_is found)))
      (λ auto. elim auto [
        | inl h ↦ differ id (codes "help") here.own here.not_help (sym name_is ∙ h)
        | inr h ↦ differ id (codes "version") here.own here.not_version (sym name_is ∙ h)
      ])
      j x lt at (subst (λ w. bytes_eq x.id.now w ≡ true) (sym name_is) name) in
      ap parser_of_value (rules.parser (vp.Signed (pos 1) (pos most)) (ap (λ (r : Rule). r.parser) rules_are ∙ here.parser (rule_of x)))

  accepted : (t : Text) → PassesArg p.built id t → IsSignedIn (pos 1) (pos most) t
  accepted t any = subst (λ q. Accepts any.1.ignore_case q t) (same any.0 any.1 any.2 any.3 any.4.0) any.4.1

  read : (r : Reading) → HasReading p.built id r → r ≡ WithoutMinus
  read r any = sym any.4.1 ∙ ap reading_of (same any.0 any.1 any.2 any.3 any.4.0)

  -- what an entry of the option gives
  entry : (a : MatchedArg) (v : Bor (List ℕ)) (vs : List (Bor (List ℕ))) (e : Entry) → a.vals.items ≡ v ∷ vs → e.1 ≡ a → e.0.now ≡ id → groups_of p.built ≡ []
      → EntryPasses p.built e → (Some (read_as a.reading v.now) ≡ Some v.now) × IsSignedIn (pos 1) (pos most) v.now
  entry a v vs e vals is_a key none pass =
      let alone : e.1.is_group ≡ true → ⊥ = λ g. elim (pass.3 g) [
        | inl empty ↦ differ id [] here.own here.some (sym key ∙ empty)
        | inr lots ↦
            let wrong : 0 < 0 = rw none at lots in
            absurd (omega arith)
      ] in
      let passed : IsSignedIn (pos 1) (pos most) v.now = elim pass.0 [
        | inl g ↦ absurd (alone g)
        | inr all ↦
            let each = subst (λ xs. All (λ w. PassesArg p.built e.0.now w.now) xs) (ap (λ (y : MatchedArg). y.vals.items) is_a ∙ vals) all in
            accepted v.now (subst (λ w. PassesArg p.built w v.now) key (All-get_or (λ w. PassesArg p.built e.0.now w.now) (v ∷ vs) 0 v (omega arith) each))
      ] in
      let way : a.reading ≡ WithoutMinus = elim pass.4 [
        | inl g ↦ absurd (alone g)
        | inr h ↦ ap (λ (y : MatchedArg). y.reading) (sym is_a) ∙ read e.1.reading (subst (λ w. HasReading p.built w e.1.reading) key h)
      ] in
      (ap (λ r. Some (read_as r v.now)) way ∙ ap (λ w. Some w) (plain_text v.now (no_minus most v.now passed)), passed)

  -- what was found for the option says a whole number in its range, and is read as it was written
  number_found : ReadsNumber id most (found_of m)
  number_found = go (matched_of (found_of m) id) refl
    where
      none : groups_of p.built ≡ []
      none = (p.from.same_groups (no_groups c is)).1 ∙ (fields c is).0

      parsed : ValuesPass p.built (found_of m)
      parsed = (p.parsed (p.from.globals ∙ (fields c is).1)).values

      at : (a : MatchedArg) → matched_of (found_of m) id ≡ Some a → (vs : List (Bor (List ℕ))) → a.vals.items ≡ vs
          → IfSome (option_map (λ s. s.now) (slice_get vs 0)) (λ text. (option_map (λ s. read_as a.reading s.now) (slice_get vs 0) ≡ Some text) × IsSignedIn (pos 1) (pos most) text)
      at a found [] vals = tt
      at a found (v ∷ vs) vals =
          let e = entry_by_id (EntryPasses p.built) (found_of m).entries.items id a parsed found in
          entry a v vs e.0 vals e.1 ((bytes_eq-Decides e.0.0.now id).0 e.2) none e.3

      go : (o : Option MatchedArg) → matched_of (found_of m) id ≡ o
          → IfSome (option_and_then (λ a. option_map (λ s. s.now) (slice_get a.vals.items 0)) o)
          (λ text. (option_and_then (λ a. option_map (λ s. read_as a.reading s.now) (slice_get a.vals.items 0)) o ≡ Some text) × IsSignedIn (pos 1) (pos most) text)
      go None found = tt
      go (Some a) found = at a found a.vals.items refl

pub workers_found : (c : Command) (m : ArgMatches) → app_of c ≡ gsd → IsParsedFrom c m → ReadsWorkers (found_of m)
workers_found c m is p = number_found c m is p 3 (codes "workers") 256 workers_at

pub piece_found : (c : Command) (m : ArgMatches) → app_of c ≡ gsd → IsParsedFrom c m → ReadsPiece (found_of m)
piece_found c m is p = number_found c m is p 4 (codes "piece") 4096 piece_at
