-- A command without subcommands finds at most one fault in its words.
use Rattle.std.proofs.Common.{◌≡◌, ℕ, zero, suc, Bool, true, false, cond, List, [], ◌∷◌, Option, Some, None, length, min, drop, is_some, nat_lt, ◌==◌, ◌+◌, ◌&&◌, ◌||◌, not, refl}
use Rattle.std.specs.Prelude.{encode_utf8, slice_get}
use Rattle.std.specs.Option.{option_map_or}
use Rattle.std.specs.Str.{bytes_eq, chars}
use Rattle.clap.specs.Lexer.{long_of, short_of}
use Rattle.clap.specs.Matches.{count_text}
use Rattle.clap.specs.Facts.{parser_of_value, unwrap_or_range}
use Rattle.clap.specs.Values.{refused_kind}
use Rattle.clap.specs.ValueTests.{accepts}
use Rattle.clap.specs.Walk.{Held, Row, Rule, Step, Text, Waiting, Walk, next, trailing, subcommand, value, idle, option, positional, action_of, arg_by_id, arg_by_index, arg_by_long, arg_by_short, attached_value, count_of, has_row, is_empty, is_pending, most_values, nothing_held, reacted, settled, takes_several, takes_values, values_or_missing, walk, walk_from, walked, with_default, word_met}
use Rattle.clap.specs.Simple.{Shape, argument_words, built, entered}
use Rattle.clap.specs.Kinds.{Kinds, check_kinds, or_else, range_kinds, request_kinds, value_kinds, values_kinds}
use Rattle.clap.specs.Faults.{action_fault, bundle_step_fault, count_fault, default_fault, defaults_fault, entered_fault, fault_of, flag_word_fault, flags_fault, level_fault, long_fault, option_fault, other_fault, positional_fault, react_fault, settle_fault, short_fault, step_fault, stray_fault, turn_fault, use_fault, values_fault, walk_fault, word_fault}
use Rattle.clap.specs.declared.builder.action.ArgAction.{ArgAction}
use Rattle.clap.specs.declared.builder.action.ArgAction.TheVariants.{Set, Append, SetTrue, SetFalse, Count, Help, HelpShort, HelpLong, Version}
use Rattle.clap.specs.declared.builder.value_parser.ValueParser.{ValueParser}
use Rattle.gs_arguments.specs.Options.{gsd}

abbrev pub AtMostOne : Kinds → Type 0
AtMostOne [] = Unit {0}
AtMostOne (k ∷ []) = Unit {0}
AtMostOne (k ∷ l ∷ ks) = ⊥

either_one : (a b : Kinds) → AtMostOne a → AtMostOne b → AtMostOne (or_else a b)
either_one [] b p q = q
either_one (k ∷ []) b p q = tt
either_one (k ∷ l ∷ ks) b p q = absurd p

cond_one : (c : Bool) (a b : Kinds) → AtMostOne a → AtMostOne b → AtMostOne (cond c a b)
cond_one true a b p q = p
cond_one false a b p q = q

option_one : {X : Type 0} (f : X → Kinds) (o : Option X) → ((x : X) → AtMostOne (f x)) → AtMostOne (option_map_or f o [])
option_one f None h = tt
option_one f (Some x) h = h x

-- ---- values, and uses of an argument

value_one : (i : Bool) (p : ValueParser) (t : Text) → AtMostOne (value_kinds i p t)
value_one i p t = cond_one (accepts i p t) [] (refused_kind p ∷ []) tt tt

values_one : (i : Bool) (p : ValueParser) (ts : List Text) → AtMostOne (values_kinds i p ts)
values_one i p [] = tt
values_one i p (t ∷ ts) = either_one (value_kinds i p t) (values_kinds i p ts) (value_one i p t) (values_one i p ts)

range_one : (least most n : ℕ) → AtMostOne (range_kinds least most n)
range_one least most n =
    cond_one (nat_lt 0 least && n == 0) _ _ tt
    (cond_one (least == most) _ _ (cond_one (least == n) _ _ tt tt)
    (cond_one (nat_lt n least) _ _ tt (cond_one (nat_lt most n) _ _ tt tt)))

request_one : (a : ArgAction) → AtMostOne (request_kinds a)
request_one Help = tt
request_one HelpShort = tt
request_one HelpLong = tt
request_one Version = tt
request_one other = tt

count_one : (a : Rule) (vs : List Text) (rows : List Row) → AtMostOne (count_fault a vs rows)
count_one a [] rows = value_one a.ignore_case (parser_of_value a.parser) (count_text (min (count_of a.id rows + 1) 255))
count_one a (v ∷ vs) rows = values_one a.ignore_case (parser_of_value a.parser) (v ∷ vs)

set_one : (again : Bool) (a : Rule) (vs : List Text) (rows : List Row) → AtMostOne (action_fault Set again a vs rows)
set_one again a vs rows =
    either_one _ (values_fault a vs) (cond_one (has_row a.id rows && not again) _ _ tt tt) (values_one a.ignore_case (parser_of_value a.parser) vs)

action_one : (x : ArgAction) (again : Bool) (a : Rule) (vs : List Text) (rows : List Row) → AtMostOne (action_fault x again a vs rows)
action_one Set again a vs rows = set_one again a vs rows
action_one SetTrue again a vs rows = set_one again a vs rows
action_one SetFalse again a vs rows = set_one again a vs rows
action_one Append again a vs rows = values_one a.ignore_case (parser_of_value a.parser) vs
action_one Count again a vs rows = count_one a vs rows
action_one other again a vs rows = request_one other

use_one : (again : Bool) (a : Rule) (vs : List Text) (rows : List Row) → AtMostOne (use_fault again a vs rows)
use_one again a vs rows =
    either_one _ (action_fault (action_of a) again a (values_or_missing a vs) rows)
    (range_one (unwrap_or_range a.range).start_inclusive (most_values a) (length vs))
    (action_one (action_of a) again a (values_or_missing a vs) rows)

-- ---- words

module _ (c : List Rule) (again : Bool) where
  settle_one : (h : Held) → AtMostOne (settle_fault c again h)
  settle_one h = option_one _ h.pending (λ p. option_one _ (arg_by_id c p.0) (λ a. use_one again a p.1 h.rows))

  react_one : (a : Rule) (vs : List Text) (h : Held) → AtMostOne (react_fault c again a vs h)
  react_one a vs h = either_one (settle_fault c again h) _ (settle_one h) (use_one again a vs (settled c h).rows)

  attached_one : (a : Rule) (v : Option Text) (h : Held) → AtMostOne (option_fault c again a v h)
  attached_one a (Some v) h = react_one a (v ∷ []) h
  attached_one a None h = settle_one h

  long_one : (a : Option Rule) (v : Option Text) (h : Held) → AtMostOne (long_fault c again a v h)
  long_one None v h = tt
  long_one (Some a) v h = cond_one (takes_values a) _ _ (attached_one a v h) (cond_one (is_some v) _ _ tt (react_one a [] h))

  short_one : (a : Option Rule) (rest : Text) (h : Held) (go : Held → Kinds) → ((g : Held) → AtMostOne (go g)) → AtMostOne (short_fault c again a rest h go)
  short_one None rest h go each = tt
  short_one (Some a) rest h go each =
      cond_one (takes_values a) _ _ (attached_one a (attached_value rest) h)
      (either_one (react_fault c again a [] h) _ (react_one a [] h) (each (reacted c a [] h)))

  letter_one : (x : Option ℕ) (flags : Text) (skip : ℕ) (h : Held) (go : Text → ℕ → Held → Kinds) → ((t : Text) (n : ℕ) (g : Held) → AtMostOne (go t n g))
      → AtMostOne (bundle_step_fault c again x flags skip h go)
  letter_one None flags skip h go each = tt
  letter_one (Some x) flags zero h go each =
      short_one (arg_by_short c x) (drop (length (encode_utf8 x)) flags) h _ (each (drop (length (encode_utf8 x)) flags) 0)
  letter_one (Some x) flags (suc skip) h go each = each (drop (length (encode_utf8 x)) flags) skip h

  flags_one : (k : ℕ) (flags : Text) (skip : ℕ) (h : Held) → AtMostOne (flags_fault c again k flags skip h)
  unfolding flags_fault
  flags_one zero flags skip h = tt
  flags_one (suc k) flags skip h = letter_one (slice_get (chars flags) 0) flags skip h (flags_fault c again k) (flags_one k)

  flag_one : (long : Option (Text × Option Text)) (word : Text) (h : Held) → AtMostOne (flag_word_fault c again long word h)
  flag_one (Some p) word h = long_one (arg_by_long c p.0) p.1 h
  flag_one None word h = option_one _ (short_of word) (λ flags. flags_one (length flags) flags h.skip (record h { skip = 0 }))

  placed_one : (a : Rule) (h : Held) → AtMostOne (positional_fault c again a h)
  placed_one a h = cond_one (is_pending a h.pending && takes_several a) _ _ tt (settle_one h)

module _ (s : Shape) (leaf : s.is_leaf ≡ true) where
  plain_one : (word : Text) (h : Held) → AtMostOne (other_fault s None word h)
  plain_one word h = cond_one (bytes_eq word (45 ∷ 45 ∷ [])) _ _ tt (flag_one s.rules s.args_override_self (long_of word) word h)

  word_one : (trail : Bool) (w : Waiting) (word : Text) (h : Held) → AtMostOne (word_fault s [] trail w word h)
  word_one trail idle word h = cond_one trail _ _ tt (plain_one word h)
  word_one trail (option id) word h = cond_one trail _ _ tt (plain_one word h)
  word_one trail positional word h = cond_one trail _ _ tt (plain_one word h)

  stray_one : AtMostOne (stray_fault s)
  stray_one = rw leaf tt

  placed_or_stray_one : (a : Option Rule) (h : Held) → AtMostOne (option_map_or (λ x. positional_fault s.rules s.args_override_self x h) a (stray_fault s))
  placed_or_stray_one None h = stray_one
  placed_or_stray_one (Some a) h = placed_one s.rules s.args_override_self a h

  step_one : (position : ℕ) (h : Held) (x : Step) → AtMostOne (step_fault s position h x)
  step_one position h (next w) = tt
  step_one position h (trailing p) = tt
  step_one position h (subcommand n) = tt
  step_one position h value = placed_or_stray_one (arg_by_index s.rules position) h

  turn_one : (w : Walk) (word : Text) → AtMostOne (turn_fault s [] w word)
  turn_one w word =
      let met = word_met s.rules [] w.is_trailing w.waiting w.position word w.held in
      cond_one (is_some w.stopped) _ _ tt
      (either_one (word_fault s [] w.is_trailing w.waiting word w.held) (step_fault s w.position met.0 met.1)
      (word_one w.is_trailing w.waiting word w.held) (step_one w.position met.0 met.1))

  walk_one : (w : Walk) (words : List Text) → AtMostOne (walk_fault s [] w words)
  unfolding walk_fault
  walk_one w [] = tt
  walk_one w (word ∷ rest) =
      either_one (turn_fault s [] w word) (walk_fault s [] (walked s.rules [] w word) rest) (turn_one w word) (walk_one (walked s.rules [] w word) rest)

-- ---- after the words

default_one : (rows : List Row) (a : Rule) → AtMostOne (default_fault rows a)
default_one rows a =
    cond_one (has_row a.id rows || is_empty a.defaults) _ _ tt
    (either_one (request_kinds (action_of a)) (values_fault a a.defaults) (request_one (action_of a)) (values_one a.ignore_case (parser_of_value a.parser) a.defaults))

defaults_one : (rows : List Row) (c : List Rule) → AtMostOne (defaults_fault rows c)
unfolding defaults_fault
defaults_one rows [] = tt
defaults_one rows (a ∷ rest) = either_one (default_fault rows a) (defaults_fault (with_default rows a) rest) (default_one rows a) (defaults_one (with_default rows a) rest)

check_one : (help sub arg : Bool) → AtMostOne (check_kinds help sub arg)
check_one help sub arg = cond_one help _ _ tt (cond_one sub _ _ tt (cond_one arg _ _ tt tt))

level_one : (s : Shape) → s.is_leaf ≡ true → (words : List Text) (entered : Bool) (below : Kinds) → AtMostOne below → AtMostOne (level_fault s [] nothing_held words entered below)
level_one s leaf words entered below one =
    let end = (walk s.rules [] nothing_held words).held in
    either_one (walk_fault s [] (walk_from nothing_held) words) _ (walk_one s leaf (walk_from nothing_held) words)
    (either_one below _ one (either_one (settle_fault s.rules s.args_override_self end) _ (settle_one s.rules s.args_override_self end)
    (either_one (defaults_fault (settled s.rules end).rows s.rules) _ (defaults_one (settled s.rules end).rows s.rules) (check_one _ _ _))))

entered_one : (stop : Option (Text × List Text)) → AtMostOne (entered_fault (built gsd) stop)
entered_one None = tt
entered_one (Some p) = tt

-- the words of the program have at most one fault
pub gsd_one : (words : List Text) → AtMostOne (fault_of gsd words)
gsd_one words =
    let stop = (walk (built gsd).top.rules [] nothing_held (argument_words gsd words)).stopped in
    level_one (built gsd).top refl (argument_words gsd words) (is_some (entered (built gsd) stop)) (entered_fault (built gsd) stop) (entered_one stop)
