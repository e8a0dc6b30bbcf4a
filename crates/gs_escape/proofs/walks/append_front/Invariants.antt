-- what is put and what is left give what the whole text gives
use Rattle.std.proofs.Common.{◌≡◌, true, length, take}
use Rattle.std.specs.Option.{is_some}
use Rattle.std.specs.String.{string_bytes}
use Rattle.std.specs.Str.{IsUtf8}
use Rattle.gs_escape.specs.Meanings.{meant_after, unescaped}
use Rattle.gs_escape.proofs.walks.append_front.Given as goal

abbrev pub invariant-parts : goal.invariant-parts
invariant-parts l = record {
  text : IsUtf8 l.rest;
  value : l.room ≡ true → meant_after (string_bytes l.out) (unescaped l.form 0 l.rest) ≡ meant_after (string_bytes l.fn.out) (unescaped l.form 0 l.text);
  alike : is_some (unescaped l.form 0 l.rest) ≡ is_some (unescaped l.form 0 l.text);
  front : take (length (string_bytes l.fn.out)) (string_bytes l.out) ≡ string_bytes l.fn.out;
}

abbrev pub decreases-parts : goal.decreases-parts
decreases-parts l = length l.rest
