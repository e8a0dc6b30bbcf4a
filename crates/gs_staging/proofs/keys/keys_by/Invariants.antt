-- the dictionary has grown, and the keys are those of the triples that were gone through, with room for the rest
use Rattle.std.proofs.Common.{◌≡◌, ◌≤◌, length, take, vec_len, vec_capacity}
use Rattle.gs_triple_lists.specs.Kept.{triples_of_numbers}
use Rattle.gs_staging.specs.Keys.{Grows, GivesOnly, IsTermIn, AreKeysOf}
use Rattle.gs_staging.specs.Noted.{AreNoted}
use Rattle.gs_staging.proofs.keys.keys_by.Given as goal

abbrev pub invariant-loop-three : goal.invariant-loop-three
invariant-loop-three l = record {
  grows : Grows l.fn.dict l.dict;
  only : GivesOnly (IsTermIn (triples_of_numbers l.terms l.numbers)) l.fn.dict.terms l.dict.terms;
  noted : AreNoted l.dict.terms l.terms l.noted;
  keys : AreKeysOf l.dict.terms (triples_of_numbers l.terms (take l.three-index l.numbers)) l.keys.items;
  room : length l.numbers ≤ vec_capacity l.keys;
  count : vec_len l.keys ≡ l.three-index;
}
