-- the value is that of the digits so far
use Rattle.std.proofs.Common.{◌≡◌, ◌<◌, ◌^◌, take, true}
use Rattle.std.specs.List.{list_all}
use Rattle.gs_model.specs.Escapes.{is_hex, hex_number}
use Rattle.gs_escape.proofs.escapes.number.Given as goal

abbrev pub invariant-loop-d : goal.invariant-loop-d
invariant-loop-d l = record {
  value : l.value ≡ hex_number (take l.d-index l.digits);
  digits : list_all is_hex (take l.d-index l.digits) ≡ true;
  small : l.value < 16 ^ l.d-index;
}
