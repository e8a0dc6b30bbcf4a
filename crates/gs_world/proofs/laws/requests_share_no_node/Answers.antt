use Rattle.gs_world.specs.Worlds.{world_start}
use Rattle.gs_world.proofs.NodeLemmas.{seat_own}
use Rattle.gs_world.proofs.NumberLemmas.{numbers_rise, numbers_apart}
use Rattle.gs_world.proofs.SharingLemmas.{shares_none}
use Rattle.gs_world.proofs.laws.requests_share_no_node.Goals as goal

pub returns : goal.returns
returns c p count w past history st = record {
  own = seat_own p count w past history st;
  rise = λ d l. numbers_rise (world_start p count) d history st.legal;
  apart = λ d e r l m ne k j. numbers_apart (world_start p count) d e r history ne st.legal k j;
  shared = shares_none (world_start p count) history st.legal (seat_own p count w past history st);
}
