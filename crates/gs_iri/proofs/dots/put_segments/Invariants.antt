-- what is left gives, after what is put, what the path gives
use Rattle.std.proofs.Common.{◌≡◌, ◌≤◌, length, take, drop}
use Rattle.std.specs.Prelude.{fold}
use Rattle.std.specs.String.{string_bytes}
use Rattle.std.specs.Str.{IsUtf8}
use Rattle.gs_iri.specs.Dots.{segments_of, last_of}
use Rattle.gs_iri.specs.Output.{put}
use Rattle.gs_iri.proofs.dots.put_segments.Given as goal

abbrev pub invariant-segments : goal.invariant-segments
invariant-segments l = record {
  text : IsUtf8 l.rest;
  within : l.start ≤ length (string_bytes l.resolved);
  front : take l.start (string_bytes l.resolved) ≡ take l.start (string_bytes l.fn.resolved);
  output : fold put (l.begun, drop l.start (string_bytes l.resolved)) (segments_of l.rest) ≡ fold put (l.fn.begun, drop l.start (string_bytes l.fn.resolved)) (segments_of l.path);
  last : last_of (segments_of l.rest) ≡ last_of (segments_of l.path);
}

abbrev pub decreases-segments : goal.decreases-segments
decreases-segments l = length l.rest
