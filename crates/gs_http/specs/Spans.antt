-- What the offsets of a head's parts say of its bytes.
use Rattle.std.specs.Prelude.{ℕ, List, length, map, All}
use Rattle.httparse.specs.Spans.{span_bytes, header_bytes, IsWithin, IsHeaderWithin}
use Rattle.gs_http.specs.declared.spans.HeadSpans.{HeadSpans}
use Rattle.gs_http.specs.Heads.{HeadParts}

-- the parts that the offsets cut out of the bytes
abbrev pub parts_at : List ℕ → HeadSpans → HeadParts
parts_at b s = record {
  method = span_bytes b s.method;
  target = span_bytes b s.target;
  minor = s.minor;
  fields = map (header_bytes b) s.fields.items;
}

-- each offset lies in the bytes
pub record AreWithinBytes (b : List ℕ) (s : HeadSpans) : Type 0 where
  pub method : IsWithin (length b) s.method
  pub target : IsWithin (length b) s.target
  pub fields : All (IsHeaderWithin (length b)) s.fields.items
