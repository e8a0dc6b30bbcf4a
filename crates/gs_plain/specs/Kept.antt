-- What a plain store's fields show, and what is true of them.
use Rattle.std.specs.Prelude.{◌≡◌, ◌+◌, ◌≤◌, [], map, vec_len, vec_capacity}
use Rattle.std.specs.List.{count_by, All, sum_by}
use Rattle.gs_event.specs.Births.{no_births}
use Rattle.gs_event.specs.Waste.{Shown}
use Rattle.gs_plain.specs.declared.stores.PlainStore.TheInside.{Inside}
use Rattle.gs_plain.specs.Books.{totals_of, seat_shown, seat_pin, will_commit, staged_by, IsKnown, IsCounted}

-- A node is a triple of a current graph or an open upload, and a record is of such a graph or an open upload or patch: so there is no waste.
-- Nothing keeps when a triple came, so no births are shown.
abbrev pub shown_of : Inside → Shown
shown_of a = record {
  view = record { totals = totals_of a.books; seats = map (seat_shown a.books.rows.items) a.seats.items };
  pinned = map seat_pin a.seats.items;
  waste = [];
  births = no_births 0;
}

-- what each read reads is there, there is room for the row of each upload and patch, and the counts are right
pub record IsKept (a : Inside) : Type 0 where
  pub known : All (IsKnown a.books.commit a.books.rows.items) a.seats.items
  pub room : vec_len a.books.rows + count_by will_commit a.seats.items ≤ vec_capacity a.books.rows
  pub counted : IsCounted a.books
  pub staged : a.books.staged ≡ sum_by staged_by a.seats.items
