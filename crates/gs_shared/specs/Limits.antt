-- How much a page of history holds.
use Rattle.std.specs.Prelude.{ℕ}

-- entries of a page
abbrev pub page_entries : ℕ
page_entries = 65536

-- as how many triples the entries of a page may count, with repeats
abbrev pub page_triples : ℕ
page_triples = 4000000
