-- What a contract sees of a list of triples.
use Rattle.std.specs.Prelude.{List, refl}
use Rattle.std.specs.Coded.{Coded, code_by, coded_list}
use Rattle.gs_model.specs.Codes.{triple_code}
use Rattle.gs_model.specs.Triples.{RdfTriple}

-- the triples, in the order in which they came, with repeats
pub record Listed : Type 0 where
  pub items : List RdfTriple

-- it is stored as its field
abbrev pub listed_code : Coded Listed
listed_code = code_by (List RdfTriple) (coded_list triple_code) (λ l. l.items) (λ ts. record { items = ts }) (λ _. refl)

-- the list of these triples
abbrev pub listed : List RdfTriple → Listed
listed ts = record { items = ts }
