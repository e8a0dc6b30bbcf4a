-- Books whose dictionary was swept of what no key of a node and no place of a read has.
use Rattle.std.proofs.Common.{◌≡◌, ℕ, Bool, List, length, get_or, Some, None, refl, sym, ◌∙◌, subst}
use Rattle.std.specs.List.{All}
use Rattle.gs_dict.specs.Numbering.{Numbered}
use Rattle.gs_dict.specs.Sweeping.{Sweeps}
use Rattle.gs_pool.specs.Pool.{Nodes}
use Rattle.gs_keys.specs.Texts.{Terms}
use Rattle.gs_keys.specs.Marks.{KeepsMarked, IsMarkedNode}
use Rattle.gs_keys.proofs.KeyMarkLemmas.{key_still}
use Rattle.gs_keys.proofs.MarkLemmas.{marked_agree}
use Rattle.gs_tree_store.specs.declared.books.Books.{Books}
use Rattle.gs_tree_store.specs.declared.books.Seat.{Seat}
use Rattle.gs_tree_store.specs.declared.books.Seat.TheVariants.{Idle, Writing, Patching, Reading, ReadingAll}
use Rattle.gs_tree_store.specs.Sweeps.{AgreeOnPlace, IsMarkedPlace, SweepsTerms}
use Rattle.gs_tree_store.proofs.PlaceMarkLemmas.{nodes_agree, places_agree}

-- terms that nobody touched say the same of each place
place_same : (terms : Terms) (s : Seat) → AgreeOnPlace terms terms s
place_same terms Idle = tt
place_same terms (Writing k r v n since) = tt
place_same terms (Patching t r n since) = tt
place_same terms (Reading root None) = tt
place_same terms (Reading root (Some k)) = record { subject = refl; predicate = refl; object = refl }
place_same terms (ReadingAll v None) = tt
place_same terms (ReadingAll v (Some x)) = record { subject = refl; predicate = refl; object = refl }

-- where there was no memory for marks, nothing was swept
pub unswept_books : (b : Books) (seats : List Seat) → SweepsTerms b seats b
unswept_books b seats = record {
  rest = refl;
  nodes = λ id n used. record { subject = refl; predicate = refl; object = refl };
  places = λ k s within. place_same b.dict.terms (get_or seats k s);
}

-- nodes that are marked still are
pub nodes_still : (p : Nodes) (old new : List Bool) → KeepsMarked old new → ((id : ℕ) → IsMarkedNode p old id) → (id : ℕ) → IsMarkedNode p new id
nodes_still p old new kept marked id n used = key_still old new n.key kept (marked id n used)

-- where nodes and places were marked, and the rest was swept
pub swept_books :
    (b : Books) (seats : List Seat) (none marks : List Bool) (count : ℕ) (e f : Numbered) → length none ≡ length b.dict.terms
    → KeepsMarked none marks → ((id : ℕ) → IsMarkedNode b.pool marks id) → All (IsMarkedPlace marks) seats → Sweeps marks 0 count b.dict e
    → f ≡ e → SweepsTerms b seats (record b { dict = f })
swept_books b seats none marks count e f all kept of_nodes of_places sweeps same =
    let agree = marked_agree marks 0 count b.dict e (kept.count ∙ all) sweeps in
    let P : Numbered → Type 0 = λ z. SweepsTerms b seats (record b { dict = z }) in
    subst P (sym same)
    (record {
      rest = refl;
      nodes = nodes_agree b.dict.terms e.terms marks agree b.pool of_nodes;
      places = places_agree b.dict.terms e.terms marks agree seats of_places;
    })
