-- The names of the RDF vocabulary in their marks.
use Rattle.std.proofs.Common.{◌≡◌, refl, arith}
use Rattle.std.specs.Prelude.{codes}
use Rattle.std.specs.Str.{is_utf8, chars}
use Rattle.std.proofs.lemmas.Str.{IsUtf8-from_is_utf8}
use lib.Utf8.{encode}
use Rattle.gs_model.specs.Texts.{term_of, IsCanonical}
use Rattle.gs_term.proofs.MakingLemmas.{canonical, term_of-bytes}
use Rattle.gs_triples.specs.Meanings.{rdf}

-- the text is that of the name
pub type_text : IsCanonical (codes "<http://www.w3.org/1999/02/22-rdf-syntax-ns#type>")
unfolding is_utf8 chars encode
type_text = canonical (rdf (codes "type")) _ refl refl (IsUtf8-from_is_utf8 _ refl) (omega arith)

pub type_term : term_of (codes "<http://www.w3.org/1999/02/22-rdf-syntax-ns#type>") ≡ rdf (codes "type")
type_term = term_of-bytes (rdf (codes "type")) _ refl

pub first_text : IsCanonical (codes "<http://www.w3.org/1999/02/22-rdf-syntax-ns#first>")
unfolding is_utf8 chars encode
first_text = canonical (rdf (codes "first")) _ refl refl (IsUtf8-from_is_utf8 _ refl) (omega arith)

pub first_term : term_of (codes "<http://www.w3.org/1999/02/22-rdf-syntax-ns#first>") ≡ rdf (codes "first")
first_term = term_of-bytes (rdf (codes "first")) _ refl

pub rest_text : IsCanonical (codes "<http://www.w3.org/1999/02/22-rdf-syntax-ns#rest>")
unfolding is_utf8 chars encode
rest_text = canonical (rdf (codes "rest")) _ refl refl (IsUtf8-from_is_utf8 _ refl) (omega arith)

pub rest_term : term_of (codes "<http://www.w3.org/1999/02/22-rdf-syntax-ns#rest>") ≡ rdf (codes "rest")
rest_term = term_of-bytes (rdf (codes "rest")) _ refl

pub nil_text : IsCanonical (codes "<http://www.w3.org/1999/02/22-rdf-syntax-ns#nil>")
unfolding is_utf8 chars encode
nil_text = canonical (rdf (codes "nil")) _ refl refl (IsUtf8-from_is_utf8 _ refl) (omega arith)

pub nil_term : term_of (codes "<http://www.w3.org/1999/02/22-rdf-syntax-ns#nil>") ≡ rdf (codes "nil")
nil_term = term_of-bytes (rdf (codes "nil")) _ refl
