-- Roots of keys whose numbers have terms: sets that are changed, and dictionaries whose terms come and go.
use Rattle.std.proofs.Common.{◌≡◌, ℕ, List, [], ◌∷◌, map, is_some, Option, refl, ap, sym, ◌∙◌}
use Rattle.std.specs.Option.{option_map, unwrap_or}
use Rattle.std.specs.Ordering.{ordering_then, nat_cmp}
use Rattle.std.specs.Cmp.Lexicographic.{slice_cmp}
use Rattle.std.specs.declared.cmp.Ordering.{Ordering}
use Rattle.std.specs.declared.cmp.Ordering.TheVariants.{Less, Equal, Greater}
use Rattle.gs_model.specs.Terms.{Iri, text_of}
use Rattle.gs_model.specs.Graphs.{graph_of}
use Rattle.gs_dict.specs.Numbering.{term_given}
use Rattle.gs_dict.proofs.NumberLemmas.{has_number}
use Rattle.gs_pool.specs.declared.nodes.Key.{Key}
use Rattle.gs_pool.specs.Pool.{Nodes}
use Rattle.gs_tree.specs.Keys.{AllKeys, IsRising, insert_key, insert_by, merge_keys}
use Rattle.gs_tree.specs.Reading.{keys_at}
use Rattle.gs_tree.specs.Sets.{IsSetAt}
use Rattle.gs_tree.proofs.Order.{AllKeys-map}
use Rattle.gs_tree.proofs.ReadingLemmas.{set_readable}
use Rattle.gs_keys.specs.Texts.{Terms, KeepTerms, term_at, triple_at, text_at, number_cmp, key_cmp, HasTerm, IsGiven, AgreeOn}
use Rattle.gs_keys.specs.Roots.{IsGraphAt, IsKeptAmong}

module _ (cmp : Key → Key → Ordering) (P : Key → Type 0) where
  -- what holds of a key and of others holds of them all
  pub all_insert : (x : Key) (ks : List Key) → P x → AllKeys P ks → AllKeys P (insert_key cmp x ks)
  all_insert x [] p h = (p, tt)
  all_insert x (y ∷ ks) p h = by_answer (cmp x y) (all_insert x ks p h.1)
    where
      by_answer : (o : Ordering) → AllKeys P (insert_key cmp x ks) → AllKeys P (insert_by o x y ks (insert_key cmp x ks))
      by_answer Less rest = (p, h)
      by_answer Equal rest = h
      by_answer Greater rest = (h.0, rest)

  pub all_merge : (xs ks : List Key) → AllKeys P xs → AllKeys P ks → AllKeys P (merge_keys cmp xs ks)
  all_merge [] ks hx h = h
  all_merge (x ∷ xs) ks hx h = all_merge xs (insert_key cmp x ks) hx.1 (all_insert x ks hx.0 h)

-- a set of keys whose numbers have terms stands for a graph
pub set_graph : (terms : Terms) (p : Nodes) (root : Option ℕ) → IsSetAt (key_cmp terms) p root → AllKeys (IsGiven terms) (keys_at p root) → IsGraphAt terms p root
set_graph terms p root set given = record { set = set_readable (key_cmp terms) p root set; given = given }

module _ (terms later : Terms) where
  -- a number with the same term says the same
  term_same : (n : ℕ) → term_given later n ≡ term_given terms n → term_at later n ≡ term_at terms n
  term_same n e = ap (λ o. unwrap_or o (Iri [])) e

  -- and has the same text
  text_same : (n : ℕ) → term_given later n ≡ term_given terms n → text_at later n ≡ text_at terms n
  text_same n e = ap (λ o. unwrap_or (option_map text_of o) []) e

  -- it has a term where it had one before
  number_same : (n : ℕ) → term_given later n ≡ term_given terms n → HasTerm terms n → HasTerm later n
  number_same n e h = ap is_some e ∙ h

  -- two of them are ordered as they were
  number_cmp_same : (m n : ℕ) → term_given later m ≡ term_given terms m → term_given later n ≡ term_given terms n → number_cmp later m n ≡ number_cmp terms m n
  number_cmp_same m n em en =
      let x = text_same m em in
      let y = text_same n en in
      λ i. slice_cmp nat_cmp (x i) (y i)

  -- keys on which the lists agree are ordered as they were
  pub key_cmp_same : (a b : Key) → AgreeOn terms later a → AgreeOn terms later b → key_cmp later a b ≡ key_cmp terms a b
  key_cmp_same a b ga gb =
      let s = number_cmp_same a.subject b.subject ga.subject gb.subject in
      let p = number_cmp_same a.predicate b.predicate ga.predicate gb.predicate in
      let o = number_cmp_same a.object b.object ga.object gb.object in
      λ i. ordering_then (s i) (ordering_then (p i) (o i))

  -- such a key says what it said
  pub triple_same : (k : Key) → AgreeOn terms later k → triple_at later k ≡ triple_at terms k
  triple_same k g =
      let s = term_same k.subject g.subject in
      let p = term_same k.predicate g.predicate in
      let o = term_same k.object g.object in
      λ i. record { subject = s i; predicate = p i; object = o i }

  -- its numbers have terms where they had
  pub given_same : (k : Key) → IsGiven terms k → AgreeOn terms later k → IsGiven later k
  given_same k h g = record {
    subject = number_same k.subject g.subject h.subject;
    predicate = number_same k.predicate g.predicate h.predicate;
    object = number_same k.object g.object h.object;
  }

  -- keys that were above one still are
  above_same : (k : Key) (ks : List Key) → AgreeOn terms later k → AllKeys (AgreeOn terms later) ks → AllKeys (λ y. key_cmp terms k y ≡ Less) ks → AllKeys (λ y. key_cmp later k y ≡ Less) ks
  above_same k [] g gs h = tt
  above_same k (y ∷ ks) g gs h = (key_cmp_same k y g gs.0 ∙ h.0, above_same k ks g gs.1 h.1)

  -- keys that rose still rise
  pub rising_same : (ks : List Key) → AllKeys (AgreeOn terms later) ks → IsRising (key_cmp terms) ks → IsRising (key_cmp later) ks
  rising_same [] gs h = tt
  rising_same (k ∷ ks) gs h = (above_same k ks gs.0 gs.1 h.0, rising_same ks gs.1 h.1)

  -- keys say what they said
  pub triples_same : (ks : List Key) → AllKeys (AgreeOn terms later) ks → map (triple_at later) ks ≡ map (triple_at terms) ks
  triples_same [] gs = refl
  triples_same (k ∷ ks) gs =
      let t = triple_same k gs.0 in
      let ts = triples_same ks gs.1 in
      λ i. t i ∷ ts i

  -- keys whose numbers had terms are still such keys
  pub all_given_same : (ks : List Key) → AllKeys (IsGiven terms) ks → AllKeys (AgreeOn terms later) ks → AllKeys (IsGiven later) ks
  all_given_same [] hs gs = tt
  all_given_same (k ∷ ks) hs gs = (given_same k hs.0 gs.0, all_given_same ks hs.1 gs.1)

  -- a set of keys is still one
  pub set_same : (p : Nodes) (root : Option ℕ) → IsSetAt (key_cmp terms) p root → AllKeys (AgreeOn terms later) (keys_at p root) → IsSetAt (key_cmp later) p root
  set_same p root h gs = record { root_is = h.root_is; stands = h.stands; balanced = h.balanced; rising = rising_same (keys_at p root) gs h.rising; apart = h.apart }

  -- a root stands for the same graph
  pub graph_same : (p : Nodes) (root : Option ℕ) → IsGraphAt terms p root → AllKeys (AgreeOn terms later) (keys_at p root) → IsKeptAmong terms later p root
  graph_same p root h gs = record {
    graph = record {
      set = record { root_is = h.set.root_is; stands = h.set.stands; rising = rising_same (keys_at p root) gs h.set.rising };
      given = all_given_same (keys_at p root) h.given gs;
    };
    same = ap graph_of (triples_same (keys_at p root) gs);
  }

-- The same where each number that has a term keeps it: of keys whose numbers have terms, both say the same.
module _ (terms later : Terms) (keep : KeepTerms terms later) where
  -- a number with a term has the same one later
  kept_given : (n : ℕ) → HasTerm terms n → term_given later n ≡ term_given terms n
  kept_given n h = keep n (term_at terms n) (has_number terms n h) ∙ sym (has_number terms n h)

  -- both agree on such a key
  pub kept_agrees : (k : Key) → IsGiven terms k → AgreeOn terms later k
  kept_agrees k g = record {
    subject = kept_given k.subject g.subject;
    predicate = kept_given k.predicate g.predicate;
    object = kept_given k.object g.object;
  }

  -- and on all of them
  pub all_kept_agree : (ks : List Key) → AllKeys (IsGiven terms) ks → AllKeys (AgreeOn terms later) ks
  all_kept_agree = AllKeys-map (IsGiven terms) (AgreeOn terms later) kept_agrees

  -- they are ordered as they were
  pub key_cmp_kept : (a b : Key) → IsGiven terms a → IsGiven terms b → key_cmp later a b ≡ key_cmp terms a b
  key_cmp_kept a b ga gb = key_cmp_same terms later a b (kept_agrees a ga) (kept_agrees b gb)

  -- one says what it said
  pub triple_kept : (k : Key) → IsGiven terms k → triple_at later k ≡ triple_at terms k
  triple_kept k g = triple_same terms later k (kept_agrees k g)

  -- its numbers have terms
  pub given_kept : (k : Key) → IsGiven terms k → IsGiven later k
  given_kept k g = given_same terms later k g (kept_agrees k g)

  -- keys that rose still rise
  pub rising_kept : (ks : List Key) → AllKeys (IsGiven terms) ks → IsRising (key_cmp terms) ks → IsRising (key_cmp later) ks
  rising_kept ks gs h = rising_same terms later ks (all_kept_agree ks gs) h

  -- keys say what they said
  pub triples_kept : (ks : List Key) → AllKeys (IsGiven terms) ks → map (triple_at later) ks ≡ map (triple_at terms) ks
  triples_kept ks gs = triples_same terms later ks (all_kept_agree ks gs)

  -- their numbers have terms
  pub all_given_kept : (ks : List Key) → AllKeys (IsGiven terms) ks → AllKeys (IsGiven later) ks
  all_given_kept ks gs = all_given_same terms later ks gs (all_kept_agree ks gs)

  -- a set of them is still one
  pub set_kept : (p : Nodes) (root : Option ℕ) → IsSetAt (key_cmp terms) p root → AllKeys (IsGiven terms) (keys_at p root) → IsSetAt (key_cmp later) p root
  set_kept p root h gs = set_same terms later p root h (all_kept_agree (keys_at p root) gs)

  -- a root stands for the same graph
  pub graph_kept : (p : Nodes) (root : Option ℕ) → IsGraphAt terms p root → IsKeptAmong terms later p root
  graph_kept p root h = graph_same terms later p root h (all_kept_agree (keys_at p root) h.given)
