-- Two wastes side by side: what joins them, what an action makes of both and of the numbers in use, and what a Reclaim frees of them.
use Rattle.std.proofs.Common.{◌≡◌, ◌≢◌, ◌⊎◌, ℕ, ◌+◌, ◌-◌, ◌*◌, min, Bool, true, false, nat_eq, ◌||◌, IsTrue, List, [], ◌∷◌, ◌++◌, length, length-append, Option, cond, refl, sym, ap, arith, true≢false}
use Rattle.std.specs.List.{sum_by}
use Rattle.std.proofs.lemmas.List.Elements.{All-append}
use Rattle.std.proofs.lemmas.List.Sums.{sum_by-append}
use Rattle.gs_model.specs.Graphs.{Graph, size_of}
use Rattle.gs_term.specs.declared.names.Target.{Target}
use Rattle.gs_event.specs.declared.events.UploadKind.{UploadKind}
use Rattle.gs_event.specs.declared.events.UploadKind.TheVariants.{Put, Post, New}
use Rattle.gs_event.specs.declared.events.Action.{Action}
use Rattle.gs_event.specs.declared.events.Action.TheVariants.{Open, OpenPatch, Stage, Commit, CommitPatch, Delete, Cancel}
use Rattle.gs_event.specs.declared.answers.Answer.{Answer}
use Rattle.gs_event.specs.declared.answers.Answer.TheVariants.{Opened, Staged, Status, Cancelled}
use Rattle.gs_event.specs.declared.updates.Op.{Op}
use Rattle.gs_event.specs.Updates.{patched}
use Rattle.gs_event.specs.Datasets.{graph_at, size_at, records_at, unused_for}
use Rattle.gs_event.specs.Operations.{is_success, united}
use Rattle.gs_event.specs.Phases.{Writing, Patching}
use Rattle.gs_event.specs.Views.{Totals, SeatView}
use Rattle.gs_event.specs.Waste.{Lifetime, is_needed, unneeded}
use Rattle.gs_event.specs.Wasting.{Joins, JoinsBoth, IsUnreached, EndsAt, EndsRecord, most_for_new, most_patched, UploadNodes, UpdateNodes, DeleteNodes, WastesNodes, UploadRecords, UpdateRecords, DeleteRecords, WastesRecords, bearing_of, WastesBoth}
use Rattle.gs_event.specs.Births.{NodeBirths, staged_births}
use Rattle.gs_event.specs.Born.{AreSameBirths, Bears}
use Rattle.gs_event.specs.Steps.{Frees}
use Rattle.gs_tree_store.proofs.BornLemmas.{bears_beside}
use Rattle.gs_tree_store.specs.Opened.{TakesRecords}
use Rattle.gs_tree_store.specs.Uses.{SameUnless, PostUses, SeatUses}
use Rattle.gs_tree_store.specs.Actions.{TakesNodes}

-- What joins a list joins it where it stands in a larger one: f puts a list into one that has more, and count says how much more.
module _ (f : List Lifetime → List Lifetime) (count : (Lifetime → ℕ) → ℕ) (is : (h : Lifetime → ℕ) (x : List Lifetime) → sum_by h (f x) ≡ sum_by h x + count h) where
  joins_in : (P : Lifetime → Type 0) (most : ℕ) (a b : List Lifetime) → Joins P most a b → Joins P most (f a) (f b)
  joins_in P most a b j = record { more = j.more; few = j.few; same = λ h. omega (arith, is h a, is h b, j.same h); ended = j.ended }

  both_in : (P : Lifetime → Type 0) (m n : ℕ) (a b : List Lifetime) → JoinsBoth P m n a b → JoinsBoth P m n (f a) (f b)
  both_in P m n a b j = record {
    between = f j.between;
    unused = joins_in IsUnreached m a j.between j.unused;
    replaced = joins_in P n j.between b j.replaced;
  }

  upload_nodes_in : (v : Totals) (k : UploadKind) (g : Graph) (done : Bool) (a b : List Lifetime) → UploadNodes v k g done a b → UploadNodes v k g done (f a) (f b)
  upload_nodes_in v (Put t) g true a b j = joins_in (EndsAt (v.commit + 1)) (size_at v.dataset t) a b j
  upload_nodes_in v (Post t) g true a b j = both_in (EndsAt (v.commit + 1)) (size_of g) (most_for_new * size_of g) a b j
  upload_nodes_in v New g true a b j = both_in (EndsAt (v.commit + 1)) (size_of g) (most_for_new * size_of g) a b j
  upload_nodes_in v (Put t) g false a b j = joins_in IsUnreached (size_of g) a b j
  upload_nodes_in v (Post t) g false a b j = joins_in IsUnreached (size_of g) a b j
  upload_nodes_in v New g false a b j = joins_in IsUnreached (size_of g) a b j

  update_nodes_in : (v : Totals) (t : Target) (ops : List Op) (done : Bool) (a b : List Lifetime) → UpdateNodes v t ops done a b → UpdateNodes v t ops done (f a) (f b)
  update_nodes_in v t ops true a b j = joins_in (λ l. IsUnreached l ⊎ EndsAt (v.commit + 1) l) (most_patched (graph_at v.dataset t) ops) a b j
  update_nodes_in v t ops false a b same = ap f same

  delete_nodes_in : (v : Totals) (t : Target) (done : Bool) (a b : List Lifetime) → DeleteNodes v t done a b → DeleteNodes v t done (f a) (f b)
  delete_nodes_in v t true a b j = joins_in (EndsAt (v.commit + 1)) (size_at v.dataset t) a b j
  delete_nodes_in v t false a b same = ap f same

  nodes_in : (v : Totals) (p : SeatView) (action : Action) (answer : Answer) (a b : List Lifetime) → WastesNodes v p action answer a b → WastesNodes v p action answer (f a) (f b)
  nodes_in v (Writing k r g since) Commit (Status status name number) a b x = upload_nodes_in v k g (is_success status) a b x
  nodes_in v (Patching t r since) (CommitPatch ops) (Status status name number) a b x = update_nodes_in v t ops.items (is_success status) a b x
  nodes_in v p (Delete t since) (Status status name number) a b x = delete_nodes_in v t (is_success status) a b x
  nodes_in v (Writing k r g since) Cancel Cancelled a b x = joins_in IsUnreached (size_of g) a b x
  nodes_in v p action answer a b x = ap f x

  upload_records_in : (v : Totals) (k : UploadKind) (g : Graph) (done : Bool) (a b : List Lifetime) → UploadRecords v k g done a b → UploadRecords v k g done (f a) (f b)
  upload_records_in v (Put t) g true a b j = both_in (EndsRecord v t) (unused_for t g) (records_at v.dataset t) a b j
  upload_records_in v (Post t) g true a b j = both_in (EndsRecord v t) (unused_for t (united (graph_at v.dataset t) g)) (records_at v.dataset t) a b j
  upload_records_in v New g true a b j = joins_in IsUnreached 0 a b j
  upload_records_in v (Put t) g false a b j = joins_in IsUnreached 1 a b j
  upload_records_in v (Post t) g false a b j = joins_in IsUnreached 1 a b j
  upload_records_in v New g false a b j = joins_in IsUnreached 1 a b j

  update_records_in : (v : Totals) (t : Target) (ops : List Op) (done : Bool) (a b : List Lifetime) → UpdateRecords v t ops done a b → UpdateRecords v t ops done (f a) (f b)
  update_records_in v t ops true a b j = both_in (EndsRecord v t) (unused_for t (patched (graph_at v.dataset t) ops)) (records_at v.dataset t) a b j
  update_records_in v t ops false a b j = joins_in IsUnreached 1 a b j

  delete_records_in : (v : Totals) (t : Target) (done : Bool) (a b : List Lifetime) → DeleteRecords v t done a b → DeleteRecords v t done (f a) (f b)
  delete_records_in v t true a b j = joins_in (EndsRecord v t) (records_at v.dataset t) a b j
  delete_records_in v t false a b same = ap f same

  records_in : (v : Totals) (p : SeatView) (action : Action) (answer : Answer) (a b : List Lifetime) → WastesRecords v p action answer a b → WastesRecords v p action answer (f a) (f b)
  records_in v (Writing k r g since) Commit (Status status name number) a b x = upload_records_in v k g (is_success status) a b x
  records_in v (Patching t r since) (CommitPatch ops) (Status status name number) a b x = update_records_in v t ops.items (is_success status) a b x
  records_in v p (Delete t since) (Status status name number) a b x = delete_records_in v t (is_success status) a b x
  records_in v (Writing k r g since) Cancel Cancelled a b x = joins_in IsUnreached 1 a b x
  records_in v (Patching t r since) Cancel Cancelled a b x = joins_in IsUnreached 1 a b x
  records_in v p action answer a b x = ap f x

-- what an action makes of both wastes: of the nodes first, beside the records that were, and then of these, beside the new nodes
pub both_waste : (v : Totals) (seat : ℕ) (p : SeatView) (action : Action) (answer : Answer) (births births_then : NodeBirths) (a b c d : List Lifetime) → WastesNodes v p action answer a b → Bears v p action answer (bearing_of seat births births_then a b)
    → ((k : ℕ) → k ≢ seat → AreSameBirths (staged_births births k) (staged_births births_then k)) → WastesRecords v p action answer c d
    → WastesBoth v seat p action answer births births_then (a ++ c) (b ++ d)
both_waste v seat p action answer births births_then a b c d x born others y = record {
  between = b ++ c;
  nodes = nodes_in (λ z. z ++ c) (λ h. sum_by h c) (λ h z. sum_by-append h z c) v p action answer a b x;
  born = bears_beside (bearing_of seat births births_then a b) c v p action answer born;
  others = others;
  records = records_in (λ z. b ++ z) (λ h. sum_by h b) (λ h z. omega (arith, sum_by-append h b z)) v p action answer c d y;
}

as_many : (a b c d : ℕ) → b ≡ a → d ≡ c → b + d ≡ a + c
as_many a b c d x y = λ i. x i + y i

one_more : (a b c d : ℕ) → b ≡ a → d ≡ c + 1 → b + d ≡ a + c + 1
one_more a b c d x y = omega (arith, x, y)

grown_by : (a b c d m n : ℕ) → b + m ≡ a + n → d ≡ c → b + d + m ≡ a + c + n
grown_by a b c d m n x y = omega (arith, x, y)

as_many_unless : (done : Bool) (a b c d : ℕ) → SameUnless done a b → d ≡ c → SameUnless done (a + c) (b + d)
as_many_unless true a b c d x y = tt
as_many_unless false a b c d x y = as_many a b c d x y

post_both : (late full : Bool) (staged a b c d : ℕ) → PostUses late full staged a b → d ≡ c → PostUses late full staged (a + c) (b + d)
post_both true full staged a b c d x y = as_many a b c d x y
post_both false true staged a b c d x y = omega (arith, x, y)
post_both false false staged a b c d x y = tt

-- and of the numbers in use
pub both_take : (p : SeatView) (action : Action) (answer : Answer) (a b c d : ℕ) → TakesNodes p action answer a b → TakesRecords action answer c d → SeatUses p action answer (a + c) (b + d)
both_take (Writing k r g since) (Stage ts) Staged a b c d x y = grown_by a b c d (size_of g) _ x y
both_take (Writing (Post t) r g since) Commit (Status status name number) a b c d x y = post_both (nat_eq status 412) (nat_eq status 507) (size_of g) a b c d x y
both_take p (CommitPatch ops) (Status status name number) a b c d x y = as_many_unless (is_success status) a b c d x y
both_take p (Open k since) (Opened r) a b c d x y = one_more a b c d x y
both_take p (OpenPatch t since) (Opened r) a b c d x y = one_more a b c d x y
both_take p action answer a b c d x y = as_many a b c d x y

least_both : (n f g u w all : ℕ) → f ≡ min n u → g ≡ min (n - f) w → all ≡ u + w → f + g ≡ min n all
least_both n f g u w all x y z = omega (arith, x, y, z)

first_empty : (b d : List Lifetime) → b ++ d ≡ [] → b ≡ []
first_empty [] d none = refl
first_empty (l ∷ b) d none = absurd (omega (arith, ap length none))

second_empty : (b d : List Lifetime) → b ++ d ≡ [] → d ≡ []
second_empty [] d none = none
second_empty (l ∷ b) d none = absurd (omega (arith, ap length none))

some_left : (l m : Bool) (b d : List Lifetime) → (IsTrue l → b ≢ []) → (IsTrue m → d ≢ []) → IsTrue (l || m) → (b ++ d) ≢ []
some_left true m b d x y is none = x refl (first_empty b d none)
some_left false m b d x y is none = y is (second_empty b d none)

second_left : (l m : Bool) → IsTrue m → IsTrue (l || m)
second_left true m is = refl
second_left false m is = is

first_left : (l m : Bool) → IsTrue l → IsTrue (l || m)
first_left true m is = refl
first_left false m is = absurd (true≢false (sym is))

left_some : (l m : Bool) (b d : List Lifetime) → (b ≢ [] → IsTrue l) → (d ≢ [] → IsTrue m) → (b ++ d) ≢ [] → IsTrue (l || m)
left_some l m [] d x y some = second_left l m (y some)
left_some l m (e ∷ b) d x y some = first_left l m (x (λ none. omega (arith, ap length none)))

-- What is freed of the first, and then of the second with what is left of the count, is freed of both.
pub frees_both : (pins : List (Option ℕ)) (n f g : ℕ) (l m : Bool) (a b c d : List Lifetime) → Frees pins n f l a b → Frees pins (n - f) g m c d → Frees pins n (f + g) (l || m) (a ++ c) (b ++ d)
frees_both pins n f g l m a b c d x y = record {
  exact = least_both n f g (unneeded pins a) (unneeded pins c) (unneeded pins (a ++ c)) x.exact y.exact (sum_by-append (λ k. cond {A = ℕ} (is_needed pins k) 0 1) a c);
  gone = x.gone ++ y.gone;
  many = omega (arith, length-append x.gone y.gone, x.many, y.many);
  same = λ h. omega (arith, sum_by-append h a c, sum_by-append h b d, sum_by-append h x.gone y.gone, x.same h, y.same h);
  none_needed = All-append (λ k. is_needed pins k ≡ false) x.gone y.gone x.none_needed y.none_needed;
  left_is = (some_left l m b d x.left_is.0 y.left_is.0, left_some l m b d x.left_is.1 y.left_is.1);
}
