-- How what a store shows is stored, so that a model may have it as its value.
use Rattle.std.specs.Prelude.{◌≡◌, ℕ, List, Option, Some, None, ◌⊎◌, refl}
use Rattle.std.proofs.Common.{inl, inr}
use Rattle.std.specs.Coded.{Coded, code_by, coded×, coded⊎, coded_option, coded_list, coded_ℕ}
use Rattle.std.specs.FinMap as map
use Rattle.gs_model.specs.Graphs.{Graph}
use Rattle.gs_model.specs.Codes.{graph_code, text_code}
use Rattle.gs_term.specs.declared.names.Target.{Target}
use Rattle.gs_term.specs.declared.names.Target.TheVariants.{Default, Named}
use Rattle.gs_event.specs.declared.events.UploadKind.{UploadKind}
use Rattle.gs_event.specs.declared.events.UploadKind.TheVariants.{Put, Post, New}
use Rattle.gs_term.specs.Names.{name_cmp}
use Rattle.gs_event.specs.Operations.{Setting}
use Rattle.gs_event.specs.Conditions.{LastWrites}
use Rattle.gs_event.specs.Phases.{Idle, Writing, Patching, Reading}
use Rattle.gs_event.specs.Views.{View, SeatView}
use Rattle.gs_event.specs.Births.{NodeBirths}
use Rattle.gs_event.specs.Waste.{Lifetime, Shown}

-- the name of a target; the default graph has none
abbrev pub name_in_target : Target → Option (List ℕ)
name_in_target Default = None
name_in_target (Named n) = Some n

-- the target of this name, or the default graph where there is none
abbrev pub target_from : Option (List ℕ) → Target
target_from None = Default
target_from (Some n) = Named n

-- the target made of a target's name is that target
abbrev pub target_back : (t : Target) → target_from (name_in_target t) ≡ t
target_back Default = refl
target_back (Named n) = refl

-- how a target is stored: by its name, if it has one
abbrev pub target_code : Coded Target
target_code = code_by (Option (List ℕ)) (coded_option text_code) name_in_target target_from target_back

-- a PUT's target or a POST's target, or neither
abbrev pub upload_parts : UploadKind → Option (Target ⊎ Target)
upload_parts (Put t) = Some (inl t)
upload_parts (Post t) = Some (inr t)
upload_parts New = None

-- a PUT or a POST with this target, or the kind that has none
abbrev pub upload_from : Option (Target ⊎ Target) → UploadKind
upload_from (Some (inl t)) = Put t
upload_from (Some (inr t)) = Post t
upload_from None = New

-- the kind made of a kind's parts is that kind
abbrev pub upload_back : (k : UploadKind) → upload_from (upload_parts k) ≡ k
upload_back (Put t) = refl
upload_back (Post t) = refl
upload_back New = refl

-- how a kind of upload is stored: a PUT's target or a POST's target, or neither
abbrev pub kind_code : Coded UploadKind
kind_code = code_by (Option (Target ⊎ Target)) (coded_option (coded⊎ target_code target_code)) upload_parts upload_from upload_back

-- how a setting is stored: its base, and its limits of triples and of names
abbrev pub setting_code : Coded Setting
setting_code =
    code_by (List ℕ × (ℕ × ℕ)) (coded× text_code (coded× coded_ℕ coded_ℕ))
    (λ w. (w.base, (w.limits.triples, w.limits.names)))
    (λ p. record { base = p.0; limits = record { triples = p.1.0; names = p.1.1 } })
    (λ _. refl)

-- an upload's kind, request and graph, a patch's target and request, or the lines that are left of a read, or none of them
abbrev pub SeatParts : Type 0
SeatParts = Option ((UploadKind × (ℕ × (Graph × Option ℕ))) ⊎ ((Target × (ℕ × Option ℕ)) ⊎ List (List ℕ)))

-- the parts of a seat; an idle one has none
abbrev pub seat_parts : SeatView → SeatParts
seat_parts Idle = None
seat_parts (Writing k r g since) = Some (inl (k, (r, (g, since))))
seat_parts (Patching t r since) = Some (inr (inl (t, (r, since))))
seat_parts (Reading left) = Some (inr (inr left))

-- the seat of these parts
abbrev pub seat_from : SeatParts → SeatView
seat_from None = Idle
seat_from (Some (inl p)) = Writing p.0 p.1.0 p.1.1.0 p.1.1.1
seat_from (Some (inr (inl p))) = Patching p.0 p.1.0 p.1.1
seat_from (Some (inr (inr left))) = Reading left

-- the seat made of a seat's parts is that seat
abbrev pub seat_back : (s : SeatView) → seat_from (seat_parts s) ≡ s
seat_back Idle = refl
seat_back (Writing k r g since) = refl
seat_back (Patching t r since) = refl
seat_back (Reading left) = refl

-- how a seat is stored: by its parts
abbrev pub seat_code : Coded SeatView
seat_code =
    code_by SeatParts (coded_option (coded⊎ (coded× kind_code (coded× coded_ℕ (coded× graph_code (coded_option coded_ℕ)))) (coded⊎ (coded× target_code (coded× coded_ℕ (coded_option coded_ℕ))) (coded_list text_code))))
    seat_parts seat_from seat_back

-- how the last writes are stored: each of them
abbrev pub last_writes_code : Coded LastWrites
last_writes_code =
    code_by (ℕ × (map.FinMap name_cmp ℕ × ℕ)) (coded× coded_ℕ (coded× (map.code text_code coded_ℕ) coded_ℕ))
    (λ k. (k.unnamed, (k.named, k.removed)))
    (λ p. record { unnamed = p.0; named = p.1.0; removed = p.1.1 })
    (λ _. refl)

-- the setting, the default graph, the named graphs, the last request, the last commit, the last writes, and the seats
abbrev pub ViewParts : Type 0
ViewParts = Setting × ((Graph × map.FinMap name_cmp Graph) × (ℕ × (ℕ × (LastWrites × List SeatView))))

-- how a view is stored: by those parts
abbrev pub view_code : Coded View
view_code =
    code_by ViewParts (coded× setting_code (coded× (coded× graph_code (map.code text_code graph_code)) (coded× coded_ℕ (coded× coded_ℕ (coded× last_writes_code (coded_list seat_code))))))
    (λ v. (v.totals.setting, ((v.totals.dataset.unnamed, v.totals.dataset.named), (v.totals.request, (v.totals.commit, (v.totals.last_writes, v.seats))))))
    (λ p. record { totals = record { setting = p.0; dataset = record { unnamed = p.1.0.0; named = p.1.0.1 }; request = p.1.1.0; commit = p.1.1.1.0; last_writes = p.1.1.1.1.0 }; seats = p.1.1.1.1.1 })
    (λ _. refl)

-- how a lifetime is stored: its birth and its death
abbrev pub lifetime_code : Coded Lifetime
lifetime_code = code_by (ℕ × ℕ) (coded× coded_ℕ coded_ℕ) (λ l. (l.birth, l.death)) (λ p. record { birth = p.0; death = p.1 }) (λ _. refl)

-- how births are stored: by their owners
abbrev pub births_code : Coded NodeBirths
births_code =
    code_by (List ℕ × (map.FinMap name_cmp (List ℕ) × List (List ℕ)))
    (coded× (coded_list coded_ℕ) (coded× (map.code text_code (coded_list coded_ℕ)) (coded_list (coded_list coded_ℕ))))
    (λ b. (b.unnamed, (b.named, b.staged)))
    (λ p. record { unnamed = p.0; named = p.1.0; staged = p.1.1 })
    (λ _. refl)

-- how what a store shows is stored: its view, the pins of its seats, its waste, and its births
abbrev pub shown_code : Coded Shown
shown_code =
    code_by (View × (List (Option ℕ) × (List Lifetime × NodeBirths)))
    (coded× view_code (coded× (coded_list (coded_option coded_ℕ)) (coded× (coded_list lifetime_code) births_code)))
    (λ s. (s.view, (s.pinned, (s.waste, s.births))))
    (λ p. record { view = p.0; pinned = p.1.0; waste = p.1.1.0; births = p.1.1.1 })
    (λ _. refl)
