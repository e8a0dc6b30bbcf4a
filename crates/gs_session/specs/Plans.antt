-- What a request asks of the store, as the code tells it.
use Rattle.gs_talk.specs.Plans.{Uploads, Patches, Deletes, Looks, Reads, NoPlan}
use Rattle.gs_talk.specs.Plans as talk
use Rattle.gs_session.specs.declared.plans.Plan.{Plan}
use Rattle.gs_session.specs.declared.plans.Plan.TheVariants.{Upload, Patch, Delete, Look, Read, Nothing}

-- one plan for each
abbrev pub plan_told : Plan → talk.Plan
plan_told (Upload k since) = Uploads k since
plan_told (Patch t since) = Patches t since
plan_told (Delete t since) = Deletes t since
plan_told (Look c) = Looks c
plan_told (Read c) = Reads c
plan_told Nothing = NoPlan
