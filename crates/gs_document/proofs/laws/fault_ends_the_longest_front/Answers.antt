use Rattle.std.proofs.Common.{◌∙◌, ap}
use Rattle.gs_body.specs.Bodies.{Meaning, end_after}
use Rattle.gs_document.proofs.FrontLemmas.{document_before_fault}
use Rattle.gs_document.proofs.laws.fault_ends_the_longest_front.Goals as goal

pub returns-clause-front : goal.returns-clause-front
returns-clause-front c = document_before_fault

pub returns-clause-place : goal.returns-clause-place
returns-clause-place c = λ b r ts S f at h p. p.place ∙ ap (λ (m : Meaning). end_after 0 m.0) h
