-- An answer of the program as an outcome, and a plan against the document that it is of.
use Rattle.std.specs.Prelude.{◌≡◌, map, Result, Ok, Err}
use Rattle.fr_doc.specs.declared.fault.DocFault.{DocFault}
use Rattle.fr_plan.specs.TypePlan.{IsPlanOf}
use Rattle.fr_script.specs.declared.answering.Answer.{Answer}
use Rattle.fr_script.specs.declared.building.ScriptError.{ScriptError}
use Rattle.fr_model.specs.Run.{Refusal}
use Rattle.fr_script.specs.declared.plan_answer.PlanAnswer.{PlanAnswer}
use Rattle.fr_script.specs.Documents.{Document}
use Rattle.fr_script.specs.PlanReports.{node_line}
use Rattle.fr_script.specs.Reports.{Outcome, faulty, built, refused, planned, unplanned, plan_of}

abbrev pub refusal_view : ScriptError → Refusal
refusal_view error = record { number = error.number; kind = error.kind; path = error.path }

abbrev pub outcome_view : Answer → Outcome
outcome_view (Answer.Fault fault) = faulty fault
outcome_view (Answer.Built value tokens) = built value.value tokens
outcome_view (Answer.Refused error tokens) = refused (refusal_view error) tokens

abbrev pub plan_outcome : PlanAnswer → Outcome
plan_outcome (PlanAnswer.Fault fault) = faulty fault
plan_outcome (PlanAnswer.Planned table plan) = planned (map (node_line table) plan.nodes) plan.root.0
plan_outcome (PlanAnswer.Refused error) = unplanned error.operation

-- What the planning of a document gives: the document's own table, with a plan of its root over that; or the refusal that the plan of
-- its root meets.
abbrev pub IsPlanned : Document → PlanAnswer → Type 0
IsPlanned document (PlanAnswer.Planned table plan) =
    (table ≡ document.shapes) × IsPlanOf document.shapes (record { 0 = document.root }) plan
IsPlanned document (PlanAnswer.Refused error) = plan_of document ≡ Err error
IsPlanned document (PlanAnswer.Fault fault) = ⊥

-- the same where the document was still to be read: one that has a fault gives that
abbrev pub IsPlanAnswer : Result Document DocFault → PlanAnswer → Type 0
IsPlanAnswer (Ok document) answer = IsPlanned document answer
IsPlanAnswer (Err fault) answer = answer ≡ PlanAnswer.Fault fault
