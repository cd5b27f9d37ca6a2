-- No report holds a float, so its text is its compact text.
use Rattle.std.proofs.Common.{◌≡◌, ℕ, false, List, [], ◌∷◌, map, refl}
use Rattle.serde_json.specs.Written.{has_float, items_have_float}
use Rattle.fr_shape.specs.Look.{Table}
use Rattle.fr_shape.specs.Val.{Val}
use Rattle.fr_doc.specs.declared.fault.DocFault.{DocFault}
use Rattle.fr_doc.specs.Printed.{value_data}
use Rattle.fr_script.specs.Reports.{Outcome, faulty, built, refused, planned, unplanned, naturals, outcome_data, fault_data, line_data}
use Rattle.fr_script.specs.declared.plan_answer.PlanAnswer.{PlanAnswer}
use Rattle.fr_script.specs.Answers.{plan_outcome}
use Rattle.fr_script.specs.PlanReports.{NodeLine, node_line}
use Rattle.serde_json.specs.View.{items_of}

naturals_free : (ns : List ℕ) → items_have_float (naturals ns) ≡ false
naturals_free [] = refl
naturals_free (n ∷ ns) = naturals_free ns

pub fault_free : (fault : DocFault) → has_float (fault_data fault) ≡ false
fault_free DocFault.TooLong = refl
fault_free DocFault.NotJson = refl
fault_free DocFault.HasFloat = refl
fault_free (DocFault.BadForm place) = refl
fault_free (DocFault.TooLarge size) = refl
fault_free (DocFault.Unchecked broken) = refl
fault_free (DocFault.Invalid i) = refl

lines_free : (lines : List NodeLine) → items_have_float (items_of (map line_data lines)) ≡ false
lines_free [] = refl
lines_free (line ∷ lines) = lines_free lines

pub plan_float_free : (table : Table) (root : ℕ) (lines : List NodeLine) (node : ℕ)
    → has_float (outcome_data table root (planned lines node)) ≡ false
plan_float_free table root lines node =
    let nodes : items_have_float (items_of (map line_data lines)) ≡ false = lines_free lines in
    rw nodes refl

pub outcome_float_free : ((v : Val) → has_float (value_data v) ≡ false) → (table : Table) (root : ℕ) (outcome : Outcome)
    → has_float (outcome_data table root outcome) ≡ false
outcome_float_free values table root (faulty fault) = fault_free fault
outcome_float_free values table root (built v tokens) =
    let here : has_float (value_data v) ≡ false = values v in
    let rest : items_have_float (naturals tokens) ≡ false = naturals_free tokens in
    rw (here, rest) refl
outcome_float_free values table root (refused refusal tokens) =
    let rest : items_have_float (naturals tokens) ≡ false = naturals_free tokens in
    rw rest refl
outcome_float_free values table root (planned lines node) = plan_float_free table root lines node
outcome_float_free values table root (unplanned fault) = refl

pub plan_answer_float_free : (table : Table) (root : ℕ) (answer : PlanAnswer)
    → has_float (outcome_data table root (plan_outcome answer)) ≡ false
plan_answer_float_free table root (PlanAnswer.Fault fault) = fault_free fault
plan_answer_float_free table root (PlanAnswer.Planned shapes plan) =
    plan_float_free table root (map (node_line shapes) plan.nodes) plan.root.0
plan_answer_float_free table root (PlanAnswer.Refused error) = refl
