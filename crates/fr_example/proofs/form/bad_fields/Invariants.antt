use Rattle.std.proofs.Common.{◌≡◌, ◌≢◌, [], drop, None}
use Rattle.fr_model.specs.Run.{alloc_refusal}
use Rattle.fr_work.specs.Starting.{IsPlanFrom}
use Rattle.fr_example.specs.Forms.{bad_fields}
use Rattle.fr_example.proofs.FormErrors.{AreAll}
use Rattle.fr_example.proofs.form.bad_fields.Given as goal

-- Those that were found, and those among the fields that are left, are all bad fields.
abbrev pub invariant-loop-field : goal.invariant-loop-field
invariant-loop-field g l =
    record {
      all :
          (from : IsPlanFrom l.table l.plan)
          → AreAll (g.H.Hooks.means l.hooks) l.table from.root.0 (bad_fields (g.H.Hooks.means l.hooks) l.table from.root.0 l.fields)
          l.bad (drop l.field-index l.fields);
      planned : l.bad ≢ [] → (from : IsPlanFrom l.table l.plan) → alloc_refusal l.table from.root.0 ≡ None;
      ledger : l.ledger ≡ l.fn.ledger;
    }
