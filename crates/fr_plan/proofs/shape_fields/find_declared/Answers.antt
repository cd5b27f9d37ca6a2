use Rattle.std.proofs.Common.{◌∙◌, sym, subst, slice_get}
use Rattle.fr_shape.specs.Look.{def_of}
use Rattle.fr_plan.specs.Fields.{fields_in}
use Rattle.fr_plan.specs.ShapeFields.{summary_at}
use Rattle.fr_plan.proofs.ShapeFields.{Tells, tells, found_by, none_declared}
use Rattle.fr_plan.proofs.shape_fields.find_declared.Goals as goal

pub returns-in_err-summary : goal.returns-in_err-summary
returns-in_err-summary c are =
    let def = def_of c.args.table.now c.args.shape.0 in
    c.from_residual.ensures
    ∙ none_declared def c.args.variant c.args.name.now
    (subst (Tells (fields_in def c.args.variant)) (sym c.in_err-summary.ensures)
    (tells def (slice_get c.args.kept.now c.args.shape.0) are c.args.variant))

pub returns : goal.returns
returns c are =
    found_by c.args.table.now c.args.shape.0 c.args.variant c.args.name.now
    (summary_at c.args.kept.now c.args.shape c.args.variant) c.in_ok-summary.summary.now c.in_ok-described.described.now
    c.fields_in-fields.result.now c.as_slice.result.now c.first_declared.result
    (tells (def_of c.args.table.now c.args.shape.0) (slice_get c.args.kept.now c.args.shape.0) are c.args.variant)
    c.in_ok-summary.ensures c.in_ok-described.ensures.value c.fields_in-fields.ensures c.as_slice.ensures.items
    c.first_declared.ensures
