use Rattle.std.proofs.Common.{◌+◌, ap, ◌∙◌, ℕ, length, arith}
use Rattle.std.proofs.lemmas.List.{length_push}
use Rattle.std.proofs.lemmas.Option.{slice_get_within}
use Rattle.fr_plan.proofs.ShapeFields.{kept_more}
use Rattle.fr_plan.proofs.shape_fields.all_kept.Goals as goal

pub loop-i-preserved : goal.loop-i-preserved
loop-i-preserved c = record {
  long = ap length c.in-Ok.ensures.appended ∙ length_push c.loop-i.kept c.in_ok-of_shape.of_shape
      ∙ ap (λ (n : ℕ). n + 1) c.loop-i.invariant.long;
  kept = rw c.in-Ok.ensures.appended
      (kept_more c.args.table.now c.args.marks.now c.loop-i.kept c.loop-i.i c.in_ok-of_shape.of_shape
      c.loop-i.invariant.long c.loop-i.invariant.kept c.in_ok-of_shape.ensures);
}

pub returns : goal.returns
returns c =
    λ id node done.
    c.loop-i.invariant.kept id node
    (omega (arith, slice_get_within c.args.marks.now id _ done, c.len-i-end.ensures.count, c.loop-i-test.false)) done
