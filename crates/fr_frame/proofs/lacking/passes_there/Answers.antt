use Rattle.std.proofs.Common.{◌≡◌, Bool, false, true, not, Some, refl, sym, ◌∙◌, ap}
use Rattle.fr_frame.specs.Common.{Question, as_fields, ask, shape_of}
use Rattle.fr_frame.proofs.LacksByChildren.{passes_all}
use Rattle.fr_frame.proofs.lacking.passes_there.Goals as goal

false_is : (b : Bool) → not b ≡ true → b ≡ false
false_is true e = absurd (cc)
false_is false e = refl

pub returns-in-Strict : goal.returns-in-Strict
returns-in-Strict c so table checked planned means i v =
    ap (λ (question : Question). ask question means table (shape_of c.args.plan.now c.args.node) (as_fields c.args.selected) i (Some v))
    c.in-Strict.is ∙ passes_all means table (shape_of c.args.plan.now c.args.node) c.args.selected
    (sym (c.has_validators.ensures table checked planned) ∙ false_is c.has_validators.result so) i v
