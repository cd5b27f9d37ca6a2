use Rattle.std.proofs.Common.{◌≡◌, ℕ, ap, sym, ◌∙◌, arith}
use Rattle.fr_shape.specs.Faults.{keeps}
use Rattle.fr_shape.proofs.checking.keeps.Goals as goal

pub returns-in-3 : goal.returns-in-3
returns-in-3 c =
    c.parts_are_sized.ensures
    ∙ sym (ap (λ (rule : ℕ). keeps c.args.table.now rule c.args.i c.args.shape.now) c.in-3.is)

pub returns-in_default : goal.returns-in_default
returns-in_default c =
    let last : c.args.rule ≡ 9 = omega arith in
    c.option_preset_is_none.ensures
    ∙ sym (ap (λ (rule : ℕ). keeps c.args.table.now rule c.args.i c.args.shape.now) last)
