use Rattle.std.proofs.Common.{◌≡◌, true, ap, sym, ◌∙◌}
use Rattle.fr_shape.specs.declared.shape.Shape.{Shape}
use Rattle.fr_shape.specs.declared.shape.Def.{Def}
use Rattle.fr_shape.specs.declared.shape.EnumDef.{EnumDef}
use Rattle.fr_shape.specs.Checked.{variants_apart, variant_names, names_apart}
use Rattle.fr_rules.specs.VariantLookups.{HaveDistinctNames}
use Rattle.fr_plan.proofs.telling.own_kind.Goals as goal

distinct_names : (shape : Shape) (enumeration : EnumDef) → shape.def ≡ Def.Enum enumeration → variants_apart shape ≡ true
    → HaveDistinctNames enumeration.variants
distinct_names shape enumeration is apart = ap (λ (def : Def). names_apart (variant_names def)) (sym is) ∙ apart

pub enum_plan-requires-clause-distinct : goal.enum_plan-requires-clause-distinct
enum_plan-requires-clause-distinct c =
    distinct_names c.args.shape.now c.in-Enum.described c.in-Enum.is (c.requires.checked.variants c.args.id.0 c.args.shape.now c.requires.there)
