use Rattle.std.proofs.Common.{List, Some, ap, sym, ◌∙◌}
use Rattle.fr_values.specs.Common.{Value, vals_view}
use Rattle.fr_values.specs.CellLaws.{values_are}
use Rattle.fr_values.proofs.children.Children.into_values.Goals as goal

pub returns : goal.returns
returns c = record {
  values =
      values_are c.self.inside.given _ _ c.self.view_is c.requires ∙ ap (λ (vs : List Value). Some (vals_view vs)) (sym c.into_values.ensures.values);
}
