use Rattle.std.proofs.Common.{sym, ◌∙◌, arith}
use Rattle.fr_values.specs.CellLaws.{same_length, has_room, value_here, no_value_at}
use Rattle.fr_values.proofs.children.Children.value.Goals as goal

pub get-requires : goal.get-requires
get-requires c = record { inside = has_room c.self.inside.given _ _ c.self.view_is c.args.i c.self.invariant.room c.requires.inside }

pub value-requires : goal.value-requires
value-requires c = omega (arith, same_length c.self.inside.given _ _ c.self.view_is)

pub returns-then-get : goal.returns-then-get
returns-then-get c = record {
  value =
      value_here c.self.inside.given _ _ c.self.view_is c.args.i c.value.result.now c.requires.inside c.value.ensures.value
      (sym c.get.ensures.member ∙ c.if-get.true);
}

pub returns-else-get : goal.returns-else-get
returns-else-get c = record { value = no_value_at c.self.inside.given _ _ c.self.view_is c.args.i (sym c.get.ensures.member ∙ c.if-get.false) }
