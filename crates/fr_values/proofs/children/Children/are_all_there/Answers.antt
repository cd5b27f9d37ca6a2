use Rattle.std.proofs.Common.{ℕ, subst, ◌↔◌}
use Rattle.std.specs.Prelude.{IsTrue}
use Rattle.fr_arena.specs.BitSets.{HasAllBelow}
use Rattle.fr_values.specs.CellLaws.{all_set_is}
use Rattle.fr_values.proofs.children.Children.are_all_there.Goals as goal

pub returns : goal.returns
returns c = record {
  all_there =
      all_set_is c.self.inside.given _ _ c.self.view_is c.all_set.result
      (subst (λ (n : ℕ). IsTrue c.all_set.result ↔ HasAllBelow n c.self.inside.given) c.len.ensures.count c.all_set.ensures.all);
}
