use Rattle.std.proofs.Common.{ℤ, w64, refl, subst}
use Rattle.std.proofs.lemmas.Int.{to_z-of_z}
use Rattle.fr_partial.specs.Common.{Call, Decides}
use Rattle.fr_partial.proofs.CallLaws.{called, meant_of}
use Rattle.fr_partial.proofs.partial.Partial.select_variant.Given.{Over}
use Rattle.fr_partial.proofs.partial.Partial.select_variant.Goals as goal
use Rattle.fr_partial.proofs.partial.Partial.select_variant.Goals.{After-select_variant_move-decided}

-- what was decided, of the discriminant as it is told
told : (g : Over) (c : After-select_variant_move-decided g)
    → Decides c.self.inside.work (Call.SelectVariant c.args.discriminant) c.select_variant_move-decided.result
told g c =
    subst (λ (d : ℤ). Decides c.self.inside.work (Call.SelectVariant d) c.select_variant_move-decided.result)
    (to_z-of_z w64 c.args.discriminant c.ranges.discriminant) c.select_variant_move-decided.ensures.decides

pub run-requires-clause-meant : goal.run-requires-clause-meant
run-requires-clause-meant g c =
    meant_of c.self.view_is (Call.SelectVariant c.args.discriminant) _
    (told g (goal.at.run-requires-clause-meant g c).After-select_variant_move-decided)

pub returns : goal.returns
returns g c = record {
  call =
      called c.self.view_is (Call.SelectVariant c.args.discriminant) _
      (told g (goal.at.returns g c).After-select_variant_move-decided) _ (λ t. refl) _ c.run.ensures.call;
}
