use Rattle.std.proofs.Common.{sym}
use Rattle.fr_shape.specs.declared.shape.Def.{Def}
use Rattle.fr_facet.specs.FitLaws.{first_is_own}
use Rattle.fr_partial.proofs.typed.shape_of.Goals as goal

pub returns-clause-inside : goal.returns-clause-inside
returns-clause-inside g c =
    (first_is_own (λ (def : Def). g.T.Facet.is_own c.args.table.now def) c.args.table.now c.in-Some.id.0 (sym c.in-Some.ensures.first)).0
