use Rattle.std.proofs.Common.{◌≡◌}
use Rattle.fr_model.proofs.Common.{Some, sym, subst, Place}
use Rattle.fr_laws.specs.Covering.{way_down}
use Rattle.fr_laws.proofs.Covering.{way_leads, way_is}
use Rattle.fr_laws.proofs.laws.law_covering.Goals as goal

pub returns-clause-ways : goal.returns-clause-ways
returns-clause-ways c above here way = (
  way_leads above here way,
  λ e. subst (λ (place : Place). way_down above place ≡ Some way) (sym e) (way_is above way),
)
