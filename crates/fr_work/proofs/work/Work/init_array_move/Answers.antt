use Rattle.std.proofs.Common.{refl, ◌∙◌}
use Rattle.fr_work.specs.Common.{Call}
use Rattle.fr_work.proofs.DecidingLaws.{cannot}
use Rattle.fr_work.proofs.OpeningLaws.{array_begins}
use Rattle.fr_work.proofs.SeenLaws.{array_seen}
use Rattle.fr_work.proofs.work.Work.init_array_move.Goals as goal

pub returns-in-Ok-clause-decides : goal.returns-in-Ok-clause-decides
returns-in-Ok-clause-decides c = array_begins c.place.ensures.seen c.in-Ok.count c.in-Ok.ensures.elements c.in-Ok.ensures.refused

pub returns-in-Err-clause-decides : goal.returns-in-Err-clause-decides
returns-in-Err-clause-decides c =
    let at = c.place.ensures.seen in
    cannot at Call.InitArray _ c.in-Err.operation (λ hooks. refl) (c.in-Err.ensures.refused ∙ array_seen at)
