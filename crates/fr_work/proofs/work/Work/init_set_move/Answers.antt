use Rattle.std.proofs.Common.{refl, ◌∙◌}
use Rattle.fr_work.specs.Common.{Call}
use Rattle.fr_work.proofs.DecidingLaws.{refused_by}
use Rattle.fr_work.proofs.OpeningLaws.{set_begins}
use Rattle.fr_work.proofs.SeenLaws.{set_seen}
use Rattle.fr_work.proofs.work.Work.init_set_move.Goals as goal

pub returns-in-None-clause-decides : goal.returns-in-None-clause-decides
returns-in-None-clause-decides c = set_begins c.place.ensures.seen c.law_sound.ensures.in_order c.in-None.ensures.refused

pub returns-in-Some-clause-decides : goal.returns-in-Some-clause-decides
returns-in-Some-clause-decides c =
    refused_by c.args.self.now Call.InitSet _ c.in-Some.kind (λ hooks. refl)
    (c.in-Some.ensures.refused ∙ set_seen c.place.ensures.seen) c.in-Some.ensures.named
