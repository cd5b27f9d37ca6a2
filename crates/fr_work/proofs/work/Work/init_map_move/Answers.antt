use Rattle.std.proofs.Common.{refl, ◌∙◌}
use Rattle.fr_work.specs.Common.{Call}
use Rattle.fr_work.proofs.DecidingLaws.{refused_by}
use Rattle.fr_work.proofs.OpeningLaws.{entries_begin, map_begins}
use Rattle.fr_work.proofs.SeenLaws.{map_seen}
use Rattle.fr_work.proofs.work.Work.init_map_move.Goals as goal

pub returns-in-None-clause-decides : goal.returns-in-None-clause-decides
returns-in-None-clause-decides c =
    entries_begin c.place.ensures.seen c.law_sound.ensures.in_order c.if-is_dynamic.ensures.dynamic c.in-None.ensures.refused

pub returns-in-None-2-clause-decides : goal.returns-in-None-2-clause-decides
returns-in-None-2-clause-decides c =
    map_begins c.place.ensures.seen c.law_sound.ensures.in_order c.if-is_dynamic.ensures.dynamic c.in-None.ensures.refused

pub returns-in-Some-clause-decides : goal.returns-in-Some-clause-decides
returns-in-Some-clause-decides c =
    refused_by c.args.self.now Call.InitMap _ c.in-Some.kind (λ hooks. refl)
    (c.in-Some.ensures.refused ∙ map_seen c.place.ensures.seen) c.in-Some.ensures.named
