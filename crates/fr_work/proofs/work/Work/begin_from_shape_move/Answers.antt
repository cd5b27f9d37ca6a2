use Rattle.std.proofs.Common.{sym}
use Rattle.fr_work.proofs.ProxyLaws.{shape_stays}
use Rattle.fr_work.proofs.work.Work.begin_from_shape_move.Goals as goal

pub returns-in-None-clause-decides : goal.returns-in-None-clause-decides
returns-in-None-clause-decides c = λ call says. shape_stays says (sym c.in-None.ensures)
