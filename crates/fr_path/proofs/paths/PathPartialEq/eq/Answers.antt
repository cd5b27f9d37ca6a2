use Rattle.fr_path.specs.OrderLaws.{path_eq_tells}
use Rattle.fr_path.proofs.paths.PathPartialEq.eq.Goals as goal

pub returns-clause-same : goal.returns-clause-same
returns-clause-same c =
    rw (c.is_eq.ensures, c.cmp_walk.ensures.order) (path_eq_tells c.args.self.now c.args.other.now)
