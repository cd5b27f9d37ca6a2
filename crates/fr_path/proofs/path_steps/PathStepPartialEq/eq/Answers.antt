use Rattle.fr_path.specs.OrderLaws.{step_eq_tells}
use Rattle.fr_path.proofs.path_steps.PathStepPartialEq.eq.Goals as goal

pub returns-clause-same : goal.returns-clause-same
returns-clause-same c =
    rw (c.is_eq.ensures, c.cmp_walk.ensures) (step_eq_tells c.args.self.now c.args.other.now)
