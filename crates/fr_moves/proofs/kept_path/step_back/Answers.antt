use Rattle.fr_moves.proofs.KeptPathLaws.{went_back}
use Rattle.fr_moves.proofs.kept_path.step_back.Goals as goal

pub returns : goal.returns
returns c before last is =
    went_back c.law_pop_undoes_push.ensures.undone c.pop.result before c.args.path.now c.pop.new.self last
    c.pop.ensures.last c.pop.ensures.none is
