use Rattle.fr_model.proofs.Paths.{leave_drops, steps_kept, kept_is_admitted}
use Rattle.fr_model.proofs.laws.law_paths.Goals as goal

pub returns-clause-change : goal.returns-clause-change
returns-clause-change c state change = steps_kept state.cursor change state.tree

pub returns-clause-kept : goal.returns-clause-kept
returns-clause-kept c = kept_is_admitted

pub returns-clause-leave : goal.returns-clause-leave
returns-clause-leave c = leave_drops
