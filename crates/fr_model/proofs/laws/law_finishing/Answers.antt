use Rattle.fr_model.proofs.Basis.{notes_what_is_due}
use Rattle.fr_model.proofs.NotesApart.{notes_lie_apart}
use Rattle.fr_model.proofs.laws.law_finishing.Goals as goal

pub returns-clause-noted : goal.returns-clause-noted
returns-clause-noted c = notes_what_is_due

pub returns-clause-apart : goal.returns-clause-apart
returns-clause-apart c = notes_lie_apart
