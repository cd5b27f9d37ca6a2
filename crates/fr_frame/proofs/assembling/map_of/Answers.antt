use Rattle.std.proofs.Common.{sym, subst}
use Rattle.fr_frame.specs.Common.{Conserved, Val, occurs, vals_occur, vals_view}
use Rattle.fr_frame.proofs.assembling.map_of.Goals as goal

pub returns-in-Ok-clause-conserved : goal.returns-in-Ok-clause-conserved
returns-in-Ok-clause-conserved c =
    subst (λ (v : Val). Conserved (vals_occur (vals_view c.args.parts)) c.args.ledger.now (occurs v) c.merge_entries.new.ledger)
    (sym c.of_entries.ensures) c.in-Ok.ensures.conserved
