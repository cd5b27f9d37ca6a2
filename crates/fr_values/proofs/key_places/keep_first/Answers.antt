use Rattle.std.proofs.Common.{sym, ◌∙◌}
use Rattle.fr_values.proofs.Known.{first_kept, first_stays}
use Rattle.fr_values.proofs.key_places.keep_first.Goals as goal

pub returns-in_ok-insert : goal.returns-in_ok-insert
returns-in_ok-insert c q =
    first_kept c.args.known.now c.insert.new.self c.args.key q c.args.place (sym c.contains_key.ensures ∙ c.if-not-contains_key.true) (c.in_ok-insert.ensures.updates.0 q)

pub returns-else-not-contains_key : goal.returns-else-not-contains_key
returns-else-not-contains_key c q =
    first_stays c.args.known.now c.args.key q c.args.place (sym c.contains_key.ensures ∙ c.if-not-contains_key.false)
