use Rattle.std.proofs.Common.{arith}
use Rattle.fr_values.proofs.Kept.{keep_present, keep_absent, kept_conserved}
use Rattle.fr_values.proofs.gathering.keep_item.Goals as goal

pub returns-then-place-len-clause-kept : goal.returns-then-place-len-clause-kept
returns-then-place-len-clause-kept c = keep_present c.args.kept.now.items c.args.item c.args.place c.requires.placed (omega arith)

pub returns-else-place-len-clause-kept : goal.returns-else-place-len-clause-kept
returns-else-place-len-clause-kept c = keep_absent c.args.kept.now.items _ c.args.item c.args.place c.push_reserved.ensures.items c.requires.placed (omega arith)

pub returns-else-place-len-clause-conserved : goal.returns-else-place-len-clause-conserved
returns-else-place-len-clause-conserved c = kept_conserved c.args.kept.now.items _ c.args.item c.args.ledger.now c.push_reserved.ensures.items
