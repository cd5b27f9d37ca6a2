use Rattle.std.proofs.Common.{◌+◌, arith}
use Rattle.std.proofs.lemmas.Result.{IfOk-weaker}
use Rattle.fr_frame.specs.Common.{body_occurs, body_of, occurs, slots_occur, view}
use Rattle.fr_frame.proofs.HandLaws.{moved_conserved}
use Rattle.fr_frame.proofs.places.SlotId.into_value.Goals as goal

pub returns-clause-conserved : goal.returns-clause-conserved
returns-clause-conserved c =
    IfOk-weaker c.value_of.result _ _ (λ v conserved.
    moved_conserved (body_occurs (body_of c.take_out-partial.result.1)) (occurs (view v)) (slots_occur c.args.slots.now)
    (λ t. slots_occur c.take_out-partial.new.slots t + occurs (view v) t) c.args.ledger.now c.value_of.new.ledger conserved
    (λ t. omega (arith, c.take_out-partial.ensures.tokens t))) c.value_of.ensures.conserved
