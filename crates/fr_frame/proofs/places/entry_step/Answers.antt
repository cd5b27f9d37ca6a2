use Rattle.fr_frame.proofs.MapSteps.{key_step, value_step}
use Rattle.fr_frame.proofs.places.entry_step.Goals as goal

pub returns-then-i-eq0 : goal.returns-then-i-eq0
returns-then-i-eq0 c = record {
  step = key_step c.args.base c.args.i c.saturating_sub-number.result c.saturating_sub-number.ensures c.if-i-eq0.true;
}

pub returns-else-i-eq0 : goal.returns-else-i-eq0
returns-else-i-eq0 c = record {
  step = value_step c.args.base c.args.i c.saturating_sub-number.result c.saturating_sub-number.ensures c.if-i-eq0.false;
}
