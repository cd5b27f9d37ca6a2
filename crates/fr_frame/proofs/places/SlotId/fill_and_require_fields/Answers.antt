use Rattle.std.proofs.lemmas.Result.{IfErr-weaker}
use Rattle.fr_frame.specs.Common.{FillColumn}
use Rattle.fr_frame.proofs.DefaultedLaws.{has_taken, on_ok_both, strictly_so, tracker_so, unfilled_so}
use Rattle.fr_frame.proofs.places.SlotId.fill_and_require_fields.Goals as goal

pub returns-clause-filled : goal.returns-clause-filled
returns-clause-filled g c =
    on_ok_both c.fill_by.result (λ filled met. strictly_so c.requires.checked
    (has_taken FillColumn.Strict (g.H.Hooks.means c.args.hooks.now) c.args.table.now c.args.plan.now c.args.slots.now c.fill_by.new.slots
    c.args.self.0 c.requires.place filled met)) c.fill_by.ensures.filled c.fill_by.ensures.met

pub returns-clause-tracker : goal.returns-clause-tracker
returns-clause-tracker g c =
    on_ok_both c.fill_by.result (λ filled met. tracker_so c.requires.checked
    (has_taken FillColumn.Strict (g.H.Hooks.means c.args.hooks.now) c.args.table.now c.args.plan.now c.args.slots.now c.fill_by.new.slots
    c.args.self.0 c.requires.place filled met)) c.fill_by.ensures.filled c.fill_by.ensures.met

pub returns-clause-why : goal.returns-clause-why
returns-clause-why g c =
    IfErr-weaker c.fill_by.result _ _
    (unfilled_so (g.H.Hooks.means c.args.hooks.now) c.args.table.now c.args.plan.now
    c.requires.checked c.args.slots.now c.args.self.0 c.requires.place) c.fill_by.ensures.why
