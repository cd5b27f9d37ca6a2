use Rattle.fr_work.specs.Common.{as_tracker, mode_of}
use Rattle.fr_work.proofs.ContentLaws.{in_wanted, source_goes}
use Rattle.fr_work.proofs.work.Work.on_to_source.Goals as goal

pub returns : goal.returns
returns c = record {
  comes = λ call begins.
      source_goes c.args.self.now c.law_sound.ensures.in_order call _ begins c.source_tracker-tracker.result
      c.source_tracker-tracker.ensures.tracker c.beginning_in-beginning.result
      (in_wanted c.place.ensures.seen (mode_of c.mode.result) c.beginning_in-beginning.result c.mode.ensures.mode
      (as_tracker c.source_tracker-tracker.result) c.beginning_in-beginning.ensures.kept);
}
