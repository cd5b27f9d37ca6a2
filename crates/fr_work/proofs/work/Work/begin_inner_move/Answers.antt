use Rattle.fr_work.specs.Common.{Call, mode_of}
use Rattle.fr_work.proofs.InnerLaws.{inner_converts, inner_option}
use Rattle.fr_work.proofs.work.Work.begin_inner_move.Goals as goal

pub returns-in-Some-content_of : goal.returns-in-Some-content_of
returns-in-Some-content_of c = record {
  decides =
      inner_option c.place.ensures.seen c.in-Some.source c.in-Some.ensures.source c.in-Some-convert_in.hook
      c.in-Some-convert_in.ensures.hook c.law_sound.ensures.in_order c.in-Some-content_of.ensures.some (mode_of c.mode.result)
      c.mode.ensures.mode c.in-Some-content_of.content.0 c.in-Some-content_of.ensures.content c.beginning_of_inner-beginning.result
      c.beginning_of_inner-beginning.ensures.kept;
}

pub returns : goal.returns
returns c = record {
  decides =
      c.on_to_source.ensures.comes Call.BeginInner (inner_converts c.place.ensures.seen c.in-Some.source c.in-Some.ensures.source
      c.in-Some-convert_in.hook c.in-Some-convert_in.ensures.hook c.in_default-content_of.ensures.none _
      c.by_wrapper.ensures.conversion);
}
