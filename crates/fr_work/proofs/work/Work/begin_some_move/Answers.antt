use Rattle.std.proofs.Common.{◌≡◌, true, false, refl, sym, ap, ◌∙◌}
use Rattle.fr_work.specs.Common.{Call, Expected, beginning_of_some, content_shape, cursor_tree, def_of, is_option, mode_of, shape_at}
use Rattle.fr_model.specs.Step.{option_kept}
use Rattle.fr_frame.specs.declared.places.ContentKind.{ContentKind as Begun}
use Rattle.fr_frame.specs.declared.places.Tracker.{Tracker}
use Rattle.fr_work.proofs.ContentLaws.{content_goes, full_here, option_full, some_wanted}
use Rattle.fr_work.proofs.DecidingLaws.{is_not}
use Rattle.fr_work.proofs.KeptLaws.{kept_some_is, may_begin_some}
use Rattle.fr_work.proofs.SeenLaws.{def_seen}
use Rattle.fr_work.proofs.work.Work.begin_some_move.Goals as goal

pub returns : goal.returns
returns c = record {
  decides =
      let site = c.args.self.now in
      let at = c.place.ensures.seen in
      let def = def_of site.shapes (shape_at site) in
      let content = def_of site.shapes (content_shape def) in
      let option : is_option def ≡ true = ap is_option (sym (def_seen at)) ∙ c.in-Some.ensures.some in
      content_goes site Call.BeginSome (Tracker.Content Begun.Some) c.beginning_of_some-beginning.result
      (beginning_of_some site.state.mode content (cursor_tree site.state)) (option_kept site.shapes (shape_at site) site.state) refl
      refl (option_full def option)
      (some_wanted at (mode_of c.mode.result) c.beginning_of_some-beginning.result c.mode.ensures.mode c.in-Some.content.0
      c.in-Some.ensures.content c.beginning_of_some-beginning.ensures.kept)
      (may_begin_some site.state.mode content def (cursor_tree site.state) (full_here site c.law_sound.ensures.in_order))
      (kept_some_is site.state.mode content (cursor_tree site.state)) (λ hooks. rw option refl);
}

pub returns-in_default : goal.returns-in_default
returns-in_default c = record {
  decides =
      let site = c.args.self.now in
      let at = c.place.ensures.seen in
      let other : is_option (def_of site.shapes (shape_at site)) ≡ false
      = ap is_option (sym (def_seen at)) ∙ c.in_default.ensures.none in
      is_not at Call.BeginSome Expected.Option (λ hooks. rw other refl);
}
