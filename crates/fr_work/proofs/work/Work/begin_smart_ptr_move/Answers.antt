use Rattle.std.proofs.Common.{◌≡◌, true, false, None, refl, sym, ◌∙◌}
use Rattle.fr_work.specs.Common.{Call, Change, ContentKind, as_content, beginning_in, cursor_tree, def_of, mode_of, pointer_refusal, points_to_slice, shape_at}
use Rattle.fr_model.specs.Step.{content_kept}
use Rattle.fr_frame.specs.declared.places.ContentKind.{ContentKind as Begun}
use Rattle.fr_frame.specs.declared.places.Tracker.{Tracker}
use Rattle.fr_work.proofs.ContentLaws.{content_goes, full_here, in_wanted, pointer_full, pointer_seen, slice_seen}
use Rattle.fr_work.proofs.DecidingLaws.{cannot, remains}
use Rattle.fr_work.proofs.KeptLaws.{kept_in_is, may_begin_in}
use Rattle.fr_work.proofs.work.Work.begin_smart_ptr_move.Goals as goal

pub returns : goal.returns
returns c = record {
  decides =
      let site = c.args.self.now in
      let at = c.place.ensures.seen in
      let def = def_of site.shapes (shape_at site) in
      let may : None ≡ pointer_refusal site.shapes def = c.in_default.ensures.refused ∙ pointer_seen at in
      let behind : points_to_slice site.shapes def ≡ false
      = sym (slice_seen at) ∙ sym c.points_to_slice.ensures.slice ∙ c.if-points_to_slice.false in
      content_goes site Call.BeginSmartPtr (Tracker.Content Begun.Pointer) c.beginning_in-beginning.result
      (beginning_in site.state.mode (as_content ContentKind.Pointer) (cursor_tree site.state)) (content_kept site.state (as_content ContentKind.Pointer)) refl refl
      (pointer_full site.shapes def (sym may))
      (in_wanted at (mode_of c.mode.result) c.beginning_in-beginning.result c.mode.ensures.mode (as_content ContentKind.Pointer) c.beginning_in-beginning.ensures.kept)
      (may_begin_in site.state.mode (as_content ContentKind.Pointer) refl def (cursor_tree site.state) (full_here site c.law_sound.ensures.in_order))
      (kept_in_is site.state.mode (as_content ContentKind.Pointer) (cursor_tree site.state)) (λ hooks. rw (← may, behind) refl);
}

pub returns-then-points_to_slice : goal.returns-then-points_to_slice
returns-then-points_to_slice c = record {
  decides =
      let site = c.args.self.now in
      let at = c.place.ensures.seen in
      let def = def_of site.shapes (shape_at site) in
      let may : None ≡ pointer_refusal site.shapes def = c.in_default.ensures.refused ∙ pointer_seen at in
      let behind : points_to_slice site.shapes def ≡ true
      = sym (slice_seen at) ∙ sym c.points_to_slice.ensures.slice ∙ c.if-points_to_slice.true in
      remains site Call.BeginSmartPtr Change.OpenSlice refl (λ t. refl) tt (λ hooks. rw (← may, behind) refl);
}

pub returns-in-Some : goal.returns-in-Some
returns-in-Some c = record {
  decides =
      let at = c.place.ensures.seen in
      cannot at Call.BeginSmartPtr _ c.in-Some.operation (λ hooks. refl) (c.in-Some.ensures.refused ∙ pointer_seen at);
}
