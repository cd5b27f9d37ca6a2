use Rattle.std.proofs.Common.{◌≡◌, true, false, refl, sym, ap, ◌∙◌}
use Rattle.fr_work.specs.Common.{Expected, as_tracker, beginning_in, cursor_tree, def_of, is_result, mode_of, shape_at, side_call}
use Rattle.fr_model.specs.Step.{content_kept}
use Rattle.fr_work.proofs.ContentLaws.{content_goes, full_here, in_wanted, side_around, side_brings, side_called, side_full}
use Rattle.fr_work.proofs.DecidingLaws.{is_not}
use Rattle.fr_work.proofs.KeptLaws.{kept_in_is, may_begin_in}
use Rattle.fr_work.proofs.SeenLaws.{def_seen}
use Rattle.fr_work.proofs.work.Work.begin_side_move.Goals as goal

pub returns : goal.returns
returns c = record {
  decides =
      let site = c.args.self.now in
      let side = as_tracker c.args.side in
      let at = c.place.ensures.seen in
      let def = def_of site.shapes (shape_at site) in
      let result : is_result def ≡ true = ap is_result (sym (def_seen at)) ∙ sym c.is_result.ensures.sides ∙ c.if-not-is_result.false in
      content_goes site (side_call side) c.args.side c.beginning_in-beginning.result (beginning_in site.state.mode side (cursor_tree site.state))
      (content_kept site.state side) (side_brings side c.requires) (side_around side c.requires)
      (side_full def side c.requires result)
      (in_wanted at (mode_of c.mode.result) c.beginning_in-beginning.result c.mode.ensures.mode side c.beginning_in-beginning.ensures.kept)
      (may_begin_in site.state.mode side (side_around side c.requires) def (cursor_tree site.state)
      (full_here site c.law_sound.ensures.in_order)) (kept_in_is site.state.mode side (cursor_tree site.state))
      (λ hooks. side_called site hooks side c.requires ∙ rw result refl);
}

pub returns-then-not-is_result : goal.returns-then-not-is_result
returns-then-not-is_result c = record {
  decides =
      let site = c.args.self.now in
      let side = as_tracker c.args.side in
      let at = c.place.ensures.seen in
      let other : is_result (def_of site.shapes (shape_at site)) ≡ false
      = ap is_result (sym (def_seen at)) ∙ sym c.is_result.ensures.sides ∙ c.if-not-is_result.true in
      is_not at (side_call side) Expected.Result (λ hooks. side_called site hooks side c.requires ∙ rw other refl);
}
