use Rattle.std.proofs.Common.{sym, ap, ◌∙◌, subst, unwrap_or}
use Rattle.fr_moves.specs.Common.{Beginning, IsWholeWith, MayHave, Tracker, anew_as, as_tracker, base_of_tracker, begun_by, kept_as, top_tree}
use Rattle.fr_refusals.specs.DynamicBeginnings.{tracker_with}
use Rattle.fr_moves.proofs.DynamicLaws.{as_alike, begins_so, in_place, no_base, none_may}
use Rattle.fr_moves.proofs.KeepLaws.{are_open, changed_as}
use Rattle.fr_moves.proofs.BegunAroundLaws.{on_ok}
use Rattle.fr_moves.proofs.dynamic_places.begin_parts.Goals as goal

pub begin_so-requires : goal.begin_so-requires
begin_so-requires c =
    let here = top_tree c.args.frames.now in
    record {
      are_open = record { plan = c.args.plan.now; are_open = are_open c.requires.at_work };
      may_have = subst (λ (f : Tracker). MayHave f 0) (sym c.tracker_with.ensures.tracker) (none_may c.args.parts);
      base = ap base_of_tracker c.tracker_with.ensures.tracker ∙ no_base c.args.parts;
      parts = λ is.
          subst (λ (f : Tracker). IsWholeWith f here) (sym c.tracker_with.ensures.tracker)
          (in_place c.args.parts here
          (sym (c.beginning_as-beginning.ensures.kept ∙ as_alike _ here c.place_here.ensures.partial c.args.parts) ∙ is));
      room = c.requires.room;
    }

pub returns-clause-changed : goal.returns-clause-changed
returns-clause-changed c =
    let here = top_tree c.args.frames.now in
    on_ok c.begin_so.result (λ done.
    changed_as (begun_by c.beginning_as-beginning.result (as_tracker c.tracker_with.result) 0)
    (λ old. unwrap_or (kept_as c.args.parts here) (anew_as c.args.parts))
    (ap (λ (f : Tracker). begun_by c.beginning_as-beginning.result f 0 here) c.tracker_with.ensures.tracker
    ∙ ap (λ (b : Beginning). begun_by b (tracker_with c.args.parts) 0 here)
    (c.beginning_as-beginning.ensures.kept ∙ as_alike _ here c.place_here.ensures.partial c.args.parts)
    ∙ begins_so c.args.parts here) (done c.args.plan.now (are_open c.requires.at_work)))
    c.begin_so.ensures.changed
