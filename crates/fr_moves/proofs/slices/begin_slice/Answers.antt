use Rattle.std.proofs.Common.{◌≡◌, is_some, sym, ◌∙◌}
use Rattle.fr_moves.specs.Common.{ItemsKind, as_items, begun_as, kept_slice, mode_of, slice_anew, top_tree}
use Rattle.fr_moves.proofs.KeepLaws.{are_open, became_marked, changed_as}
use Rattle.fr_moves.proofs.BegunAroundLaws.{on_ok}
use Rattle.fr_moves.specs.LookLaws.{slice_alike}
use Rattle.fr_moves.proofs.SlicePointerLaws.{slice_kept, slice_there, starts_anew}
use Rattle.fr_moves.proofs.slices.begin_slice.Goals as goal
use Rattle.fr_moves.proofs.slices.begin_slice.Goals.{After-keeps_items-kept}

-- whether it keeps its items
kept_is : (c : After-keeps_items-kept) → is_some (kept_slice (mode_of c.args.frames.now.mode) (top_tree c.args.frames.now))
    ≡ c.keeps_items-kept.result
kept_is c =
    sym (slice_alike _ (top_tree c.args.frames.now) c.place_here.ensures.partial (mode_of c.args.frames.now.mode))
    ∙ sym c.keeps_items-kept.ensures.kept

pub reform-requires-clause-is_open : goal.reform-requires-clause-is_open
reform-requires-clause-is_open c = record { plan = c.args.plan.now; is_open = c.requires.at_work.ready.shown }

pub begin_so-requires-clause-are_open : goal.begin_so-requires-clause-are_open
begin_so-requires-clause-are_open c = record { plan = c.args.plan.now; are_open = are_open c.requires.at_work }

pub reform-requires-clause-slice : goal.reform-requires-clause-slice
reform-requires-clause-slice c =
    slice_there _ _ (kept_is (goal.at.reform-requires-clause-slice c).After-keeps_items-kept ∙ c.if-kept.true)

pub returns-then-kept-clause-changed : goal.returns-then-kept-clause-changed
returns-then-kept-clause-changed c =
    changed_as (begun_as (as_items ItemsKind.Slice)) _
    (slice_kept _ _ (kept_is (goal.at.returns-then-kept-clause-changed c).After-keeps_items-kept ∙ c.if-kept.true))
    (became_marked (are_open c.requires.at_work) c.reform.ensures.marks
    (c.reform.ensures.reformed c.args.plan.now c.requires.at_work.ready.shown))

pub returns-else-kept-clause-changed : goal.returns-else-kept-clause-changed
returns-else-kept-clause-changed c =
    on_ok c.begin_so.result (λ done. changed_as (λ old. slice_anew) _
    (starts_anew _ _ (kept_is (goal.at.returns-else-kept-clause-changed c).After-keeps_items-kept ∙ c.if-kept.false))
    (done c.args.plan.now (are_open c.requires.at_work)))
    c.begin_so.ensures.changed
