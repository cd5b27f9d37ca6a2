use Rattle.std.proofs.Common.{sym, ap}
use Rattle.fr_moves.specs.Common.{Beginning, as_tracker, begun, begun_by, holes, top_tree}
use Rattle.fr_model.specs.Entering.{opened_as}
use Rattle.fr_moves.proofs.TopBodyLaws.{may_open_with}
use Rattle.fr_moves.proofs.KeepLaws.{became, became_marked, changed_as, kept_released, ok_or, room_here, unchanged_as}
use Rattle.fr_moves.proofs.BegunAroundLaws.{never_begun, on_ok}
use Rattle.fr_moves.specs.TreeLaws.{holes_occur}
use Rattle.fr_moves.proofs.beginning.begin_so.Goals as goal

pub begin-requires-clause-is_open : goal.begin-requires-clause-is_open
begin-requires-clause-is_open c = record { plan = c.requires.are_open.plan; is_open = c.requires.are_open.are_open.shown }

pub restart-requires-clause-is_open : goal.restart-requires-clause-is_open
restart-requires-clause-is_open c = record { plan = c.requires.are_open.plan; is_open = c.requires.are_open.are_open.shown }

pub begin-requires-clause-may_open : goal.begin-requires-clause-may_open
begin-requires-clause-may_open c = may_open_with c.requires.are_open.are_open.shown (as_tracker c.args.tracker) (c.requires.parts c.in-InPlace.is)

pub restart-requires-clause-room : goal.restart-requires-clause-room
restart-requires-clause-room c = room_here _ _ _ _ c.requires.are_open.are_open.shown c.requires.room

pub returns-in-AsItIs-clause-changed : goal.returns-in-AsItIs-clause-changed
returns-in-AsItIs-clause-changed c plan open_now =
    unchanged_as open_now (begun_by c.args.beginning (as_tracker c.args.tracker) c.args.count)
    (ap (λ (b : Beginning). begun_by b (as_tracker c.args.tracker) c.args.count (top_tree c.args.frames.now)) (sym c.in-AsItIs.is))

pub returns-in-InPlace-clause-changed : goal.returns-in-InPlace-clause-changed
returns-in-InPlace-clause-changed c =
    on_ok c.begin.result (λ done plan open_now. changed_as (opened_as (as_tracker c.args.tracker) c.args.count) (begun_by c.args.beginning (as_tracker c.args.tracker) c.args.count)
    (ap (λ (b : Beginning). begun_by b (as_tracker c.args.tracker) c.args.count (top_tree c.args.frames.now)) (sym c.in-InPlace.is))
    (became_marked open_now c.begin.ensures.marks (done plan open_now.shown))) c.begin.ensures.begun

pub returns-in-InPlace-clause-memory : goal.returns-in-InPlace-clause-memory
returns-in-InPlace-clause-memory c none is =
    absurd (never_begun (as_tracker c.args.tracker) (top_tree c.args.frames.now) (c.requires.parts c.in-InPlace.is) is)

pub returns-in-Anew-clause-changed : goal.returns-in-Anew-clause-changed
returns-in-Anew-clause-changed c =
    on_ok c.restart.result (λ done plan open_now. changed_as (λ old. begun (as_tracker c.args.tracker) (holes c.args.count))
    (begun_by c.args.beginning (as_tracker c.args.tracker) c.args.count)
    (ap (λ (b : Beginning). begun_by b (as_tracker c.args.tracker) c.args.count (top_tree c.args.frames.now)) (sym c.in-Anew.is))
    (became open_now c.restart.ensures.kept c.restart.ensures.marks (done plan open_now.shown))) c.restart.ensures.restarted

pub returns-in-Anew-clause-tokens : goal.returns-in-Anew-clause-tokens
returns-in-Anew-clause-tokens c =
    ok_or c.restart.result c.restart.ensures.restarted c.restart.ensures.released c.restart.ensures.tokens (λ then rose.
    kept_released c.requires.are_open.are_open.shown (λ old. begun (as_tracker c.args.tracker) (holes c.args.count))
    (then c.requires.are_open.plan c.requires.are_open.are_open.shown) rose
    (λ t. holes_occur c.args.count t))
