use Rattle.std.proofs.Common.{IsOk, refl, sym, subst}
use Rattle.fr_moves.specs.Common.{IsOpenAt, StoresNothing, Tree, Val, mode_of, top_place, up, whole, whole_tree}
use Rattle.fr_store.specs.StackMoves.{changed_here}
use Rattle.fr_refusals.specs.declared.mode.Mode.{Mode}
use Rattle.fr_moves.proofs.TopBodyLaws.{holds_value, of_unboxed, of_value}
use Rattle.fr_moves.proofs.KeepLaws.{became_marked, room_here}
use Rattle.fr_moves.proofs.BegunAroundLaws.{on_ok}
use Rattle.fr_moves.specs.TreeLaws.{put_again}
use Rattle.fr_moves.proofs.putting.leave_whole.Goals as goal

pub hand_over-requires-clause-is_open : goal.hand_over-requires-clause-is_open
hand_over-requires-clause-is_open c = record { plan = c.requires.are_open.plan; is_open = c.requires.are_open.are_open.shown }

pub leave-requires-clause-is_open : goal.leave-requires-clause-is_open
leave-requires-clause-is_open c = record { plan = c.requires.are_open.plan; is_open = c.requires.are_open.are_open.shown }

pub hand_over-requires-clause-complete : goal.hand_over-requires-clause-complete
hand_over-requires-clause-complete c = holds_value c.requires.are_open.are_open.shown c.requires.holds_value.0 c.requires.holds_value.1

pub hand_over-requires-clause-room : goal.hand_over-requires-clause-room
hand_over-requires-clause-room c = room_here _ _ _ _ c.requires.are_open.are_open.shown c.requires.room

pub unreachable-requires : goal.unreachable-requires
unreachable-requires c =
    let there : IsOk c.hand_over.result
    = of_unboxed c.requires.are_open.are_open.shown c.requires.holds_value.0 c.requires.holds_value.1 (IsOk c.hand_over.result)
    c.hand_over.ensures.memory in
    let no = rw c.in_default.is at there in
    cc

pub returns-in-Ok-clause-left : goal.returns-in-Ok-clause-left
returns-in-Ok-clause-left c plan open_now =
    let v : Val = c.requires.holds_value.0 in
    became_marked open_now c.hand_over.ensures.marks (subst
    (λ (t : Tree). IsOpenAt plan c.hand_over.new.slots c.hand_over.new.self (up (top_place c.args.frames.now)) t)
    (put_again (top_place c.args.frames.now) (whole_tree c.args.frames.now) (whole v) c.requires.holds_value.1)
    (of_value open_now.shown v c.requires.holds_value.1
    (λ w. IsOpenAt plan c.hand_over.new.slots c.hand_over.new.self (up (top_place c.args.frames.now))
    (changed_here (λ old. whole w) c.args.frames.now.slots c.args.frames.now.stack)) (c.in-Ok.ensures.handed plan open_now.shown)))

pub returns-in-Deferred-clause-left : goal.returns-in-Deferred-clause-left
returns-in-Deferred-clause-left c =
    on_ok c.leave.result
    (λ left plan open_now. record {
      stands = left plan open_now.shown;
      kept = c.leave.ensures.kept;
      stores = subst (λ (mode : Mode). StoresNothing (mode_of mode) c.leave.new.store) (sym c.in-Deferred.is) tt;
      same = refl;
    }) c.leave.ensures.left
