use Rattle.std.proofs.Common.{◌≡◌, suc, Some, sym, arith}
use Rattle.fr_values.specs.Cells.{slot_in_cells}
use Rattle.fr_store.specs.Common.{cells_found, heap_of}
use Rattle.fr_store.proofs.PruneTurns.{closed_empty, closed_last, pruning_none, pruning_skips, next_falls, next_rooted, next_room, next_in_use, next_stored, frame_room, pruning_child, pruning_same, pruned_now, released_now, tokens_now}
use Rattle.fr_store.proofs.store.FrameStore.+prune.Goals as goal
use Rattle.fr_store.proofs.store.FrameStore.+prune.Goals.{in-Some, in_default}

pub returns-then-is_empty-clause-pruned : goal.returns-then-is_empty-clause-pruned
returns-then-is_empty-clause-pruned t c =
    let none = pruning_none c.args.slots.now c.args.ledger.now c.requires.rooted c.requires.kept in
    pruned_now none (closed_empty none (c.is_empty.ensures.empty.0 c.if-is_empty.true))

pub returns-then-is_empty-clause-released : goal.returns-then-is_empty-clause-released
returns-then-is_empty-clause-released t c =
    let none = pruning_none c.args.slots.now c.args.ledger.now c.requires.rooted c.requires.kept in
    released_now none (closed_empty none (c.is_empty.ensures.empty.0 c.if-is_empty.true))

pub returns-then-is_empty-clause-tokens : goal.returns-then-is_empty-clause-tokens
returns-then-is_empty-clause-tokens t c =
    let none = pruning_none c.args.slots.now c.args.ledger.now c.requires.rooted c.requires.kept in
    tokens_now none (closed_empty none (c.is_empty.ensures.empty.0 c.if-is_empty.true))

pub loop-i-init : goal.loop-i-init
loop-i-init t c = pruning_none c.args.slots.now c.args.ledger.now c.requires.rooted c.requires.kept

pub prune-requires : goal.prune-requires
prune-requires t c =
    let found : slot_in_cells (cells_found (heap_of c.loop-i.slots c.args.place.0)) c.loop-i.i ≡ Some c.in-Some.child.0
    = sym c.in-Some.ensures in (
      omega (arith, c.decreases, next_falls c.loop-i.invariant c.in-Some.child.0 found),
      (
        next_rooted c.loop-i.invariant c.in-Some.child.0 found,
        (c.loop-i.invariant.kept, next_room c.loop-i.invariant c.in-Some.child.0 found c.requires.room),
      ),
    )

pub remove-requires : goal.remove-requires
remove-requires t c =
    next_stored c.loop-i.invariant c.in-Some.child.0 (sym c.in-Some.ensures) c.prune.new.slots
    c.prune.ensures.pruned c.prune.new.self c.prune.ensures.kept

pub release_frame-requires-clause-in_use : goal.release_frame-requires-clause-in_use
release_frame-requires-clause-in_use t c =
    next_in_use c.loop-i.invariant c.in-Some.child.0 (sym c.in-Some.ensures) c.prune.new.slots c.prune.ensures.pruned

pub release_frame-requires-clause-room : goal.release_frame-requires-clause-room
release_frame-requires-clause-room t c =
    frame_room c.loop-i.invariant c.in-Some.child.0 (sym c.in-Some.ensures) c.prune.new.slots
    c.prune.ensures.pruned c.requires.room c.prune.new.ledger c.prune.ensures.released

pub loop-i-preserved : goal.loop-i-preserved
loop-i-preserved t c =
    elim c.match-slot_of_child.branch [
      | in-Some w ↦ pruning_same {i = suc c.loop-i.i} (omega arith) w.self-is w.slots-is w.ledger-is
          (pruning_child c.loop-i.invariant w.in-Some.child.0 (sym w.in-Some.ensures) w.prune.new.slots
          w.prune.ensures.pruned w.prune.new.self w.prune.new.ledger w.prune.ensures.released w.prune.ensures.tokens
          w.prune.ensures.kept w.prune.ensures.marks w.remove.new.self w.release_frame.new.slots w.release_frame.new.ledger
          w.remove.ensures.rest w.release_frame.ensures.left w.release_frame.ensures.released w.release_frame.ensures.tokens)
      | in_default w ↦ pruning_same {i = suc c.loop-i.i} (omega arith) w.self-is w.slots-is w.ledger-is
          (pruning_skips c.loop-i.invariant (sym w.in_default.ensures))
    ]

pub returns-clause-pruned : goal.returns-clause-pruned
returns-clause-pruned t c =
    pruned_now c.loop-i.invariant (closed_last c.loop-i.invariant
    (omega (arith, c.loop-i.auto.i-end, c.loop-i-test.false, c.count_children-i-end.ensures)))

pub returns-clause-released : goal.returns-clause-released
returns-clause-released t c =
    released_now c.loop-i.invariant (closed_last c.loop-i.invariant
    (omega (arith, c.loop-i.auto.i-end, c.loop-i-test.false, c.count_children-i-end.ensures)))

pub returns-clause-tokens : goal.returns-clause-tokens
returns-clause-tokens t c =
    tokens_now c.loop-i.invariant (closed_last c.loop-i.invariant
    (omega (arith, c.loop-i.auto.i-end, c.loop-i-test.false, c.count_children-i-end.ensures)))
