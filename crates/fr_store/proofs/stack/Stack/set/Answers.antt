use Rattle.fr_shape.specs.View.{view}
use Rattle.fr_store.specs.Common.{whole_plot}
use Rattle.fr_store.proofs.WholeTops.{top_rooted, prune_room, pruned_in_use, put_room, set_rose, is_set}
use Rattle.fr_store.proofs.stack.Stack.set.Goals as goal

pub prune-requires-clause-rooted : goal.prune-requires-clause-rooted
prune-requires-clause-rooted c = top_rooted c.requires.is_open.is_open c.in-Some.ensures.last

pub prune-requires-clause-room : goal.prune-requires-clause-room
prune-requires-clause-room c = prune_room c.requires.is_open.is_open c.in-Some.ensures.last c.args.ledger.now c.requires.room

pub put-requires-clause-in_use : goal.put-requires-clause-in_use
put-requires-clause-in_use c = pruned_in_use c.requires.is_open.is_open c.in-Some.ensures.last c.prune.new.slots c.prune.ensures.pruned

pub put-requires-clause-room : goal.put-requires-clause-room
put-requires-clause-room c =
    put_room c.requires.is_open.is_open c.in-Some.ensures.last c.prune.new.slots c.prune.ensures.pruned c.requires.room
    c.prune.ensures.released

pub returns : goal.returns
returns c =
    let done = is_set c.requires.is_open.is_open c.in-Some.ensures.last c.prune.new.slots c.prune.ensures.pruned c.put.new.slots
    (whole_plot (view c.args.value)) tt tt tt c.put.ensures.put in
    record {
      set = λ plan is_open. (is_set is_open c.in-Some.ensures.last c.prune.new.slots c.prune.ensures.pruned c.put.new.slots
          (whole_plot (view c.args.value)) tt tt tt c.put.ensures.put).opens;
      places = done.stays;
      released =
          set_rose c.requires.is_open.is_open c.in-Some.ensures.last c.prune.new.slots c.prune.ensures.pruned c.put.new.ledger
          c.prune.ensures.released c.put.ensures.released;
      kept = done.kept c.prune.new.self c.prune.ensures.kept;
      marks = done.marks c.prune.ensures.marks;
    }
