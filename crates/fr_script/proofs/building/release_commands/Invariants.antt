use Rattle.std.proofs.Common.{◌≡◌, ℕ, ◌+◌, length, slice_index}
use Rattle.std.specs.VecDeque.{deque_len}
use Rattle.fr_shape.specs.Released.{Room}
use Rattle.fr_model.specs.Commands.{calls_of}
use Rattle.fr_model.specs.Scripts.{brought}
use Rattle.fr_script.proofs.building.release_commands.Given as goal

abbrev pub decreases-loop-command : goal.decreases-loop-command
decreases-loop-command l = deque_len l.commands

-- what isn't left any more was released, and what is left has room
abbrev pub invariant-loop-command : goal.invariant-loop-command
invariant-loop-command l =
    record {
      same_length : length l.ledger ≡ length l.initial.ledger;
      released :
          (t : ℕ) → slice_index l.ledger t + brought (calls_of l.commands.items) t
          ≡ slice_index l.initial.ledger t + brought (calls_of l.initial.commands.items) t;
      room : Room (brought (calls_of l.commands.items)) l.ledger;
    }
