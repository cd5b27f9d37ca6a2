use Rattle.std.proofs.Common.{◌≡◌, ◌+◌, length}
use Rattle.std.specs.VecDeque.{deque_len}
use Rattle.fr_shape.specs.Released.{Room, Conserved}
use Rattle.fr_model.specs.Commands.{calls_of}
use Rattle.fr_model.specs.Run.{run_from, full_run}
use Rattle.fr_model.specs.Scripts.{AllFitting, brought}
use Rattle.fr_partial.specs.Builder.{holds}
use Rattle.fr_script.proofs.building.build_script.Given as goal

abbrev pub decreases-loop-command : goal.decreases-loop-command
decreases-loop-command g l = deque_len l.commands

-- The run goes on from here as the whole run would; what the builder and the commands left hold is what the script
-- brought and wasn't released.
abbrev pub invariant-loop-command : goal.invariant-loop-command
invariant-loop-command g l =
    record {
      count : l.number + length l.commands.items ≡ length l.fn.script;
      shapes : l.partial.shapes ≡ l.table;
      hooks : l.partial.hooks ≡ l.fn.hooks;
      root : l.partial.root ≡ l.fn.root.0;
      made : l.partial.state.calls ≡ l.number;
      run :
          run_from (g.H.Hooks.means l.fn.hooks) l.table l.fn.root.0 l.number l.partial.state (calls_of l.commands.items)
          ≡ full_run (g.H.Hooks.means l.fn.hooks) l.table l.fn.root.0 (calls_of l.fn.script);
      fitting : AllFitting l.table (calls_of l.commands.items);
      conserved :
          Conserved (brought (calls_of l.fn.script)) l.initial.ledger
          (λ t. holds l.partial t + brought (calls_of l.commands.items) t) l.ledger;
      room : Room (λ t. holds l.partial t + brought (calls_of l.commands.items) t) l.ledger;
    }
