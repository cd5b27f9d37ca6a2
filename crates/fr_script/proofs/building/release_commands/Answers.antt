use Rattle.std.proofs.Common.{◌≡◌, ℕ, List, ap, ◌∙◌, arith}
use Rattle.fr_shape.specs.Released.{Room}
use Rattle.fr_shape.specs.TokenLaws.{both, Room_same, Room_left, Room_risen}
use Rattle.fr_model.specs.declared.command.Command.{Command}
use Rattle.fr_model.specs.Commands.{call_of, calls_of}
use Rattle.fr_model.specs.Scripts.{brings, brought}
use Rattle.fr_script.proofs.building.release_commands.Goals as goal
use Rattle.fr_script.proofs.building.release_commands.Goals.{In-Some}

-- the first command and the others bring what the commands bring
split : (c : In-Some) (t : ℕ)
    → brought (calls_of c.loop-command.commands.items) t
    ≡ both (brings (call_of c.in-Some.command)) (brought (calls_of c.pop_front.new.self.items)) t
split c t = ap (λ (commands : List Command). brought (calls_of commands) t) c.in-Some.ensures.items

room : (c : In-Some)
    → Room (both (brings (call_of c.in-Some.command)) (brought (calls_of c.pop_front.new.self.items)))
    c.loop-command.ledger
room c =
    Room_same (brought (calls_of c.loop-command.commands.items))
    (both (brings (call_of c.in-Some.command)) (brought (calls_of c.pop_front.new.self.items)))
    c.loop-command.ledger (split c) c.loop-command.invariant.room

pub release_command-requires : goal.release_command-requires
release_command-requires c =
    Room_left (brings (call_of c.in-Some.command)) (brought (calls_of c.pop_front.new.self.items))
    c.loop-command.ledger (room (goal.at.release_command-requires c).In-Some)

pub loop-command-preserved : goal.loop-command-preserved
loop-command-preserved c = record {
  same_length = c.release_command.ensures.same_length ∙ c.loop-command.invariant.same_length;
  released = λ t.
      omega (
        arith,
        c.loop-command.invariant.released t,
        split (goal.at.loop-command-preserved c).In-Some t,
        c.release_command.ensures.each t,
      );
  room =
      Room_risen (brings (call_of c.in-Some.command)) (brought (calls_of c.pop_front.new.self.items))
      c.loop-command.ledger c.release_command.new.ledger (room (goal.at.loop-command-preserved c).In-Some)
      c.release_command.ensures;
}
