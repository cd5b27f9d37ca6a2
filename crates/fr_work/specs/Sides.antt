-- The sides of a result, and the calls that enter them.
use Rattle.std.specs.Prelude.{◌≡◌, ◌⊎◌}
use Rattle.fr_model.specs.Commands.{Call}
use Rattle.fr_model.specs.Trackers.{Tracker, as_content, ContentKind}

-- a place is begun so around one side of a result
abbrev pub IsSide : Tracker → Type 0
IsSide tracker = (tracker ≡ as_content ContentKind.Ok) ⊎ (tracker ≡ as_content ContentKind.Err)

-- the call that enters this side
abbrev pub side_call : Tracker → Call
side_call (as_content ContentKind.Err) = Call.BeginErr
side_call _ = Call.BeginOk
