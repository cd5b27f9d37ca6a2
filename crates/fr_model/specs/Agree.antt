-- The builder does what the journal says.
use Rattle.std.specs.Prelude.{◌≡◌}
use Rattle.fr_model.specs.Common.{ℕ, List, Meanings, Table, IsIn, IsPlain}
use Rattle.std.specs.Result.{result_ok}
use Rattle.fr_model.specs.Basis.{Call, IsFieldCall, IsFieldScript, Progress, initial_progress, rule, journal_run, IsFitting, AllFitting, State, initial, IsInOrder}
use Rattle.fr_model.specs.Relation.{IsRelated, BothGoOn}
use Rattle.fr_model.specs.Run.{full_run}
use Rattle.fr_model.specs.Step.{step}

-- For every table and root for which it is plain, whatever the hooks mean, and for every field script of fitting values: the
-- machine returns `Ok v` exactly where the journal completes to v.
abbrev pub MachineAgrees : Type 0
MachineAgrees =
    (hooks : Meanings) (table : Table) (root : ℕ) (script : List Call) → IsPlain table root → IsIn table root
    → IsFieldScript script → AllFitting table script → result_ok (full_run hooks table root script) ≡ journal_run table root script

-- a new builder and a run that begins are related
abbrev pub StartIsRelated : Type 0
StartIsRelated = (table : Table) (root : ℕ) → IsRelated table root (initial table root) initial_progress

-- Over a table that is plain for the root, from a state in order and a run that is related to it, a fitting call of a field script is
-- admitted exactly where a rule fits it, and then what follows is related again.
abbrev pub StepKeepsRelated : Type 0
StepKeepsRelated =
    (hooks : Meanings) (table : Table) (root : ℕ) (state : State) (run : Progress) (command : Call)
    → IsPlain table root → IsInOrder table root state → IsRelated table root state run → IsFieldCall command
    → IsFitting table command → BothGoOn table root (step hooks table root state command) (rule table root run command)
