-- Worked examples, computed from the definitions.
use Rattle.std.specs.Prelude.{◌≡◌, ◌∷◌}
use Rattle.fr_model.specs.Common.{pos, [], List, None, Err, codes, Def, ScalarKind, StructKind, ValidatorDef, no_hooks, Table, plain_field, plain_shape, nat, message}
use Rattle.fr_model.specs.Basis.{Call, invalid_field, BeginDeferred, BeginNthField, End, FinishDeferred, Set}
use Rattle.fr_model.specs.Run.{full_run}

-- the shapes u64, and Vmin, a struct of one u64 that has to be at least 5
abbrev pub at_least_five : Table
at_least_five =
    plain_shape (codes "u64") (Def.Scalar ScalarKind.U64)
    ∷ plain_shape (codes "Vmin") (Def.Struct (record {
      kind = StructKind.Struct;
      fields = record (plain_field (codes "a") 0) { validators = ValidatorDef.Min (pos 5) ∷ [] } ∷ [];
    }))
    ∷ []

-- a field that is set to 1 in deferred mode
abbrev pub set_to_one : List Call
set_to_one = BeginDeferred ∷ BeginNthField 0 ∷ Set 0 (nat 1) ∷ End ∷ FinishDeferred ∷ []

-- the end of deferred mode runs validators
abbrev pub EndRunsValidators : Type 0
EndRunsValidators =
    full_run no_hooks at_least_five 1 set_to_one
    ≡ Err (record { number = 4; kind = invalid_field 1 None 0 (message (ValidatorDef.Min (pos 5)) (nat 1)); path = [] })
