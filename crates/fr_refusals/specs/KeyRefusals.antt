-- Why no key, and no value, of a map can be begun.
use Rattle.std.specs.Prelude.{Bool, Option, Some, None, if◌then◌else◌}
use Rattle.fr_shape.specs.declared.error.Operation.{Operation}
use Rattle.fr_model.specs.Collections.{is_map}
use Rattle.fr_model.specs.Tree.{Tree}

-- a key, where it is known whether the place lacks its last child
abbrev pub key_refusal_by : Tree → (lacks : Bool) → Option Operation
key_refusal_by tree lacks =
    if is_map tree then (if lacks then Some Operation.KeyBeforeValue else None) else Some Operation.KeyBeforeInitMap

-- a value, where it is known so
abbrev pub value_refusal_by : Tree → (lacks : Bool) → Option Operation
value_refusal_by tree lacks =
    if is_map tree then (if lacks then None else Some Operation.ValueBeforeKey) else Some Operation.ValueBeforeKey
