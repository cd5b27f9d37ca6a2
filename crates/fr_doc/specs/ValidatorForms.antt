-- The validators that JSON stands for.
use Rattle.std.specs.Prelude.{ℕ, List, [], Option, Some, None, option_map, codes, if◌then◌else◌}
use Rattle.std.specs.Str.{bytes_eq}
use Rattle.serde_json.specs.Data.{Data, string, object}
use Rattle.serde_json.specs.Find.{as_array, as_str}
use Rattle.fr_shape.specs.declared.shape.ValidatorDef.{ValidatorDef}
use Rattle.fr_doc.specs.Keys.{only_member}
use Rattle.fr_doc.specs.Numerals.{small_int_form, length_form}
use Rattle.fr_doc.specs.ProxyForms.{hook_form}
use Rattle.fr_doc.specs.Steps.{◌>>=◌, each}

-- the validator that has a name of its own
unfoldable pub named_validator : List ℕ → Option ValidatorDef
named_validator word = if bytes_eq word (codes "url") then Some ValidatorDef.Url else None

-- the validator under a key
unfoldable pub keyed_validator : List ℕ → Data → Option ValidatorDef
keyed_validator key inner =
    if bytes_eq key (codes "min") then option_map ValidatorDef.Min (small_int_form inner) else
    if bytes_eq key (codes "max") then option_map ValidatorDef.Max (small_int_form inner) else
    if bytes_eq key (codes "min_length") then option_map ValidatorDef.MinLength (length_form inner) else
    if bytes_eq key (codes "max_length") then option_map ValidatorDef.MaxLength (length_form inner) else
    if bytes_eq key (codes "regex") then option_map ValidatorDef.Regex (as_str inner) else
    if bytes_eq key (codes "contains") then option_map ValidatorDef.Contains (as_str inner) else
    if bytes_eq key (codes "custom") then option_map ValidatorDef.Custom (hook_form inner) else None

-- a name, or an object of exactly one key
unfoldable pub validator_form : Data → Option ValidatorDef
validator_form (string word) = named_validator word
validator_form (object members) = do
  entry ← only_member members
  keyed_validator entry.0 entry.1
validator_form _ = None

-- an array of validators; none where nothing is given
unfoldable pub validators_form : Option Data → Option (List ValidatorDef)
validators_form None = Some []
validators_form (Some d) = do
  items ← as_array d
  each validator_form items
