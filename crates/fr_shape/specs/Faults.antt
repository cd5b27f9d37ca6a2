-- Which rule of a checked table an entry breaks, the rules counted from 1.
use Rattle.std.specs.Prelude.{◌≡◌, ℕ, ◌-◌, ◌<◌, ◌≤◌, Bool, true, false, List, [], ◌∷◌, slice_get, slice_index_or, Some}
use Rattle.fr_shape.specs.declared.shape.Shape.{Shape}
use Rattle.fr_shape.specs.Look.{Table}
use Rattle.fr_shape.specs.Checked.{ids_in_range, name_is_new, parts_are_sized, variants_apart, validators_suit, templates_fit, conversion_suits, hooks_in_range, option_preset_is_none, EachKeeps}

-- the nine rules in their order, each a test of an entry's number and the entry
abbrev pub rules_of : Table → List (ℕ → Shape → Bool)
rules_of table =
    (λ i shape. ids_in_range table shape) ∷ name_is_new table ∷ (λ i shape. parts_are_sized table shape)
    ∷ (λ i shape. variants_apart shape) ∷ (λ i shape. validators_suit table shape) ∷ templates_fit table
    ∷ (λ i shape. conversion_suits shape) ∷ (λ i shape. hooks_in_range shape)
    ∷ (λ i shape. option_preset_is_none shape) ∷ []

-- the entry of number i keeps the rule of this number
abbrev pub keeps : Table → (rule : ℕ) → ℕ → Shape → Bool
keeps table rule = slice_index_or (rules_of table) (rule - 1) (λ i shape. true)

-- every entry keeps every rule before this one
abbrev pub EarlierRulesHold : Table → (rule : ℕ) → Type 0
EarlierRulesHold table rule = (r : ℕ) → 1 ≤ r → r < rule → EachKeeps table (keeps table r)

-- every entry before this one keeps the rule
abbrev pub EarlierEntriesKeep : Table → (rule entry : ℕ) → Type 0
EarlierEntriesKeep table rule entry =
    (i : ℕ) (shape : Shape) → i < entry → slice_get table i ≡ Some shape → keeps table rule i shape ≡ true

-- the entry of this number is there, and breaks the rule
abbrev pub IsBrokenAt : Table → (rule entry : ℕ) → Type 0
IsBrokenAt table rule entry =
    (shape : Shape) × (slice_get table entry ≡ Some shape) × (keeps table rule entry shape ≡ false)
