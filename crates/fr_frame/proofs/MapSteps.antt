-- The steps to a map's children.
use Rattle.std.proofs.Common.{◌≡◌, ◌≢◌, ℕ, suc, ◌+◌, ◌-◌, ◌/◌, ◌%◌, Bool, true, false, refl, ap, arith, if◌then◌else◌}
use Rattle.fr_frame.specs.Common.{EntriesKind, as_entries}
use Rattle.fr_path.specs.declared.path_steps.PathStep.{PathStep}
use Rattle.fr_model.specs.Paths.{step_as}
use Rattle.fr_model.specs.Places.{entry_of, is_key}

-- the number of an entry's key is twice the entry's, that of its value one more
halves : (i : ℕ) → i ≡ (if is_key i then 0 else 1) + entry_of i + entry_of i
halves (suc (suc i)) = omega (arith, halves i)
halves _ = refl

-- of a map over a base of so many entries
module _ (base i number : ℕ) (is : number ≡ i / 2 - base) where
  pub key_step : i % 2 ≡ 0 → PathStep.MapKey number ≡ step_as (as_entries (EntriesKind.Map base)) i
  key_step even = go (is_key i) (halves i)
    where
      go : (b : Bool) → i ≡ (if b then 0 else 1) + entry_of i + entry_of i
          → PathStep.MapKey number ≡ (if b then PathStep.MapKey (entry_of i - base) else PathStep.MapValue (entry_of i - base))
      go true half = let same : number ≡ entry_of i - base = omega (arith, is, half) in ap PathStep.MapKey same
      go false half = absurd (omega (arith, half, even))

  pub value_step : i % 2 ≢ 0 → PathStep.MapValue number ≡ step_as (as_entries (EntriesKind.Map base)) i
  value_step odd = go (is_key i) (halves i)
    where
      go : (b : Bool) → i ≡ (if b then 0 else 1) + entry_of i + entry_of i
          → PathStep.MapValue number ≡ (if b then PathStep.MapKey (entry_of i - base) else PathStep.MapValue (entry_of i - base))
      go true half = absurd (odd (omega (arith, half)))
      go false half = let same : number ≡ entry_of i - base = omega (arith, is, half) in ap PathStep.MapValue same
