-- A value of the place's own shape is put there without memory.
use Rattle.std.proofs.Common.{◌≡◌, ◌==◌, ◌&&◌, ℕ, Bool, true, false, not, refl, arith}
use Rattle.std.proofs.lemmas.Grind.{common_steps}
use Rattle.fr_shape.specs.Look.{Table, def_of}
use Rattle.fr_shape.specs.Plannable.{is_dynamic}
use Rattle.fr_values.specs.ConversionNeeds.{copies_to_convert}
use Rattle.fr_refusals.specs.SettingDynamic.{copies_at}

uncopied_by : (converts own copies : Bool) → own ≡ true → ((converts && not own) && copies) ≡ false
uncopied_by true true copies e = refl
uncopied_by true false copies e = grind (arith, common_steps)
uncopied_by false own copies e = refl

-- a value of the place's own shape isn't copied
pub not_copied : (table : Table) (s given : ℕ) → (s == given) ≡ true → copies_at table s given ≡ false
not_copied table s given e = uncopied_by (is_dynamic (def_of table s)) (s == given) (copies_to_convert (def_of table given)) e
