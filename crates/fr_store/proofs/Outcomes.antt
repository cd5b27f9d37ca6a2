-- What is so where a call went well, and where there was no memory.
use Rattle.std.proofs.Common.{◌⊎◌, inl, inr}
use Rattle.std.specs.Prelude.{Result, Ok, Err, IfErr, OnOk, OnErr}

module _ {A E So Too Then : Type 0} where
  pub either_way : (result : Result A E) → (So → Then) → (Too → Then) → OnOk result So → OnErr result Too → Then
  either_way (Ok x) step back so refused = step so
  either_way (Err e) step back so refused = back refused

  pub both_refused : (result : Result A E) → (So → Too → Then) → OnErr result So → OnErr result Too → OnErr result Then
  both_refused (Ok x) step so too = tt
  both_refused (Err e) step so too = step so too

-- what is so by each plan where it went well
pub on_ok_each : {A E By : Type 0} {May : By → Type 0} (So : By → Type 0) (result : Result A E)
    → ((by : By) → May by → OnOk result (So by)) → OnOk result ((by : By) → May by → So by)
on_ok_each So (Ok x) so = so
on_ok_each So (Err e) so = tt

-- what follows from the second of two causes
pub or_so : {A B C : Type 0} → A ⊎ B → (B → C) → A ⊎ C
or_so (inl a) so = inl a
or_so (inr b) so = inr (so b)

-- where a call was refused, what follows from its cause
pub if_err_each : {A E : Type 0} {So Too : E → Type 0} (result : Result A E) → ((e : E) → So e → Too e) → IfErr result So → IfErr result Too
if_err_each (Ok x) step so = tt
if_err_each (Err e) step so = step e so
