-- What holds of a result follows from what holds of it.
use Rattle.std.proofs.Common.{Result, Ok, Err, IfOk}

pub if_ok : {A E : Type 0} {P Q : A → Type 0} → (result : Result A E) → ((a : A) → P a → Q a) → IfOk result P → IfOk result Q
if_ok (Ok a) then holds = then a holds
if_ok (Err e) then holds = tt
