-- What the reading of a part of a document gives, against what stands there.
use Rattle.std.specs.Prelude.{◌≡◌, Result, Ok, Err, ⊤}
use Rattle.fr_doc.specs.declared.fault.DocFault.{DocFault}
use Rattle.fr_doc.specs.declared.fault.ReadError.{ReadError}

-- what was read is what the part is, a fault is the part's fault, and any part may be out of memory
abbrev pub Gives : {X : Type 0} → Result X DocFault → Result X (ReadError DocFault) → Type 0
Gives part (Ok found) = part ≡ Ok found
Gives part (Err (ReadError.Fault fault)) = part ≡ Err fault
Gives part (Err ReadError.Memory) = ⊤
