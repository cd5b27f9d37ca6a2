-- Reading the numbered items of an array one after another, up to the first that is at fault.
use Rattle.std.proofs.Common.{◌≡◌, ℕ, ◌+◌, List, ◌++◌, drop, Ok}
use Rattle.std.specs.Prelude.{Result}
use Rattle.serde_json.specs.Data.{Data}
use Rattle.serde_json.specs.View.{items_view}
use Rattle.serde_json.specs.declared.value.Value.{Value}
use Rattle.fr_doc.specs.declared.fault.DocFault.{DocFault}
use Rattle.fr_doc.specs.FaultSteps.{◌>>=◌, each_at}

-- what was read so far, before what is still to be read
abbrev pub before : {X : Type 0} → List X → Result (List X) DocFault → Result (List X) DocFault
before xs rest = rest >>= λ ys. Ok (xs ++ ys)

module _ {X : Type 0} (part : ℕ → Data → Result X DocFault) where
  abbrev pub left_at : List Value → ℕ → Result (List X) DocFault
  left_at vs i = each_at part i (items_view (drop i vs))

  -- the invariant: what was read, with what is left, is the whole
  abbrev pub IsReadTo : List Value → ℕ → List X → Type 0
  IsReadTo vs i xs = before xs (left_at vs i) ≡ each_at part 0 (items_view vs)
