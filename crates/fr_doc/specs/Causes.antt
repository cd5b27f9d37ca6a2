-- What a device's answers tell: which bytes moved, and why the device may have failed.
use Rattle.std.specs.Prelude.{◌<◌, ◌≡◌, ◌⊎◌, ◌≤◌, ◌+◌, ℕ, min, List, length, take, Option, Result, IfOk, MatchResult, OnErr}
use Rattle.std.specs.Io.KnownBytes.{prepend_known, append_known, IsAtEnd}

-- Counts of faults. A count is a u64 that stands still at its last value.

-- a call counted a fault: the count is higher afterwards, or it can go no higher
abbrev pub Rose : (before after : ℕ) → Type 0
Rose before after = (before < after) ⊎ (after ≡ 18446744073709551615)

-- the call failed only where the count rose
abbrev pub HasCause : {T E : Type 0} → (before after : ℕ) → Result T E → Type 0
HasCause before after result = OnErr result (Rose before after)

-- one more, or the last value
abbrev pub one_more : ℕ → ℕ
one_more n = min (n + 1) 18446744073709551615

-- the count is one more where the call failed, and otherwise the same
abbrev pub CountsFault : {T E : Type 0} → (before after : ℕ) → Result T E → Type 0
CountsFault before after result = MatchResult result (λ _. after ≡ before) (λ _. after ≡ one_more before)

-- One call.

-- no more bytes moved than a piece of this length has
abbrev pub MovesAtMost : {E : Type 0} → ℕ → Result ℕ E → Type 0
MovesAtMost len result = IfOk result (λ n. n ≤ len)

-- After `Ok(n)` the first n bytes of the piece are the next n of those that were left, and the others are left still.
-- After an error all are left still. Bytes that weren't told stay untold.
abbrev pub ReadMoves : {E : Type 0} → (before after : Option (List ℕ)) → Result ℕ E → List ℕ → Type 0
ReadMoves before after result piece = MatchResult result (λ n. before ≡ prepend_known (take n piece) after) (λ _. after ≡ before)

-- 0 is returned only where none of the told bytes is left
abbrev pub EndsOnlyAtEnd : {E : Type 0} → (left : Option (List ℕ)) → Result ℕ E → Type 0
EndsOnlyAtEnd left result = IfOk result (λ n. n ≡ 0 → IsAtEnd left)

-- After `Ok(n)` the first n bytes of the piece stand behind those that were taken before. After an error no byte was
-- taken. Bytes that weren't told stay untold.
abbrev pub WriteMoves : {E : Type 0} → (before after : Option (List ℕ)) → Result ℕ E → List ℕ → Type 0
WriteMoves before after result piece = MatchResult result (λ n. after ≡ append_known before (take n piece)) (λ _. after ≡ before)

-- of a piece that isn't empty something was taken
abbrev pub TakesSome : {E : Type 0} → Result ℕ E → List ℕ → Type 0
TakesSome result piece = IfOk result (λ n. 0 < length piece → 0 < n)

-- Many calls.

-- some of the bytes that were left are gone, at most so many, and the others are left still
abbrev pub LosesAtMost : ℕ → (before after : Option (List ℕ)) → Type 0
LosesAtMost most before after = (lost : List ℕ) × (length lost ≤ most) × (before ≡ prepend_known lost after)

-- a beginning of the text, and not the whole of it, stands behind what was taken before
abbrev pub TakesBeginning : (before after : Option (List ℕ)) → List ℕ → Type 0
TakesBeginning before after text = (n : ℕ) × (n < length text) × (after ≡ append_known before (take n text))
