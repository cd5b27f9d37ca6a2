-- One pair more at the end.
use Rattle.std.proofs.Common.{◌≡◌, ℕ, suc, ◌+◌, ◌<◌, Bool, true, false, List, [], ◌∷◌, ◌++◌, length, Option, Some, None, if◌then◌else◌, refl, sym, ◌∙◌, ap, arith}
use Rattle.std.specs.Option.{option_or}
use Rattle.std.specs.Str.{bytes_eq}
use Rattle.fr_shape.specs.declared.error.ReflectErrorKind.{ReflectErrorKind}
use Rattle.fr_shape.specs.declared.shape.Field.{Field}
use Rattle.fr_shape.specs.Look.{Table}
use Rattle.fr_shape.specs.Named.{first_declared}
use Rattle.fr_shape.specs.Val.{Val}
use Rattle.fr_example.specs.declared.record.Pair.{Pair}
use Rattle.fr_example.specs.Meant.{refusal_of, first_refusal, given, last_given}

or_none : {A : Type 0} (a : Option A) → option_or a None ≡ a
or_none (Some x) = refl
or_none None = refl

or_grouped : {A : Type 0} (a b c : Option A) → option_or (option_or a b) c ≡ option_or a (option_or b c)
or_grouped (Some x) b c = refl
or_grouped None b c = refl

-- what a pair at the end gives comes first
pub last_given_more : (table : Table) (root : ℕ) (pairs : List Pair) (pair : Pair) (i : ℕ)
    → last_given table root (pairs ++ pair ∷ []) i ≡ option_or (given table root pair i) (last_given table root pairs i)
last_given_more table root [] pair i = sym (or_none (given table root pair i))
last_given_more table root (p ∷ pairs) pair i =
    ap (λ (o : Option Val). option_or o (given table root p i)) (last_given_more table root pairs pair i)
    ∙ or_grouped (given table root pair i) (last_given table root pairs i) (given table root p i)

-- after pairs that aren't refused, the others decide
pub first_refusal_later : (table : Table) (root string : ℕ) (pairs others : List Pair)
    → first_refusal table root string pairs ≡ None
    → first_refusal table root string (pairs ++ others) ≡ first_refusal table root string others
first_refusal_later table root string [] others e = refl
first_refusal_later table root string (p ∷ pairs) others e =
    go (refusal_of table root string p) e (λ none. first_refusal_later table root string pairs others none)
  where
    go : (here : Option ReflectErrorKind) → option_or here (first_refusal table root string pairs) ≡ None
        → (first_refusal table root string pairs ≡ None
        → first_refusal table root string (pairs ++ others) ≡ first_refusal table root string others)
        → option_or here (first_refusal table root string (pairs ++ others))
        ≡ first_refusal table root string others
    go (Some kind) e later = cc
    go None e later = later e

-- a field that is found by its name is one of the fields
pub found_within : (name : List ℕ) (i j : ℕ) (fields : List Field) → first_declared name i fields ≡ Some j
    → j < i + length fields
found_within name i j [] e = cc
found_within name i j (field ∷ fields) e = go (bytes_eq field.name name) e (λ later. found_within name (suc i) j fields later)
  where
    go : (same : Bool) → (if same then Some i else first_declared name (suc i) fields) ≡ Some j
        → (first_declared name (suc i) fields ≡ Some j → j < suc i + length fields) → j < i + suc (length fields)
    go true e later = let same : i ≡ j = cc in omega arith
    go false e later = let below : j < suc i + length fields = later e in omega arith
