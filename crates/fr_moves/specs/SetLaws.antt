-- What a `set` is: its value is put as it is, or converted; and one of the place's own shape is put as it is.
use Rattle.std.proofs.Common.{◌≡◌, ℕ, Bool, true, false, ◌&&◌, ◌||◌, not, eq-eqb, if◌then◌else◌, nat_eq, refl, ◌∙◌, ap}
use Rattle.fr_moves.specs.Common.{State, Table, Val, converted, converts_at, def_of, is_dynamic, takes_shape, unless_refused}
use Rattle.fr_model.specs.Step.{is_str, is_owned_string, set, set_refusal, puts, puts_dynamic}

-- it is put as it is, if it may, where the place doesn't convert it
pub set_is : (table : Table) (s given : ℕ) (state : State) (v : Val) → set table s state given v
    ≡ (if converts_at table s given then puts_dynamic state given (converted table s (def_of table given) v)
    else unless_refused (set_refusal table s given) (puts state v))
set_is table s given state v = go (is_dynamic (def_of table s)) (nat_eq s given) refl refl
  where
    go : (a b : Bool) → is_dynamic (def_of table s) ≡ a → nat_eq s given ≡ b → set table s state given v
        ≡ (if converts_at table s given then puts_dynamic state given (converted table s (def_of table given) v)
        else unless_refused (set_refusal table s given) (puts state v))
    go false b d e = rw d refl
    go true true d e = rw (d, e) refl
    go true false d e = rw (d, e) refl

-- a place takes a value of its own shape as it is
pub takes_own : (table : Table) (s : ℕ) → takes_shape table s s ≡ true
takes_own table s = ap (λ (b : Bool). b || (is_str (def_of table s) && is_owned_string (def_of table s))) (eq-eqb s s refl)

pub keeps_own : (table : Table) (s : ℕ) → converts_at table s s ≡ false
keeps_own table s = ap (λ (b : Bool). is_dynamic (def_of table s) && not b) (eq-eqb s s refl) ∙ none (is_dynamic (def_of table s))
  where
    none : (b : Bool) → (b && false) ≡ false
    none true = refl
    none false = refl
