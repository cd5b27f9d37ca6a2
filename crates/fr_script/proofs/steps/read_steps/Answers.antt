use Rattle.std.proofs.Common.{◌≡◌, ℕ, ◌<◌, ◌^◌, ◌&&◌, Bool, true, false, not, List, length, nat_lt, nat_le, None, Err, refl, sym, ◌∙◌, arith}
use Rattle.std.specs.Str.{all_ascii_digits}
use Rattle.std.specs.Str.Parse.{digits_value, ParsesUnsigned}
use Rattle.std.proofs.lemmas.Bool.{leb-true, ltb-true}
use Rattle.std.proofs.lemmas.Str.Parse.{IsNumeralModel, numerals_by_value, tells_all_ascii_digits, parse_digits}
use Rattle.fr_shape.specs.Parsing.{is_numeral}
use Rattle.fr_script.specs.Steps.{begins_with_zero, is_plain_numeral, steps_told}
use Rattle.fr_script.proofs.steps.read_steps.Goals as goal

own : IsNumeralModel (λ ds. all_ascii_digits ds ≡ true) (digits_value 10)
own = numerals_by_value _ tells_all_ascii_digits

both_true : (a b : Bool) → (a && b) ≡ true → (a ≡ true) × (b ≡ true)
both_true true b both = (refl, both)
both_true false b both = cc

-- plain digits whose number isn't read write too large a number
too_many : {E : Type 0} (text : List ℕ) (e : E) → ParsesUnsigned 32 10 text (Err e) → is_plain_numeral text ≡ true → None ≡ steps_told text
too_many text e unread plain = go (nat_le (digits_value 10 text) 50000) refl
  where
    numeral : is_numeral text ≡ true
    numeral = (both_true (is_numeral text) (not (begins_with_zero text)) plain).0

    parts : (nat_lt 0 (length text) ≡ true) × (all_ascii_digits text ≡ true)
    parts = both_true (nat_lt 0 (length text)) (all_ascii_digits text) numeral

    large : (0 < length text) × (digits_value 10 text < 2 ^ 32) → ⊥
    large = parse_digits own 32 text (Err e) unread parts.1

    go : (b : Bool) → nat_le (digits_value 10 text) 50000 ≡ b → None ≡ steps_told text
    go true few = absurd (large (ltb-true 0 (length text) parts.0, omega (arith, leb-true (digits_value 10 text) 50000 few)))
    go false many = rw (plain, many) refl

pub returns-in_default-2-clause-told : goal.returns-in_default-2-clause-told
returns-in_default-2-clause-told c =
    too_many c.args.text.now c.in_default.field-0 c.in_default.ensures.value.0
    (sym (rw c.as_bytes.ensures.value at c.is_plain_numeral.ensures) ∙ c.if-not-is_plain_numeral.false)
