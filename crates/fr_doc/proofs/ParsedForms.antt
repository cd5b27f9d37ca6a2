-- What std's `parse` finds, in the words of the forms.
use Rattle.std.proofs.Common.{◌≡◌, ℕ, ◌+◌, ◌^◌, ◌<◌, ◌≤◌, ◌≢◌, ◌==◌, Bool, true, false, cond, if◌then◌else◌, List, [], ◌∷◌, length, drop, get_or, Some, None, refl, sym, ap, ◌∙◌, arith, nat_lt, ℤ, pos, neg_ℤ, append-nil}
use Rattle.std.specs.Prelude.{Result, Ok, Err}
use Rattle.std.specs.Result.{OkIff, result_ok}
use Rattle.std.specs.Char.{encode_utf8, IsScalar}
use Rattle.std.proofs.Math.Utf8.{scalar, scalars, encodes}
use Rattle.std.proofs.lemmas.Bool.{and_parts, ltb-true, lt-ltb, ne_eqb, eqb-true}
use Rattle.std.specs.Str.{all_ascii_digits, chars, IsUtf8}
use Rattle.std.specs.Str.Parse.{digits_value, starts_with_minus, ParsesUnsigned, ParsesSigned, ParsesChar}
use Rattle.std.specs.Int.{w128}
use Rattle.std.proofs.lemmas.Str.{chars_past_char, encodes-chars, scalars-chars, chars-nil}
use Rattle.std.proofs.lemmas.Str.Parse.{IsNumeralModel, numerals_by_value, tells_all_ascii_digits, parse_digits, parse_signed_digits, parse_signed_minus}
use Rattle.fr_shape.specs.Parsing.{is_numeral, only}
use Rattle.fr_doc.specs.Numerals.{without_minus, signed, digits_nat, digits_int, one_char}

own : IsNumeralModel (λ ds. all_ascii_digits ds ≡ true) (digits_value 10)
own = numerals_by_value _ tells_all_ascii_digits

-- what is Ok exactly where P holds, by a test of P
ok_where : {X E : Type 0} (r : Result X E) (P : Type 0) (b : Bool) (x : X) → OkIff r P x → (b ≡ true → P) → (P → b ≡ true) → result_ok r ≡ (if b then Some x else None)
ok_where (Ok y) P true x h to from = ap Some h.1
ok_where (Ok y) P false x h to from = let impossible : false ≡ true = from h.0 in cc
ok_where (Err e) P true x h to from = absurd (h (to refl))
ok_where (Err e) P false x h to from = refl

digits_parts : (bs : List ℕ) → is_numeral bs ≡ true → (all_ascii_digits bs ≡ true) × (0 < length bs)
digits_parts bs digits =
    let both = and_parts (nat_lt 0 (length bs)) (all_ascii_digits bs) digits in (both.1, ltb-true 0 (length bs) both.0)

-- a text of digits parses as the number that they write, if that has 128 bits
pub nat_parses : {E : Type 0} (bs : List ℕ) (r : Result ℕ E) → ParsesUnsigned 128 10 bs r → is_numeral bs ≡ true → result_ok r ≡ digits_nat bs
unfolding digits_nat
nat_parses bs r h digits =
    let parts = digits_parts bs digits in
    let n = digits_value 10 bs in
    rw digits (ok_where r ((0 < length bs) × (n < 2 ^ 128)) (nat_lt n (2 ^ 128)) n (parse_digits own 128 bs r h parts.0) (λ b. (parts.1, ltb-true n (2 ^ 128) b)) (λ p. lt-ltb n (2 ^ 128) p.1))

pub nat_not_digits : (bs : List ℕ) → is_numeral bs ≡ false → digits_nat bs ≡ None
unfolding digits_nat
nat_not_digits bs other = rw other

pub no_minus : (bs : List ℕ) → ((rest : List ℕ) → bs ≢ 45 ∷ rest) → without_minus bs ≡ bs
no_minus [] h = refl
no_minus (c ∷ rest) h =
    let e : (c == 45) ≡ false = ne_eqb c 45 (λ same. h rest (ap (λ x. x ∷ rest) same)) in rw e

int_signed : {E : Type 0} (bs : List ℕ) (r : Result ℤ E) → ParsesSigned w128 10 bs r → (minus : Bool) → starts_with_minus bs ≡ minus → is_numeral (cond minus (drop 1 bs) bs) ≡ true → result_ok r ≡ signed minus (digits_value 10 (cond minus (drop 1 bs) bs))
int_signed bs r h true e digits =
    let parts = digits_parts (drop 1 bs) digits in
    let n = digits_value 10 (drop 1 bs) in
    ok_where r ((all_ascii_digits (drop 1 bs) ≡ true) × (0 < length (drop 1 bs)) × (n ≤ 2 ^ 127)) (nat_lt n (2 ^ 127 + 1)) (neg_ℤ (pos n)) (parse_signed_minus own w128 bs r h (eqb-true (get_or bs 0 0) 45 e))
    (λ b. (parts.0, parts.1, omega (arith, ltb-true n (2 ^ 127 + 1) b)))
    (λ p. lt-ltb n (2 ^ 127 + 1) (omega (arith, p.2)))
int_signed bs r h false e digits =
    let parts = digits_parts bs digits in
    let n = digits_value 10 bs in
    ok_where r ((0 < length bs) × (n < 2 ^ 127)) (nat_lt n (2 ^ 127)) (pos n) (parse_signed_digits own w128 bs r h parts.0)
    (λ b. (parts.1, ltb-true n (2 ^ 127) b))
    (λ p. lt-ltb n (2 ^ 127) p.1)

pub int_parses : {E : Type 0} (bs : List ℕ) (r : Result ℤ E) → ParsesSigned w128 10 bs r → is_numeral (without_minus bs) ≡ true → result_ok r ≡ digits_int bs
unfolding digits_int
int_parses bs r h digits = rw digits (int_signed bs r h (starts_with_minus bs) refl digits)

pub int_not_digits : (bs : List ℕ) → is_numeral (without_minus bs) ≡ false → digits_int bs ≡ None
unfolding digits_int
int_not_digits bs other = rw other

not_one : (bs cs : List ℕ) → scalars cs ≡ true → encodes cs ≡ bs → ((c : ℕ) → IsScalar c → bs ≢ encode_utf8 c) → None ≡ only cs
not_one bs [] s e h = refl
not_one bs (c ∷ []) s e h = absurd (h c (and_parts (scalar c) true s).0 (sym e ∙ append-nil (encode_utf8 c)))
not_one bs (c ∷ d ∷ rest) s e h = refl

-- a text parses as its character, if it has just one
pub char_parses : {E : Type 0} (bs : List ℕ) (r : Result ℕ E) → IsUtf8 bs → ParsesChar bs r → result_ok r ≡ one_char bs
char_parses bs (Ok c) text h = sym (ap only (chars_past_char bs [] c text (h ∙ sym (append-nil (encode_utf8 c))) ∙ ap (λ t. c ∷ t) chars-nil))
char_parses bs (Err e) text h = not_one bs (chars bs) (scalars-chars bs text) (encodes-chars bs text) h
