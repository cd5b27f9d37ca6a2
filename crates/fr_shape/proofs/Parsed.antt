-- What std's `parse` finds, in the words of what a text is parsed to.
use Rattle.std.proofs.Common.{◌≡◌, ℕ, ◌^◌, ◌<◌, ◌≢◌, Bool, true, false, ◌&&◌, if◌then◌else◌, List, [], ◌∷◌, length, Option, Some, None, refl, sym, ap, subst, ◌∙◌, arith, nat_lt, ℤ, pos, negsuc, append-nil, option_map, SFits, to_z, of_z}
use Rattle.std.specs.Prelude.{Result, Ok, Err}
use Rattle.std.specs.Option.{option_and_then}
use Rattle.std.specs.Result.{result_ok}
use Rattle.std.specs.Char.{encode_utf8, IsScalar}
use Rattle.std.specs.Str.{all_ascii_digits, chars, IsUtf8}
use Rattle.std.specs.Str.Parse.{IsNumeral, digits_value, signed_digits_value, without_leading_plus, without_leading_sign, ParsesUnsigned, ParsesSigned, ParsesChar}
use Rattle.std.specs.Int.{w128}
use Rattle.std.proofs.Math.Utf8.{scalar, scalars, encodes}
use Rattle.std.proofs.lemmas.Bool.{and_parts, and_from, ltb-true, lt-ltb}
use Rattle.std.proofs.lemmas.Int.{to_z-of_z}
use Rattle.std.proofs.lemmas.Str.{chars_past_char, encodes-chars, scalars-chars, chars-nil}
use Rattle.std.proofs.lemmas.Str.Parse.{IsNumeralModel, numerals_by_value, tells_all_ascii_digits}
use Rattle.fr_shape.specs.declared.shape.ScalarKind.{ScalarKind}
use Rattle.fr_shape.specs.Fits.{signed_bits, unsigned_bits, in_signed, in_unsigned}
use Rattle.fr_shape.specs.Parsing.{is_numeral, only, parsed_char, parsed_int, parsed_nat}
use Rattle.fr_shape.specs.Val.{Val, char, int, nat}

own : IsNumeralModel (λ ds. all_ascii_digits ds ≡ true) (digits_value 10)
own = numerals_by_value _ tells_all_ascii_digits

numeral : (ds : List ℕ) → IsNumeral 10 ds → is_numeral ds ≡ true
numeral ds h = and_from (nat_lt 0 (length ds)) (all_ascii_digits ds) (lt-ltb 0 (length ds) h.0) (own.from ds h.1)

is_numeral_parts : (ds : List ℕ) → is_numeral ds ≡ true → IsNumeral 10 ds
is_numeral_parts ds e =
    let both = and_parts (nat_lt 0 (length ds)) (all_ascii_digits ds) e in (ltb-true 0 (length ds) both.0, own.to ds both.1)

-- nothing is told where a test fails
none_unless : (v : Val) (b : Bool) → b ≢ true → None ≡ (if b then Some v else None)
none_unless v true h = absurd (h refl)
none_unless v false h = refl

-- every unsigned kind has at most 128 bits
below_128 : (n : ℕ) (kind : ScalarKind) → in_unsigned n (unsigned_bits kind) ≡ true → n < 2 ^ 128
below_128 n ScalarKind.U8 e = omega (arith, ltb-true n (2 ^ 8) e)
below_128 n ScalarKind.U16 e = omega (arith, ltb-true n (2 ^ 16) e)
below_128 n ScalarKind.U32 e = omega (arith, ltb-true n (2 ^ 32) e)
below_128 n ScalarKind.U64 e = omega (arith, ltb-true n (2 ^ 64) e)
below_128 n ScalarKind.U128 e = ltb-true n (2 ^ 128) e
below_128 n ScalarKind.USize e = omega (arith, ltb-true n (2 ^ 64) e)
below_128 n ScalarKind.Bool e = cc
below_128 n ScalarKind.Char e = cc
below_128 n ScalarKind.I8 e = cc
below_128 n ScalarKind.I16 e = cc
below_128 n ScalarKind.I32 e = cc
below_128 n ScalarKind.I64 e = cc
below_128 n ScalarKind.I128 e = cc
below_128 n ScalarKind.ISize e = cc
below_128 n ScalarKind.String e = cc
below_128 n ScalarKind.CowStr e = cc

nat_parses : {E : Type 0} (kind : ScalarKind) (bs : List ℕ) (r : Result ℕ E) → ParsesUnsigned 128 10 bs r
    → option_and_then (λ n. if in_unsigned n (unsigned_bits kind) then Some (nat n) else None) (result_ok r) ≡ parsed_nat (unsigned_bits kind) bs
nat_parses kind bs (Ok n) h = rw (h.1, numeral (without_leading_plus bs) h.0.0) refl
nat_parses kind bs (Err e) h =
    let ds = without_leading_plus bs in
    let n = digits_value 10 ds in
    none_unless (nat n) (is_numeral ds && in_unsigned n (unsigned_bits kind))
    (λ b. let both = and_parts (is_numeral ds) (in_unsigned n (unsigned_bits kind)) b in h (is_numeral_parts ds both.0, below_128 n kind both.1))

-- at an unsigned kind a text is parsed to the number that `parse` finds, if it is in the kind's range
pub nat_kept : {E : Type 0} (kind : ScalarKind) (bs : List ℕ) (r : Result ℕ E) (n : ℕ) (kept : Bool) → ParsesUnsigned 128 10 bs r → result_ok r ≡ Some n
    → in_unsigned n (unsigned_bits kind) ≡ kept → (if kept then Some (nat n) else None) ≡ parsed_nat (unsigned_bits kind) bs
nat_kept kind bs r n kept h is in_range =
    sym (ap (λ (b : Bool). if b then Some (nat n) else None) in_range)
    ∙ sym (ap (option_and_then (λ m. if in_unsigned m (unsigned_bits kind) then Some (nat m) else None)) is)
    ∙ nat_parses kind bs r h

pub nat_not : {E : Type 0} (kind : ScalarKind) (bs : List ℕ) (r : Result ℕ E) → ParsesUnsigned 128 10 bs r → result_ok r ≡ None
    → None ≡ parsed_nat (unsigned_bits kind) bs
nat_not kind bs r h is =
    sym (ap (option_and_then (λ m. if in_unsigned m (unsigned_bits kind) then Some (nat m) else None)) is) ∙ nat_parses kind bs r h

-- every signed kind has at most 128 bits
below_127 : (n : ℕ) (kind : ScalarKind) → in_signed (pos n) (signed_bits kind) ≡ true → n < 2 ^ 127
below_127 n ScalarKind.I8 e = omega (arith, ltb-true n (2 ^ 7) e)
below_127 n ScalarKind.I16 e = omega (arith, ltb-true n (2 ^ 15) e)
below_127 n ScalarKind.I32 e = omega (arith, ltb-true n (2 ^ 31) e)
below_127 n ScalarKind.I64 e = omega (arith, ltb-true n (2 ^ 63) e)
below_127 n ScalarKind.I128 e = ltb-true n (2 ^ 127) e
below_127 n ScalarKind.ISize e = omega (arith, ltb-true n (2 ^ 63) e)
below_127 n ScalarKind.Bool e = cc
below_127 n ScalarKind.Char e = cc
below_127 n ScalarKind.U8 e = cc
below_127 n ScalarKind.U16 e = cc
below_127 n ScalarKind.U32 e = cc
below_127 n ScalarKind.U64 e = cc
below_127 n ScalarKind.U128 e = cc
below_127 n ScalarKind.USize e = cc
below_127 n ScalarKind.String e = cc
below_127 n ScalarKind.CowStr e = cc

-- a number below 0 is in a range just where the one as far above -1 is
mirrored : (n : ℕ) (bits : Option ℕ) → in_signed (negsuc n) bits ≡ in_signed (pos n) bits
mirrored n (Some bits) = refl
mirrored n None = refl

in_128_bits : (z : ℤ) (kind : ScalarKind) → in_signed z (signed_bits kind) ≡ true → SFits w128 z
in_128_bits (pos n) kind e = record { sfits = below_127 n kind e }
in_128_bits (negsuc n) kind e =
    let below : n < 2 ^ 127 = below_127 n kind (sym (mirrored n (signed_bits kind)) ∙ e) in record { sfits = omega (arith, below) }

int_parses : {E : Type 0} (kind : ScalarKind) (bs : List ℕ) (r : Result ℤ E) → ParsesSigned w128 10 bs r
    → option_and_then (λ z. if in_signed z (signed_bits kind) then Some (int z) else None) (result_ok r) ≡ parsed_int (signed_bits kind) bs
int_parses kind bs (Ok z) h = rw (h.1, numeral (without_leading_sign bs) h.0.0) refl
int_parses kind bs (Err e) h =
    let ds = without_leading_sign bs in
    let z = signed_digits_value 10 bs in
    none_unless (int z) (is_numeral ds && in_signed z (signed_bits kind))
    (λ b. let both = and_parts (is_numeral ds) (in_signed z (signed_bits kind)) b in h (is_numeral_parts ds both.0, in_128_bits z kind both.1))

-- the same at a signed kind
pub int_kept : {E : Type 0} (kind : ScalarKind) (bs : List ℕ) (r : Result ℤ E) (z : ℤ) (kept : Bool) → ParsesSigned w128 10 bs r → result_ok r ≡ Some z
    → in_signed z (signed_bits kind) ≡ kept → (if kept then Some (int z) else None) ≡ parsed_int (signed_bits kind) bs
int_kept kind bs r z kept h is in_range =
    sym (ap (λ (b : Bool). if b then Some (int z) else None) in_range)
    ∙ sym (ap (option_and_then (λ y. if in_signed y (signed_bits kind) then Some (int y) else None)) is)
    ∙ int_parses kind bs r h

pub int_not : {E : Type 0} (kind : ScalarKind) (bs : List ℕ) (r : Result ℤ E) → ParsesSigned w128 10 bs r → result_ok r ≡ None
    → None ≡ parsed_int (signed_bits kind) bs
int_not kind bs r h is =
    sym (ap (option_and_then (λ y. if in_signed y (signed_bits kind) then Some (int y) else None)) is) ∙ int_parses kind bs r h

-- an integer that `parse` finds is as the machine keeps it in 128 bits
pub int_same : {E : Type 0} (bs : List ℕ) (r : Result ℤ E) (z : ℤ) → ParsesSigned w128 10 bs r → r ≡ Ok z → to_z w128 (of_z w128 z) ≡ z
int_same bs r z h is =
    let found : (IsNumeral 10 (without_leading_sign bs) × SFits w128 (signed_digits_value 10 bs)) × (z ≡ signed_digits_value 10 bs) =
    subst (ParsesSigned w128 10 bs) is h in
    to_z-of_z w128 z (subst (SFits w128) (sym found.1) found.0.1)

not_one : (bs cs : List ℕ) → scalars cs ≡ true → encodes cs ≡ bs → ((c : ℕ) → IsScalar c → bs ≢ encode_utf8 c) → None ≡ only cs
not_one bs [] s e h = refl
not_one bs (c ∷ []) s e h = absurd (h c (and_parts (scalar c) true s).0 (sym e ∙ append-nil (encode_utf8 c)))
not_one bs (c ∷ d ∷ rest) s e h = refl

only_char : {E : Type 0} (bs : List ℕ) (r : Result ℕ E) → IsUtf8 bs → ParsesChar bs r → result_ok r ≡ only (chars bs)
only_char bs (Ok c) text h = sym (ap only (chars_past_char bs [] c text (h ∙ sym (append-nil (encode_utf8 c))) ∙ ap (λ t. c ∷ t) chars-nil))
only_char bs (Err e) text h = not_one bs (chars bs) (scalars-chars bs text) (encodes-chars bs text) h

-- the character that a text is parsed to
pub char_parses : {E : Type 0} (bs : List ℕ) (r : Result ℕ E) (found : Option ℕ) → IsUtf8 bs → ParsesChar bs r → result_ok r ≡ found
    → option_map char found ≡ parsed_char bs
char_parses bs r found text h is = ap (option_map char) (sym is ∙ only_char bs r text h)
