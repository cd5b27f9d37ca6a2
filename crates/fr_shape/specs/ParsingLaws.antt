-- Laws of parsing, for proofs: what a text is parsed to fits its place, and holds no token.
use Rattle.std.specs.Prelude.{◌≡◌, ◌≢◌, ℕ, ℤ, Bool, true, false, ◌&&◌, List, [], ◌∷◌, length, Option, Some, None, option_map, if◌then◌else◌}
use mathlib.Core.Path.{refl, sym, ap, ◌∙◌, subst}
use Rattle.std.specs.Str.{bytes_eq, chars}
use Rattle.std.specs.Str.Parse.{digits_value, signed_digits_value, without_leading_plus, without_leading_sign, true_text, false_text}
use Rattle.std.proofs.lemmas.Bool.{and_parts}
use Rattle.fr_shape.specs.declared.shape.ShapeId.{ShapeId}
use Rattle.fr_shape.specs.declared.shape.Def.{Def}
use Rattle.fr_shape.specs.declared.shape.ScalarKind.{ScalarKind}
use Rattle.fr_shape.specs.Look.{Table, def_of, inner_of, behind, settled_in, settled}
use Rattle.fr_shape.specs.Fits.{fits, signed_bits, unsigned_bits, in_signed, in_unsigned, takes_bool, takes_char, takes_int, takes_nat, takes_text}
use Rattle.fr_shape.specs.Hooks.{IfGives}
use Rattle.fr_shape.specs.Parsing.{is_numeral, only, parsed_int, parsed_nat, parsed_scalar, gives_or_refuses, parsed}
use Rattle.fr_shape.specs.Tokens.{tokens}
use Rattle.fr_shape.specs.Val.{Val, bool, char, int, nat, text}

tested : (So : Val → Type 0) (v : Val) (test : Bool) → (test ≡ true → So v) → IfGives (gives_or_refuses (if test then Some v else None)) So
tested So v true h = h refl
tested So v false h = tt

mapped : (So : Val → Type 0) (f : ℕ → Val) (found : Option ℕ) → ((n : ℕ) → So (f n)) → IfGives (gives_or_refuses (option_map f found)) So
mapped So f (Some n) h = h n
mapped So f None h = tt

either : (So : Val → Type 0) (this that : Bool) → ((b : Bool) → So (bool b))
    → IfGives (gives_or_refuses (if this then Some (bool true) else if that then Some (bool false) else None)) So
either So true that h = h true
either So false true h = h false
either So false false h = tt

-- it is so of each form of scalar that the definition takes, and of this text if it takes texts
record AreSo (So : Val → Type 0) (s : List ℕ) (def : Def) : Type 0 where
  bools : (b : Bool) → takes_bool def ≡ true → So (bool b)
  chars : (c : ℕ) → takes_char def ≡ true → So (char c)
  ints : (z : ℤ) → takes_int z def ≡ true → So (int z)
  nats : (n : ℕ) → takes_nat n def ≡ true → So (nat n)
  texts : takes_text def ≡ true → So (text s)

module _ (So : Val → Type 0) (s : List ℕ) where
  signed : (kind : ScalarKind) → AreSo So s (Def.Scalar kind) → IfGives (gives_or_refuses (parsed_int (signed_bits kind) s)) So
  signed kind so =
      let numeral = is_numeral (without_leading_sign s) in
      let z = signed_digits_value 10 s in
      tested So (int z) (numeral && in_signed z (signed_bits kind)) (λ t. so.ints z (and_parts numeral (in_signed z (signed_bits kind)) t).1)

  unsigned : (kind : ScalarKind) → AreSo So s (Def.Scalar kind) → IfGives (gives_or_refuses (parsed_nat (unsigned_bits kind) s)) So
  unsigned kind so =
      let numeral = is_numeral (without_leading_plus s) in
      let n = digits_value 10 (without_leading_plus s) in
      tested So (nat n) (numeral && in_unsigned n (unsigned_bits kind)) (λ t. so.nats n (and_parts numeral (in_unsigned n (unsigned_bits kind)) t).1)

  scalar : (kind : ScalarKind) → AreSo So s (Def.Scalar kind) → IfGives (gives_or_refuses (parsed_scalar kind s)) So
  scalar ScalarKind.Bool so = either So (bytes_eq s true_text) (bytes_eq s false_text) (λ b. so.bools b refl)
  scalar ScalarKind.Char so = mapped So char (only (chars s)) (λ c. so.chars c refl)
  scalar ScalarKind.I8 so = signed ScalarKind.I8 so
  scalar ScalarKind.I16 so = signed ScalarKind.I16 so
  scalar ScalarKind.I32 so = signed ScalarKind.I32 so
  scalar ScalarKind.I64 so = signed ScalarKind.I64 so
  scalar ScalarKind.I128 so = signed ScalarKind.I128 so
  scalar ScalarKind.ISize so = signed ScalarKind.ISize so
  scalar ScalarKind.U8 so = unsigned ScalarKind.U8 so
  scalar ScalarKind.U16 so = unsigned ScalarKind.U16 so
  scalar ScalarKind.U32 so = unsigned ScalarKind.U32 so
  scalar ScalarKind.U64 so = unsigned ScalarKind.U64 so
  scalar ScalarKind.U128 so = unsigned ScalarKind.U128 so
  scalar ScalarKind.USize so = unsigned ScalarKind.USize so
  scalar ScalarKind.String so = so.texts refl
  scalar ScalarKind.CowStr so = so.texts refl

  such : (def : Def) → AreSo So s def → IfGives (parsed def s) So
  such (Def.Scalar kind) so = scalar kind so
  such Def.Str so = so.texts refl
  such _ so = tt

-- what a text is parsed to by what a shape settles to fits the shape
pub parsed_settled_fits : (table : Table) (id : ℕ) (s : List ℕ) → IfGives (parsed (settled table id) s) (λ v. fits table id v ≡ true)
parsed_settled_fits table id s =
    such (λ v. fits table id v ≡ true) s (settled table id)
    (record { bools = λ b t. t; chars = λ c t. t; ints = λ z t. t; nats = λ n t. t; texts = λ t. t })

-- a shape of this definition settles to it, where that is not `Other`
stands : (table : Table) (id : ℕ) (def : Def) → def_of table id ≡ def → ((inner : Option ShapeId) (stands_for : ℕ → Def) → behind def inner stands_for ≡ def)
    → def ≢ Def.Other → def ≡ settled table id
stands [] id def is itself other = absurd (other (sym is))
stands (shape ∷ shapes) id def is itself other =
    let table : Table = shape ∷ shapes in
    let below : ℕ → Def = λ wrapped. settled_in table (length shapes) wrapped in
    sym (itself (inner_of table id) below) ∙ ap (λ (d : Def). behind d (inner_of table id) below) (sym is)

-- what a text is parsed to by a shape's own definition fits the shape
pub parsed_fits : (table : Table) (id : ℕ) (s : List ℕ) → IfGives (parsed (def_of table id) s) (λ v. fits table id v ≡ true)
parsed_fits table id s = by_def (def_of table id) refl
  where
    by_settled : (def : Def) → def ≡ settled table id → IfGives (parsed def s) (λ v. fits table id v ≡ true)
    by_settled def is = subst (λ (d : Def). IfGives (parsed d s) (λ v. fits table id v ≡ true)) (sym is) (parsed_settled_fits table id s)

    by_def : (def : Def) → def_of table id ≡ def → IfGives (parsed def s) (λ v. fits table id v ≡ true)
    by_def (Def.Scalar kind) is = by_settled (Def.Scalar kind) (stands table id (Def.Scalar kind) is (λ inner stands_for. refl) (λ same. cc))
    by_def Def.Str is = by_settled Def.Str (stands table id Def.Str is (λ inner stands_for. refl) (λ same. cc))
    by_def _ is = tt

-- and holds no token
pub parsed_no_token : (def : Def) (s : List ℕ) → IfGives (parsed def s) (λ v. tokens v ≡ [])
parsed_no_token def s =
    such (λ v. tokens v ≡ []) s def
    (record { bools = λ b t. refl; chars = λ c t. refl; ints = λ z t. refl; nats = λ n t. refl; texts = λ t. refl })
