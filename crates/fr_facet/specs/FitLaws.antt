-- A value fits a type's own shape exactly where it is an element of the type: what holds of each type, and scalars.
use Rattle.std.proofs.Common.{◌≡◌, ℕ, ◌<◌, ℤ, pos, negsuc, Bool, true, [], ◌∷◌, length, get_or, Option, Some, None, if◌then◌else◌, nat_eq, refl, sym, ap, ◌∙◌, arith}
use Rattle.std.proofs.lemmas.Bool.{eqb-true}
use Rattle.std.proofs.lemmas.List.Quantifiers.{position-Some}
use Rattle.std.proofs.lemmas.Option.{slice_get-get_or}
use Rattle.fr_shape.specs.declared.shape.Def.{Def}
use Rattle.fr_shape.specs.declared.shape.ScalarKind.{ScalarKind}
use Rattle.fr_shape.specs.declared.shape.Shape.{Shape}
use Rattle.fr_shape.specs.declared.shape.ShapeId.{ShapeId}
use Rattle.fr_shape.specs.Fits.{fits, signed_bits, unsigned_bits, in_signed, in_unsigned}
use Rattle.fr_shape.specs.Look.{Table, behind, def_of, def_or_other, inner_of, settled, settled_in}
use Rattle.fr_shape.specs.Val.{Val, unit, bool, char, int, nat, text, token, product, variant, none, some, ok, err, list_of, map_of, set_of, ptr, dyn}
use Rattle.fr_facet.specs.Elements.{has_bits, scalar_takes}
use Rattle.fr_facet.specs.Facets.{first_own}
use Rattle.fr_facet.specs.Nameable.{nameable, within_table, nameable_at}
use Rattle.fr_facet.specs.Own.{is_scalar_of, kind_number}

-- The first shape with a definition has it.

none_in_none : (own : Def → Bool) (id : ℕ) → first_own (λ _ def. own def) [] ≡ Some id → ⊥
unfolding nameable
none_in_none own id found = cc

module _ (own : Def → Bool) where
  own_at : (table : Table) (id : ℕ) (d : Shape) → id < length (nameable table) → own (get_or (nameable table) id d).def ≡ true
      → own (def_of table id) ≡ true
  own_at table id d within e =
      ap (λ (o : Option Shape). own (def_or_other o)) (slice_get-get_or table id d (within_table table id within))
      ∙ ap (λ (s : Shape). own s.def) (sym (nameable_at table id d within)) ∙ e

  own_from : (table : Table) (id : ℕ) (d : Shape) → first_own (λ _ def. own def) table ≡ Some id
      → (id < length table) × (own (def_of table id) ≡ true)
  own_from table id d found =
      let at = position-Some (λ (s : Shape). own s.def) (nameable table) id d found in (
        within_table table id at.0,
        own_at table id d at.0 at.1,
      )

  -- it is the table's, and its definition is the type's own
  pub first_is_own : (table : Table) (id : ℕ) → first_own (λ _ def. own def) table ≡ Some id
      → (id < length table) × (own (def_of table id) ≡ true)
  first_is_own [] id found = absurd (none_in_none own id found)
  first_is_own (shape ∷ table) id found = own_from (shape ∷ table) id shape found

-- a definition that isn't `Other` stands for itself
pub settles : (table : Table) (id : ℕ) (def : Def) → ((inner : Option ShapeId) (further : ℕ → Def) → behind def inner further ≡ def)
    → id < length table → def_of table id ≡ def → settled table id ≡ def
settles [] id def stays within e = absurd (omega arith)
settles (shape ∷ table) id def stays within e =
    ap (λ (d : Def). behind d (inner_of (shape ∷ table) id) (λ wrapped. settled_in (shape ∷ table) (length table) wrapped)) e
    ∙ stays (inner_of (shape ∷ table) id) (λ wrapped. settled_in (shape ∷ table) (length table) wrapped)

-- Scalars

kind_of_number : ℕ → ScalarKind
kind_of_number n = if nat_eq n 0 then ScalarKind.Bool else if nat_eq n 1 then ScalarKind.Char else if nat_eq n 2 then ScalarKind.I8 else if nat_eq n 3 then ScalarKind.I16 else if nat_eq n 4 then ScalarKind.I32 else if nat_eq n 5 then ScalarKind.I64 else if nat_eq n 6 then ScalarKind.I128 else if nat_eq n 7 then ScalarKind.ISize else if nat_eq n 8 then ScalarKind.U8 else if nat_eq n 9 then ScalarKind.U16 else if nat_eq n 10 then ScalarKind.U32 else if nat_eq n 11 then ScalarKind.U64 else if nat_eq n 12 then ScalarKind.U128 else if nat_eq n 13 then ScalarKind.USize else if nat_eq n 14 then ScalarKind.String else ScalarKind.CowStr

kind_told : (kind : ScalarKind) → kind_of_number (kind_number kind) ≡ kind
unfolding kind_of_number
kind_told ScalarKind.Bool = refl
kind_told ScalarKind.Char = refl
kind_told ScalarKind.I8 = refl
kind_told ScalarKind.I16 = refl
kind_told ScalarKind.I32 = refl
kind_told ScalarKind.I64 = refl
kind_told ScalarKind.I128 = refl
kind_told ScalarKind.ISize = refl
kind_told ScalarKind.U8 = refl
kind_told ScalarKind.U16 = refl
kind_told ScalarKind.U32 = refl
kind_told ScalarKind.U64 = refl
kind_told ScalarKind.U128 = refl
kind_told ScalarKind.USize = refl
kind_told ScalarKind.String = refl
kind_told ScalarKind.CowStr = refl

same_kind : (a b : ScalarKind) → nat_eq (kind_number a) (kind_number b) ≡ true → a ≡ b
same_kind a b e = sym (kind_told a) ∙ ap kind_of_number (eqb-true (kind_number a) (kind_number b) e) ∙ kind_told b

scalar_is : (kind : ScalarKind) (def : Def) → is_scalar_of kind def ≡ true → def ≡ Def.Scalar kind
scalar_is kind (Def.Scalar other) own = ap Def.Scalar (same_kind other kind own)
scalar_is kind Def.Str own = cc
scalar_is kind Def.Opaque own = cc
scalar_is kind (Def.Struct struct) own = cc
scalar_is kind (Def.Enum enumeration) own = cc
scalar_is kind (Def.Option t) own = cc
scalar_is kind (Def.Result t e) own = cc
scalar_is kind (Def.List t) own = cc
scalar_is kind (Def.Map k v) own = cc
scalar_is kind (Def.Set t) own = cc
scalar_is kind (Def.Array t n) own = cc
scalar_is kind (Def.Pointer pointer) own = cc
scalar_is kind (Def.Slice t) own = cc
scalar_is kind Def.Dynamic own = cc
scalar_is kind Def.Undefined own = cc
scalar_is kind Def.Other own = cc

int_fits : (z : ℤ) (bits : Option ℕ) → in_signed z bits ≡ has_bits bits (in_signed z)
int_fits z (Some bits) = refl
int_fits (pos n) None = refl
int_fits (negsuc n) None = refl

nat_fits : (n : ℕ) (bits : Option ℕ) → in_unsigned n bits ≡ has_bits bits (in_unsigned n)
nat_fits n (Some bits) = refl
nat_fits n None = refl

scalar_fits : (kind : ScalarKind) (table : Table) (id : ℕ) → settled table id ≡ Def.Scalar kind → (v : Val) → fits table id v ≡ scalar_takes kind v
scalar_fits kind table id e unit = refl
scalar_fits kind table id e (bool b) = rw e refl
scalar_fits kind table id e (char c) = rw e refl
scalar_fits kind table id e (int z) = rw e (int_fits z (signed_bits kind))
scalar_fits kind table id e (nat n) = rw e (nat_fits n (unsigned_bits kind))
scalar_fits kind table id e (text t) = rw e refl
scalar_fits kind table id e (token t) = rw e refl
scalar_fits kind table id e (product vs) = rw e refl
scalar_fits kind table id e (variant i vs) = rw e refl
scalar_fits kind table id e none = rw e refl
scalar_fits kind table id e (some v) = rw e refl
scalar_fits kind table id e (ok v) = rw e refl
scalar_fits kind table id e (err v) = rw e refl
scalar_fits kind table id e (list_of vs) = rw e refl
scalar_fits kind table id e (set_of vs) = rw e refl
scalar_fits kind table id e (map_of es) = rw e refl
scalar_fits kind table id e (ptr v) = rw e refl
scalar_fits kind table id e (dyn d) = rw e refl

pub scalar_taken_fit : (kind : ScalarKind) (table : Table) (id : ℕ) → first_own (λ _ def. is_scalar_of kind def) table ≡ Some id
    → (v : Val) → fits table id v ≡ scalar_takes kind v
scalar_taken_fit kind table id found =
    let own = first_is_own (is_scalar_of kind) table id found in
    scalar_fits kind table id
    (settles table id (Def.Scalar kind) (λ _ _. refl) own.0 (scalar_is kind (def_of table id) own.1))
