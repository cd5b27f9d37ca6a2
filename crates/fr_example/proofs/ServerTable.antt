-- The table of a server is what a builder asks of one.
use Rattle.std.proofs.Common.{◌≡◌, ◌<◌, ◌^◌, ℕ, zero, suc, Bool, true, List, [], ◌∷◌, Option, Some, None, unwrap_or, slice_get, codes, zip, IsSome, refl, sym, ap, ◌∙◌, subst, arith}
use Rattle.fr_shape.specs.declared.shape.VariantDef.{VariantDef}
use Rattle.fr_shape.specs.Checked.{IsChecked, EachKeeps, ids_in_range, name_is_new, parts_are_sized, variants_apart, validators_suit, templates_fit, conversion_suits, hooks_in_range, option_preset_is_none}
use Rattle.fr_shape.specs.Numbered.{IsNumbered, field_count}
use Rattle.fr_shape.specs.declared.shape.ScalarKind.{ScalarKind}
use Rattle.fr_shape.specs.declared.shape.Shape.{Shape}
use Rattle.fr_shape.specs.Describing.{list_shape, scalar_shape}
use Rattle.fr_shape.specs.Look.{Table, def_of, variants_of}
use Rattle.fr_shape.specs.declared.shape.Def.{Def}
use Rattle.fr_facet.specs.Facets.{first_own}
use Rattle.fr_facet.specs.Nameable.{nameable}
use Rattle.fr_facet.specs.Own.{is_list_of, is_scalar_of}
use Rattle.fr_facet.specs.Structs.{is_struct_of}
use Rattle.fr_partial.specs.Typed.{HasShape, own_number}
use Rattle.fr_example.specs.Servers.{server_fields, server_shape, server_table}

some_is : {A : Type 0} {x y : A} → Some x ≡ Some y → x ≡ y
some_is same = cc

-- what holds of each of the four shapes at its number holds of every shape of the table
each_shape : (P : ℕ → Shape → Type 0) → P 0 (scalar_shape ScalarKind.String) → P 1 (scalar_shape ScalarKind.U16)
    → P 2 (list_shape (codes "Vec<u16>") (record { 0 = 1 })) → P 3 server_shape
    → (id : ℕ) (shape : Shape) → slice_get server_table id ≡ Some shape → P id shape
each_shape P a b c d zero shape is = let same : Some (scalar_shape ScalarKind.String) ≡ Some shape = is in subst (P 0) (some_is same) a
each_shape P a b c d (suc zero) shape is = let same : Some (scalar_shape ScalarKind.U16) ≡ Some shape = is in subst (P 1) (some_is same) b
each_shape P a b c d (suc (suc zero)) shape is =
    let same : Some (list_shape (codes "Vec<u16>") (record { 0 = 1 })) ≡ Some shape = is in subst (P 2) (some_is same) c
each_shape P a b c d (suc (suc (suc zero))) shape is = let same : Some server_shape ≡ Some shape = is in subst (P 3) (some_is same) d
each_shape P a b c d (suc (suc (suc (suc id)))) shape is = let none : None ≡ Some shape = is in cc

each_keeps : (rule : ℕ → Shape → Bool) → rule 0 (scalar_shape ScalarKind.String) ≡ true → rule 1 (scalar_shape ScalarKind.U16) ≡ true
    → rule 2 (list_shape (codes "Vec<u16>") (record { 0 = 1 })) ≡ true → rule 3 server_shape ≡ true → EachKeeps server_table rule
each_keeps rule = each_shape (λ id shape. rule id shape ≡ true)

pub server_checked : IsChecked server_table
server_checked = record {
  ids = each_keeps (λ i shape. ids_in_range server_table shape) refl refl refl refl;
  names = each_keeps (name_is_new server_table) refl refl refl refl;
  sizes = each_keeps (λ i shape. parts_are_sized server_table shape) refl refl refl refl;
  variants = each_keeps (λ i shape. variants_apart shape) refl refl refl refl;
  validators = each_keeps (λ i shape. validators_suit server_table shape) refl refl refl refl;
  templates = each_keeps (templates_fit server_table) refl refl refl refl;
  conversions = each_keeps (λ i shape. conversion_suits shape) refl refl refl refl;
  hooks = each_keeps (λ i shape. hooks_in_range shape) refl refl refl refl;
  options = each_keeps (λ i shape. option_preset_is_none shape) refl refl refl refl;
}

few_fields : (id : ℕ) → field_count (def_of server_table id) < 2 ^ 32
few_fields zero = omega arith
few_fields (suc zero) = omega arith
few_fields (suc (suc zero)) = omega arith
few_fields (suc (suc (suc zero))) = omega arith
few_fields (suc (suc (suc (suc id)))) = omega arith

no_variants : (id : ℕ) → variants_of (def_of server_table id) ≡ []
no_variants zero = refl
no_variants (suc zero) = refl
no_variants (suc (suc zero)) = refl
no_variants (suc (suc (suc zero))) = refl
no_variants (suc (suc (suc (suc id)))) = refl

pub server_numbered : IsNumbered server_table
server_numbered = record {
  shapes = omega arith;
  fields = few_fields;
  variants = λ id. rw (no_variants id) (omega arith);
  variant_fields = λ id i variant is.
      let none : None ≡ Some variant = sym (ap (λ (vs : List VariantDef). slice_get vs i) (no_variants id)) ∙ is in cc;
}

-- a server's own definitions
abbrev pub server_own : Table → Def → Bool
server_own table def =
    is_struct_of (zip server_fields
    (first_own (λ _ d. is_scalar_of ScalarKind.String d) table
    ∷ first_own (λ t d. is_list_of (first_own (λ _ e. is_scalar_of ScalarKind.U16 e) t) d) table ∷ [])) def

there : first_own server_own server_table ≡ Some 3
unfolding nameable
there = refl

pub server_found : (table : Table) → table ≡ server_table → IsSome (first_own server_own table)
server_found table is = subst (λ (t : Table). IsSome (first_own server_own t)) (sym is) (rw there refl)

-- Its shape is the last, that of its host the first, and that of its ports the second.

pub server_number : own_number server_own server_table ≡ 3
server_number = ap (λ (found : Option ℕ). unwrap_or found 0) there

-- those of a text, and of a port
abbrev pub text_own : Table → Def → Bool
text_own table def = is_scalar_of ScalarKind.String def

abbrev pub port_own : Table → Def → Bool
port_own table def = is_scalar_of ScalarKind.U16 def

text_there : first_own text_own server_table ≡ Some 0
unfolding nameable
text_there = refl

port_there : first_own port_own server_table ≡ Some 1
unfolding nameable
port_there = refl

pub text_number : own_number text_own server_table ≡ 0
text_number = ap (λ (found : Option ℕ). unwrap_or found 0) text_there

pub port_number : own_number port_own server_table ≡ 1
port_number = ap (λ (found : Option ℕ). unwrap_or found 0) port_there

pub text_found : HasShape text_own server_table
text_found = rw text_there refl

pub port_found : HasShape port_own server_table
port_found = rw port_there refl
