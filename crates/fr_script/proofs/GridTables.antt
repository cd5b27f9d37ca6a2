-- The table of the grid is what the builder asks, and plain.
use Rattle.std.proofs.Common.{◌≡◌, ℕ, zero, suc, Bool, true, List, ◌∷◌, Some, None, length, slice_get, refl, subst, arith}
use Rattle.fr_shape.specs.Checked.{IsChecked, EachKeeps, ids_in_range, name_is_new, parts_are_sized, variants_apart, validators_suit, templates_fit, conversion_suits, hooks_in_range, option_preset_is_none}
use Rattle.fr_shape.specs.Look.{IsIn}
use Rattle.fr_shape.specs.Plannable.{IsPlain, refusal_of, is_plain_shape}
use Rattle.fr_shape.specs.declared.shape.Shape.{Shape}
use Rattle.fr_shape.specs.declared.shape.VariantDef.{VariantDef}
use Rattle.fr_script.specs.Generator.{grid_table, grid, number_shape, token_shape, cell_shape, grid_shape}

some_is : {A : Type 0} {x y : A} → Some x ≡ Some y → x ≡ y
some_is same = cc

-- what holds of each of the four shapes at its number holds of every shape of the table
each_shape : (P : ℕ → Shape → Type 0) → P 0 number_shape → P 1 token_shape → P 2 cell_shape → P 3 grid_shape
    → (id : ℕ) (shape : Shape) → slice_get grid_table id ≡ Some shape → P id shape
each_shape P a b c d zero shape is = let same : Some number_shape ≡ Some shape = is in subst (P 0) (some_is same) a
each_shape P a b c d (suc zero) shape is = let same : Some token_shape ≡ Some shape = is in subst (P 1) (some_is same) b
each_shape P a b c d (suc (suc zero)) shape is = let same : Some cell_shape ≡ Some shape = is in subst (P 2) (some_is same) c
each_shape P a b c d (suc (suc (suc zero))) shape is = let same : Some grid_shape ≡ Some shape = is in subst (P 3) (some_is same) d
each_shape P a b c d (suc (suc (suc (suc id)))) shape is = let none : None ≡ Some shape = is in cc

each_keeps : (rule : ℕ → Shape → Bool) → rule 0 number_shape ≡ true → rule 1 token_shape ≡ true
    → rule 2 cell_shape ≡ true → rule 3 grid_shape ≡ true → EachKeeps grid_table rule
each_keeps rule = each_shape (λ id shape. rule id shape ≡ true)

pub grid_checked : IsChecked grid_table
grid_checked = record {
  ids = each_keeps (λ i shape. ids_in_range grid_table shape) refl refl refl refl;
  names = each_keeps (name_is_new grid_table) refl refl refl refl;
  sizes = each_keeps (λ i shape. parts_are_sized grid_table shape) refl refl refl refl;
  variants = each_keeps (λ i shape. variants_apart shape) refl refl refl refl;
  validators = each_keeps (λ i shape. validators_suit grid_table shape) refl refl refl refl;
  templates = each_keeps (templates_fit grid_table) refl refl refl refl;
  conversions = each_keeps (λ i shape. conversion_suits shape) refl refl refl refl;
  hooks = each_keeps (λ i shape. hooks_in_range shape) refl refl refl refl;
  options = each_keeps (λ i shape. option_preset_is_none shape) refl refl refl refl;
}

pub grid_plain : IsPlain grid_table grid
grid_plain = record {
  checked = grid_checked;
  sized = refl;
  plannable = λ id shape reached is. each_shape (λ i each. refusal_of each ≡ None) refl refl refl refl id shape is;
  plain = λ id shape reached is. each_shape (λ i each. is_plain_shape each ≡ true) refl refl refl refl id shape is;
}

pub grid_in : IsIn grid_table grid
grid_in = omega arith
