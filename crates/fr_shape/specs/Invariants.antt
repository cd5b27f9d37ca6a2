-- The invariants of the struct values in a value, by the value's shape. The words of `Fits` tell of each form which shapes its parts
-- have; all is said of values that fit.
use Rattle.std.specs.Prelude.{◌≡◌, ℕ, Bool, true, ◌&&◌, List, ◌∷◌, slice_get, Option, Some, None}
use Rattle.std.specs.Option.{option_map_or}
use Rattle.fr_shape.specs.declared.shape.Shape.{Shape}
use Rattle.fr_shape.specs.declared.shape.HookId.{HookId}
use Rattle.fr_shape.specs.declared.shape.Def.{Def}
use Rattle.fr_shape.specs.declared.shape.Field.{Field}
use Rattle.fr_shape.specs.Look.{Table, settled, settled_shape}
use Rattle.fr_shape.specs.Plannable.{Reached}
use Rattle.fr_shape.specs.Fits.{takes_product, takes_variant, takes_some, takes_ok, takes_err, takes_list, takes_set, takes_map, takes_ptr, count_vals}
use Rattle.fr_shape.specs.Val.{Val, Vals, Entries, unit, bool, char, int, nat, text, token, product, variant, none, some, ok, err, list_of, map_of, set_of, ptr, dyn, no_vals, first, no_entries, entry}

-- only a struct's invariant is asked
abbrev pub if_struct : Def → Option HookId → Option HookId
if_struct (Def.Struct struct) invariant = invariant
if_struct _ invariant = None

-- the invariant of a struct; that of another shape is never asked
abbrev pub asked_of : Option Shape → Option HookId
asked_of (Some shape) = if_struct shape.def shape.invariant
asked_of None = None

-- the value passes the invariant of its shape, if that is a struct's
abbrev pub passes_own : (check : ℕ → Val → Bool) → Table → ℕ → Val → Bool
passes_own check table id v = option_map_or (λ (hook : HookId). check hook.0 v) (asked_of (settled_shape table id)) true

abbrev mutual
  -- Each struct value in a value that fits the shape of this number passes its shape's invariant: children before parents, left to
  -- right; through fields, of variants too, elements, contents, items, entries, a key before its value, and pointees.
  pub keeps_invariants : (check : ℕ → Val → Bool) → Table → ℕ → Val → Bool
  keeps_invariants check table id unit = true
  keeps_invariants check table id (bool b) = true
  keeps_invariants check table id (char c) = true
  keeps_invariants check table id (int z) = true
  keeps_invariants check table id (nat n) = true
  keeps_invariants check table id (text t) = true
  keeps_invariants check table id (token t) = true
  keeps_invariants check table id (product vs) =
      takes_product (settled table id) (λ fields. fields_keep check table fields vs) (λ t. all_keep check table t vs) (count_vals vs)
      && passes_own check table id (product vs)
  keeps_invariants check table id (variant i vs) = takes_variant (settled table id) i (λ fields. fields_keep check table fields vs)
  keeps_invariants check table id none = true
  keeps_invariants check table id (some v) = takes_some (settled table id) (λ t. keeps_invariants check table t v)
  keeps_invariants check table id (ok v) = takes_ok (settled table id) (λ t. keeps_invariants check table t v)
  keeps_invariants check table id (err v) = takes_err (settled table id) (λ t. keeps_invariants check table t v)
  keeps_invariants check table id (list_of vs) = takes_list (settled table id) (λ t. all_keep check table t vs)
  keeps_invariants check table id (set_of vs) = takes_set (settled table id) (λ t. all_keep check table t vs) true
  keeps_invariants check table id (map_of es) = takes_map (settled table id) (λ k v. entries_keep check table k v es) true
  keeps_invariants check table id (ptr v) = takes_ptr (settled table id) (λ t. keeps_invariants check table t v)
  keeps_invariants check table id (dyn d) = true

  -- so it is of each of the values, which are of one shape
  pub all_keep : (check : ℕ → Val → Bool) → Table → ℕ → Vals → Bool
  all_keep check table id no_vals = true
  all_keep check table id (first v vs) = keeps_invariants check table id v && all_keep check table id vs

  -- of the values of these fields
  pub fields_keep : (check : ℕ → Val → Bool) → Table → List Field → Vals → Bool
  fields_keep check table (field ∷ fields) (first v vs) =
      keeps_invariants check table field.shape.0 v && fields_keep check table fields vs
  fields_keep check table _ _ = true

  -- and of each key, which is of one shape, and its value, which is of another
  pub entries_keep : (check : ℕ → Val → Bool) → Table → ℕ → ℕ → Entries → Bool
  entries_keep check table k v no_entries = true
  entries_keep check table k v (entry key value es) =
      keeps_invariants check table k key && keeps_invariants check table v value && entries_keep check table k v es

-- no shape that the root reaches has an invariant
abbrev pub HasNoInvariant : Table → ℕ → Type 0
HasNoInvariant table root =
    (id : ℕ) (shape : Shape) → Reached table root id → slice_get table id ≡ Some shape → shape.invariant ≡ None
