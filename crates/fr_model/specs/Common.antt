-- The names of other crates that most definitions use, passed on from one place. Declares nothing.
pub use Rattle.std.specs.Prelude.{◌≡◌, ℕ, List, zero, suc, ◌+◌, [], ◌∷◌, ◌++◌, length, Some, None, Result, Ok, Err, codes, Bool, true, false, ◌||◌, Option, if◌then◌else◌, ℤ, map, pos, encode_utf8, slice_get, ◌↔◌, ◌==◌, is_some, negsuc, not, ◌&&◌, unwrap_or, ◌⊎◌, is_none, ◌≢◌, ◌<◌, nat_le, max, nat_lt, ◌≤◌, ◌-◌, slice_index, refl, min, position}
pub use Rattle.std.specs.List.{list_any, Contains, AllPairs, list_all}
pub use Rattle.std.specs.Option.{option_map, option_or, option_map_or}
pub use Rattle.std.specs.Str.{bytes_eq}
pub use Rattle.std.specs.declared.cmp.Ordering.{Ordering}
pub use Rattle.fr_path.specs.Order.{walk_order}
pub use Rattle.fr_path.specs.declared.path_steps.PathStep.{PathStep}
pub use Rattle.fr_shape.specs.Checked.{IsChecked, is_sized}
pub use Rattle.fr_shape.specs.Fills.{preset_of, DeferredRule, filled, marked_without_default, missing, deferred_rule, strict_fill, deferred_fill, is_empty_struct, is_option}
pub use Rattle.fr_shape.specs.Fits.{fits}
pub use Rattle.fr_shape.specs.Hooks.{Meanings, no_hooks}
pub use Rattle.fr_shape.specs.Lists.{is_nil}
pub use Rattle.fr_shape.specs.Look.{Table, IsIn, def_of, field_in, variants_of}
pub use Rattle.fr_shape.specs.Named.{field_named, name_of, first_declared}
pub use Rattle.fr_shape.specs.Plain.{plain_field, plain_shape}
pub use Rattle.fr_shape.specs.Plannable.{IsPlain, is_dynamic, first_refusal}
pub use Rattle.fr_shape.specs.Same.{same, none_twice, keys}
pub use Rattle.fr_shape.specs.Tokens.{occurs, tokens}
pub use Rattle.fr_shape.specs.Val.{Val, Entries, nat, text, token, product, some, map_of, set_of, ptr, no_vals, first, no_entries, entry, Vals, variant, none, ok, err, list_of, dyn, dyn_array, dyn_object, bool, char, int, Dynamic, dyn_bool, dyn_int, dyn_nat, dyn_text, dyn_bytes, Dynamics, dyn_null, no_dynamics, first_dynamic, no_members, member, Members, unit}
pub use Rattle.fr_shape.specs.Validators.{passes_at, message}
pub use Rattle.fr_shape.specs.declared.error.Expected.{Expected}
pub use Rattle.fr_shape.specs.declared.error.InitCall.{InitCall}
pub use Rattle.fr_shape.specs.declared.error.Invariant.{Invariant}
pub use Rattle.fr_shape.specs.declared.error.Operation.{Operation}
pub use Rattle.fr_shape.specs.declared.error.ReflectErrorKind.{ReflectErrorKind}
pub use Rattle.fr_shape.specs.declared.error.TrackerKind.{TrackerKind}
pub use Rattle.fr_shape.specs.declared.shape.Def.{Def}
pub use Rattle.fr_shape.specs.declared.shape.DefaultSource.{DefaultSource}
pub use Rattle.fr_shape.specs.declared.shape.EnumRepr.{EnumRepr}
pub use Rattle.fr_shape.specs.declared.shape.Field.{Field}
pub use Rattle.fr_shape.specs.declared.shape.KnownPointer.{KnownPointer}
pub use Rattle.fr_shape.specs.declared.shape.ScalarKind.{ScalarKind}
pub use Rattle.fr_shape.specs.declared.shape.Shape.{Shape}
pub use Rattle.fr_shape.specs.declared.shape.ShapeId.{ShapeId}
pub use Rattle.fr_shape.specs.declared.shape.StructKind.{StructKind}
pub use Rattle.fr_shape.specs.declared.shape.ValidatorDef.{ValidatorDef}
pub use Rattle.fr_shape.specs.declared.shape.VariantDef.{VariantDef}
