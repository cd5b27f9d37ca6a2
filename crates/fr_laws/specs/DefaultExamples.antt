-- Worked examples of what fields take by default and of what their validators say, of variants' fields too, computed from the
-- definitions.
use Rattle.std.specs.Prelude.{◌∷◌, ◌++◌}
use Rattle.fr_model.specs.Common.{ℕ, pos, true, List, [], Some, Ok, codes, None, Def, DefaultSource, EnumRepr, Field, Shape, ValidatorDef, Operation, ReflectErrorKind, Table, plain_field, plain_shape, nat, token, product, variant, none, some, message}
use Rattle.fr_model.specs.Basis.{Call, missing_field, invalid_field, as_fields, Tree, hole, whole, begun, no_trees, branch, strict, SelectNthVariant, Set, SetNthFieldToDefault}
use Rattle.fr_laws.specs.ContentExamples.{fails, id, u32, resource, struct_of, enum_of, variant_of_name, with_preset, one, two, put_in, in_deferred, refused, refused_first, Runs, Drops, foo_bar}

-- Defaults of fields

abbrev pub defaulting_by : Field → DefaultSource → Field
defaulting_by field source = record field { default = Some source }

-- an enum of one variant with one field
abbrev pub variant_with : (name : List ℕ) → Field → Shape
variant_with name field = plain_shape name (enum_of EnumRepr.U8 (variant_of_name (codes "A") (field ∷ []) (Some (pos 0)) ∷ []))

-- fields marked with a default of their own, marked for that of their shape, and unmarked; and enums with such fields
abbrev pub defaults : Table
defaults =
    with_preset u32 (nat 0) ∷ resource
    ∷ plain_shape (codes "Own") (struct_of (defaulting_by (plain_field (codes "a") 0) (DefaultSource.Custom (nat 5)) ∷ []))
    ∷ plain_shape (codes "Both") (struct_of (
    defaulting_by (plain_field (codes "a") 0) DefaultSource.FromTrait ∷ defaulting_by (plain_field (codes "b") 1) DefaultSource.FromTrait ∷ []
    ))
    ∷ plain_shape (codes "Bare") (struct_of (plain_field (codes "a") 0 ∷ plain_field (codes "b") 1 ∷ []))
    ∷ with_preset (variant_with (codes "Preset") (plain_field (codes "a") 0)) (variant 0 (one (nat 1)))
    ∷ record (variant_with (codes "Attr") (plain_field (codes "a") 0)) { default_attr = true }
    ∷ variant_with (codes "Marked") (defaulting_by (plain_field (codes "a") 1) DefaultSource.FromTrait)
    ∷ plain_shape (codes "Option") (Def.Option (id 0))
    ∷ with_preset (plain_shape (codes "OptRes") (Def.Option (id 1))) none
    ∷ plain_shape (codes "Two") (struct_of (plain_field (codes "a") 9 ∷ plain_field (codes "b") 1 ∷ []))
    ∷ variant_with (codes "Custom") (defaulting_by (plain_field (codes "a") 0) (DefaultSource.Custom (nat 5)))
    ∷ variant_with (codes "Skipped") (record (plain_field (codes "a") 0) { skip = true })
    ∷ variant_with (codes "Shapes") (defaulting_by (plain_field (codes "a") 0) DefaultSource.FromTrait) ∷ []

-- a struct that is begun with these two children
abbrev pub begun_two : Tree → Tree → Tree
begun_two first_child second_child = begun (as_fields None) (branch first_child (branch second_child no_trees))

abbrev pub set_to_default : ℕ → Call
set_to_default i = SetNthFieldToDefault i

abbrev pub first_variant : Call
first_variant = SelectNthVariant 0

pub record DefaultExamples : Type 0 where
  pub own : Runs defaults 2 (set_to_default 0 ∷ []) (Ok (product (one (nat 5))))
  pub of_shape : Runs defaults 3 (set_to_default 0 ∷ put_in 1 1 (token 0)) (Ok (product (two (nat 0) (token 0))))
  pub unmarked : Runs defaults 4 (set_to_default 0 ∷ put_in 1 1 (token 0)) (Ok (product (two (nat 0) (token 0))))
  pub of_shape_deferred : Runs defaults 3 (in_deferred (set_to_default 0 ∷ put_in 1 1 (token 0))) (Ok (product (two (nat 0) (token 0))))
  pub in_place_of_another : Runs defaults 2 (put_in 0 0 (nat 9) ++ set_to_default 0 ∷ []) (Ok (product (one (nat 5))))
  pub of_whole : Runs defaults 4 (Set 4 (product (two (nat 9) (token 0))) ∷ set_to_default 0 ∷ []) (Ok (product (two (nat 0) (token 0))))
  pub marked_without : Runs defaults 3 (set_to_default 1 ∷ []) (fails 0 1 Operation.NoDefault)
  pub unmarked_without : Runs defaults 4 (set_to_default 1 ∷ []) (refused_first (ReflectErrorKind.DefaultAttrButNoDefaultImpl (id 1)))
  pub no_such_field : Runs defaults 4 (set_to_default 2 ∷ []) (fails 0 4 Operation.FieldIndexOutOfBounds)
  pub of_a_number : Runs defaults 0 (set_to_default 0 ∷ []) (fails 0 0 Operation.NamedFieldOfPrimitive)
  pub of_an_option : Runs defaults 8 (set_to_default 0 ∷ []) (fails 0 8 Operation.FieldOfOther)
  pub unselected : Runs defaults 6 (set_to_default 0 ∷ []) (fails 0 6 Operation.NamedFieldOfUnselectedVariant)
  pub of_variant : Runs defaults 6 (first_variant ∷ set_to_default 0 ∷ []) (Ok (variant 0 (one (nat 0))))
  pub no_such_variant_field : Runs defaults 6 (first_variant ∷ set_to_default 1 ∷ []) (fails 1 6 Operation.FieldIndexOutOfBounds)
  -- a variant's hole doesn't take its shape's default for its enum's preset, but for its enum's attribute in deferred mode
  pub no_fill_by_preset : Runs defaults 5 (first_variant ∷ []) (refused 1 (missing_field 5 (Some 0) 0) [])
  pub no_fill_by_preset_deferred : Runs defaults 5 (in_deferred (first_variant ∷ [])) (refused 2 (missing_field 5 (Some 0) 0) [])
  pub fill_by_attribute : Runs defaults 6 (in_deferred (first_variant ∷ [])) (Ok (variant 0 (one (nat 0))))
  pub no_fill_by_attribute : Runs defaults 6 (first_variant ∷ []) (refused 1 (missing_field 6 (Some 0) 0) [])
  pub marked_hole : Runs defaults 7 (in_deferred (first_variant ∷ [])) (refused 2 (ReflectErrorKind.DefaultAttrButNoDefaultImpl (id 1)) [])
  -- a variant's hole takes its field's own default in either column
  pub own_of_variant : Runs defaults 11 (first_variant ∷ []) (Ok (variant 0 (one (nat 5))))
  pub own_of_variant_deferred : Runs defaults 11 (in_deferred (first_variant ∷ [])) (Ok (variant 0 (one (nat 5))))
  pub marked_of_variant : Runs defaults 13 (first_variant ∷ []) (Ok (variant 0 (one (nat 0))))
  pub marked_of_variant_deferred : Runs defaults 13 (in_deferred (first_variant ∷ [])) (Ok (variant 0 (one (nat 0))))
  -- a skipped field takes its shape's default in strict mode alone
  pub skipped_of_variant : Runs defaults 12 (first_variant ∷ []) (Ok (variant 0 (one (nat 0))))
  pub skipped_of_variant_deferred : Runs defaults 12 (in_deferred (first_variant ∷ [])) (refused 2 (missing_field 12 (Some 0) 0) [])
  -- what stood at the field is dropped, and nothing of another
  pub drops_child : Drops defaults 10 strict (begun_two (whole (some (token 0))) hole) (set_to_default 0) 0 1
  pub keeps_other : Drops defaults 10 strict (begun_two (whole none) (whole (token 0))) (set_to_default 0) 0 0
  pub drops_part : Drops defaults 10 strict (whole (product (two (some (token 0)) (token 1)))) (set_to_default 0) 0 1
  pub keeps_other_part : Drops defaults 10 strict (whole (product (two (some (token 0)) (token 1)))) (set_to_default 0) 1 0
  -- a refusal drops all
  pub refused_drops :
      Drops foo_bar 2 strict (begun (as_fields (Some 1)) (branch hole (branch (whole (token 0)) no_trees))) (set_to_default 1) 0 1

-- Validators of a variant's field

abbrev pub at_least_ten : ValidatorDef
at_least_ten = ValidatorDef.Min (pos 10)

abbrev pub checked_field : Field
checked_field = record (plain_field (codes "a") 0) { validators = at_least_ten ∷ [] }

-- an enum whose variant's field has to be at least 10, and one where it is 5 by its own default besides
abbrev pub checked : Table
checked =
    u32 ∷ variant_with (codes "Checked") checked_field
    ∷ variant_with (codes "CheckedOwn") (defaulting_by checked_field (DefaultSource.Custom (nat 5))) ∷ []

abbrev pub too_small : (s n : ℕ) → ReflectErrorKind
too_small s n = invalid_field s (Some 0) 0 (message at_least_ten (nat n))

pub record ValidatorExamples : Type 0 where
  pub large : Runs checked 1 (first_variant ∷ put_in 0 0 (nat 10)) (Ok (variant 0 (one (nat 10))))
  pub large_deferred : Runs checked 1 (in_deferred (first_variant ∷ put_in 0 0 (nat 10))) (Ok (variant 0 (one (nat 10))))
  pub small : Runs checked 1 (first_variant ∷ put_in 0 0 (nat 9)) (refused 4 (too_small 1 9) [])
  pub small_deferred : Runs checked 1 (in_deferred (first_variant ∷ put_in 0 0 (nat 9))) (refused 5 (too_small 1 9) [])
  -- what a hole takes is looked at too, and a default that is put only once its variant is completed
  pub small_fill : Runs checked 2 (first_variant ∷ []) (refused 1 (too_small 2 5) [])
  pub small_fill_deferred : Runs checked 2 (in_deferred (first_variant ∷ [])) (refused 2 (too_small 2 5) [])
  pub small_default : Runs checked 2 (first_variant ∷ set_to_default 0 ∷ []) (refused 2 (too_small 2 5) [])
