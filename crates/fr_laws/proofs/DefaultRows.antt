-- Worked scripts over tables with presets and defaults, by the machine and by the journal.
use Rattle.std.proofs.Common.{rules, ◌≡◌, ◌∷◌}
use Rattle.fr_model.proofs.Common.{plain_shape, plain_field, List, [], None, Some, Ok, codes, Def, Field, DefaultSource, ReflectErrorKind, Operation, no_hooks, Table, Val, nat, none, list_of, product, no_vals, first, Call, journal_run, full_run}
use Rattle.fr_model.specs.Basis.{BeginField}
use Rattle.fr_laws.specs.ContentExamples.{id, refused, struct_of, u32, with_preset}
use Rattle.fr_laws.proofs.WorkedScripts.{Makes, pair_of, set, begin, end, field_at, lacks_field, lacks_value, failed}

-- to write tables and values

abbrev with_default : Field → Val → Field
with_default f v = record f { default = Some (DefaultSource.Custom v) }

abbrev one_of : Val → Val
one_of v = product (first v no_vals)

-- a field with a default of its own

abbrev own : Table
own = u32 ∷ plain_shape (codes "Own") (struct_of (with_default (plain_field (codes "a") 0) (nat 5) ∷ [])) ∷ []

-- a struct with a default, of numbers that have one

abbrev point : Table
point =
    with_preset u32 (nat 0)
    ∷ with_preset (plain_shape (codes "Point") (struct_of (plain_field (codes "x") 0 ∷ plain_field (codes "y") 0 ∷ []))) (pair_of (nat 1) (nat 2))
    ∷ plain_shape (codes "Bare") (struct_of (plain_field (codes "x") 0 ∷ plain_field (codes "y") 0 ∷ []))
    ∷ []

-- a field whose shape is a struct without fields, with a default

abbrev marked_table : Table
marked_table =
    u32
    ∷ with_preset (plain_shape (codes "Unit") (struct_of [])) (product no_vals)
    ∷ plain_shape (codes "Marked") (struct_of (plain_field (codes "e") 1 ∷ plain_field (codes "k") 0 ∷ []))
    ∷ plain_shape (codes "Empty") (struct_of [])
    ∷ plain_shape (codes "Plain") (struct_of (plain_field (codes "e") 3 ∷ plain_field (codes "k") 0 ∷ []))
    ∷ []

-- fields of lists and options, and names

abbrev mixed : Table
mixed =
    u32
    ∷ plain_shape (codes "List") (Def.List (id 0))
    ∷ with_preset (plain_shape (codes "Option") (Def.Option (id 0))) none
    ∷ plain_shape (codes "Mixed") (struct_of (plain_field (codes "o") 2 ∷ plain_field (codes "l") 1 ∷ []))
    ∷ []

abbrev list_alone : List Call
list_alone = BeginField (codes "l") ∷ set 1 (list_of no_vals) ∷ end ∷ []

-- what is made by defaults
record DefaultRows : Type 0 where
  takes_own : Makes own 1 [] (one_of (nat 5))
  -- a field that was entered takes nothing, neither its own default
  entered_takes_none : full_run no_hooks own 1 (begin 0 ∷ end ∷ []) ≡ refused 1 (lacks_value 0) (field_at 0 ∷ [])
  journal_takes_none : journal_run own 1 (begin 0 ∷ end ∷ []) ≡ None
  takes_preset : Makes point 1 [] (pair_of (nat 1) (nat 2))
  -- once it has parts the other field takes its shape's default, and not the struct's
  takes_fields : Makes point 1 (begin 0 ∷ set 0 (nat 9) ∷ end ∷ []) (pair_of (nat 9) (nat 0))
  -- `set_default` makes it whole, and then a field is entered anew
  machine_sets_default :
      full_run no_hooks point 1 (Call.SetDefault ∷ BeginField (codes "y") ∷ set 0 (nat 9) ∷ end ∷ []) ≡ Ok (pair_of (nat 1) (nat 9))
  -- a struct without a default doesn't give its fields their shapes' defaults
  no_default_in_bare : full_run no_hooks point 2 [] ≡ refused 0 (lacks_field 2 0) []
  -- a number that was entered doesn't end with its default, but may be set to it
  scalar_takes_none : full_run no_hooks point 2 (begin 0 ∷ end ∷ []) ≡ refused 1 (lacks_value 0) (field_at 0 ∷ [])
  scalar_set_default : full_run no_hooks point 0 (Call.SetDefault ∷ []) ≡ Ok (nat 0)
  no_default_to_set : full_run no_hooks own 0 (Call.SetDefault ∷ []) ≡ refused 0 (failed 0 Operation.NoDefault) []
  fills_unit : Makes marked_table 2 (begin 1 ∷ set 0 (nat 1) ∷ end ∷ []) (pair_of (product no_vals) (nat 1))
  -- without a default it has to be entered, and is whole then
  unit_is_missing : full_run no_hooks marked_table 4 (begin 1 ∷ set 0 (nat 1) ∷ end ∷ []) ≡ refused 3 (lacks_field 4 0) []
  enters_unit : Makes marked_table 4 (begin 1 ∷ set 0 (nat 1) ∷ end ∷ begin 0 ∷ end ∷ []) (pair_of (product no_vals) (nat 1))
  list_is_missing : full_run no_hooks mixed 3 [] ≡ refused 0 (lacks_field 3 1) []
  machine_fills_option : full_run no_hooks mixed 3 list_alone ≡ Ok (pair_of none (list_of no_vals))
  -- an option that was entered ends with its default
  machine_ends_option : full_run no_hooks mixed 3 (begin 0 ∷ end ∷ list_alone) ≡ Ok (pair_of none (list_of no_vals))
  no_such_name : full_run no_hooks mixed 3 (BeginField (codes "x") ∷ []) ≡ refused 0 (ReflectErrorKind.FieldError (id 3)) []
  no_names_in_list : full_run no_hooks mixed 1 (BeginField (codes "x") ∷ []) ≡ refused 0 (failed 1 Operation.FieldOfOther) []
  journal_knows_no_name : journal_run mixed 3 (BeginField (codes "x") ∷ []) ≡ None

default_rows : DefaultRows
default_rows = search rules
