-- Worked examples of enums, options, results and pointers, computed from the definitions.
use Rattle.std.specs.Prelude.{◌≡◌, ◌∷◌, ◌++◌}
use Rattle.fr_model.specs.Common.{ℕ, ℤ, pos, true, false, List, [], Option, Some, None, Result, Ok, Err, codes, Def, EnumRepr, Field, KnownPointer, ScalarKind, Shape, ShapeId, StructKind, VariantDef, Expected, Operation, ReflectErrorKind, no_hooks, Table, plain_field, plain_shape, Val, Vals, nat, text, token, product, variant, none, some, ok, err, list_of, ptr, no_vals, first, PathStep}
use Rattle.fr_model.specs.Basis.{Call, missing_field, missing_value, as_fields, as_content, ContentKind, Tree, hole, whole, begun, no_trees, branch, Mode, strict, deferred, BeginDeferred, BeginErr, BeginField, BeginNthField, BeginOk, BeginSmartPtr, BeginSome, End, FinishDeferred, SelectNthVariant, SelectVariant, SelectVariantNamed, Set}
use Rattle.fr_model.specs.Removed.{removed}
use Rattle.fr_model.specs.Run.{Refusal, full_run}
use Rattle.fr_model.specs.Step.{operation_failed, was_not_a}

-- To write tables, values and scripts

abbrev pub id : ℕ → ShapeId
id n = record { 0 = n }

abbrev pub u32 : Shape
u32 = plain_shape (codes "u32") (Def.Scalar ScalarKind.U32)

abbrev pub string : Shape
string = plain_shape (codes "String") (Def.Scalar ScalarKind.String)

abbrev pub resource : Shape
resource = plain_shape (codes "Res") Def.Opaque

abbrev pub struct_of : List Field → Def
struct_of fields = Def.Struct (record { kind = StructKind.Struct; fields = fields })

abbrev pub enum_of : EnumRepr → List VariantDef → Def
enum_of repr variants = Def.Enum (record { repr = repr; variants = variants })

abbrev pub variant_of_name : (name : List ℕ) → List Field → (discriminant : Option ℤ) → VariantDef
variant_of_name name fields discriminant = record {
  name = name;
  rename = None;
  kind = StructKind.Struct;
  fields = fields;
  discriminant = discriminant;
  other = false;
}

abbrev pub pointer_to : Option KnownPointer → ℕ → Def
pointer_to known pointee = Def.Pointer (record { known = known; pointee = Some (id pointee); constructible = true })

abbrev pub with_preset : Shape → Val → Shape
with_preset shape v = record shape { preset = Some v }

abbrev pub one : Val → Vals
one v = first v no_vals

abbrev pub two : Val → Val → Vals
two v w = first v (one w)

-- child i is entered, set and left
abbrev pub put_in : ℕ → (shape : ℕ) → Val → List Call
put_in i shape v = BeginNthField i ∷ Set shape v ∷ End ∷ []

-- the script in deferred mode, from its first command on
abbrev pub in_deferred : List Call → List Call
in_deferred script = BeginDeferred ∷ script ++ FinishDeferred ∷ []

abbrev pub refused : ℕ → ReflectErrorKind → List PathStep → Result Val Refusal
refused number kind path = Err (record { number = number; kind = kind; path = path })

-- refused before the first command has succeeded
abbrev pub refused_first : ReflectErrorKind → Result Val Refusal
refused_first kind = refused 0 kind []

-- by operation
abbrev pub fails : ℕ → (s : ℕ) → Operation → Result Val Refusal
fails number s operation = refused number (operation_failed s operation) []

-- for want of a value
abbrev pub lacks : ℕ → (s : ℕ) → List PathStep → Result Val Refusal
lacks number s path = refused number (missing_value s) path

abbrev pub Runs : Table → (root : ℕ) → List Call → Result Val Refusal → Type 0
Runs table root script outcome = full_run no_hooks table root script ≡ outcome

-- how often a command drops a token, from this tree, at its root
abbrev pub Drops : Table → (root : ℕ) → Mode → Tree → Call → (t times : ℕ) → Type 0
Drops table root mode tree command t times =
    removed no_hooks table root (record { tree = tree; cursor = []; mode = mode; calls = 1 }) command t ≡ times

-- Variants

-- a number, an opaque shape, an enum of an empty variant and one with two fields, and a struct that holds it
abbrev pub foo_bar : Table
foo_bar =
    u32 ∷ resource
    ∷ plain_shape (codes "FooBar") (enum_of EnumRepr.U8 (
    variant_of_name (codes "Foo") [] (Some (pos 0))
    ∷ variant_of_name (codes "Bar") (plain_field (codes "x") 0 ∷ plain_field (codes "r") 1 ∷ []) (Some (pos 1)) ∷ []
    ))
    ∷ plain_shape (codes "Holder") (struct_of (plain_field (codes "n") 0 ∷ plain_field (codes "e") 2 ∷ [])) ∷ []

abbrev pub foo : Call
foo = SelectVariantNamed (codes "Foo")

abbrev pub bar : Call
bar = SelectVariantNamed (codes "Bar")

pub record VariantExamples : Type 0 where
  pub none_selected : Runs foo_bar 2 [] (lacks 0 2 [])
  pub empty_variant : Runs foo_bar 2 (foo ∷ []) (Ok (variant 0 no_vals))
  pub missing : Runs foo_bar 2 (bar ∷ []) (refused 1 (missing_field 2 (Some 1) 0) [])
  pub switched : Runs foo_bar 2 (bar ∷ put_in 1 1 (token 0) ++ foo ∷ []) (Ok (variant 0 no_vals))
  -- a switched variant's fields are dropped; the same variant stays
  pub drops_fields : Drops foo_bar 2 strict (begun (as_fields (Some 1)) (branch hole (branch (whole (token 0)) no_trees))) foo 0 1
  pub keeps_fields : Drops foo_bar 2 strict (begun (as_fields (Some 1)) (branch hole (branch (whole (token 0)) no_trees))) bar 0 0
  pub selected_again : Runs foo_bar 2 (bar ∷ put_in 0 0 (nat 1) ++ bar ∷ put_in 1 1 (token 0)) (Ok (variant 1 (two (nat 1) (token 0))))
  -- a whole enum isn't begun
  pub whole_has_no_fields :
      Runs foo_bar 2 (Set 2 (variant 1 (two (nat 1) (token 0))) ∷ BeginNthField 0 ∷ []) (fails 1 2 Operation.FieldOfUnselectedVariant)
  pub whole_starts_anew : Runs foo_bar 2 (Set 2 (variant 1 (two (nat 1) (token 0))) ∷ bar ∷ []) (refused 2 (missing_field 2 (Some 1) 0) [])
  -- fields
  pub unselected : Runs foo_bar 2 (BeginNthField 0 ∷ []) (fails 0 2 Operation.FieldOfUnselectedVariant)
  pub unselected_name : Runs foo_bar 2 (BeginField (codes "x") ∷ []) (fails 0 2 Operation.NamedFieldOfUnselectedVariant)
  pub no_such_field : Runs foo_bar 2 (bar ∷ BeginNthField 2 ∷ []) (fails 1 2 Operation.VariantFieldIndexOutOfBounds)
  pub no_such_name : Runs foo_bar 2 (bar ∷ BeginField (codes "z") ∷ []) (refused 1 (ReflectErrorKind.FieldError (id 2)) [])
  pub named :
      Runs foo_bar 2 (bar ∷ put_in 0 0 (nat 1) ++ BeginField (codes "r") ∷ Set 1 (token 0) ∷ End ∷ [])
      (Ok (variant 1 (two (nat 1) (token 0))))
  -- the path to a variant's field
  pub path : Runs foo_bar 3 (BeginNthField 1 ∷ bar ∷ BeginNthField 0 ∷ End ∷ []) (lacks 3 0 (PathStep.Field 1 ∷ PathStep.Field 0 ∷ []))
  -- deferred mode leaves a variant and comes back to it
  pub left_and_entered_again :
      Runs foo_bar 3 (in_deferred (BeginNthField 1 ∷ bar ∷ put_in 1 1 (token 0) ++ End ∷ put_in 0 0 (nat 7)
      ++ BeginNthField 1 ∷ bar ∷ put_in 0 0 (nat 8) ++ End ∷ [])) (Ok (product (two (nat 7) (variant 1 (two (nat 8) (token 0))))))
  pub left_unselected : Runs foo_bar 3 (in_deferred (put_in 0 0 (nat 7) ++ BeginNthField 1 ∷ End ∷ [])) (lacks 6 2 [])
  pub left_half_done :
      Runs foo_bar 3 (in_deferred (put_in 0 0 (nat 7) ++ BeginNthField 1 ∷ bar ∷ End ∷ [])) (refused 7 (missing_field 2 (Some 1) 0) [])

-- enums whose variants are renamed, left out of lookups, without a discriminant, or laid out by Rust
abbrev pub variants : Table
variants =
    u32
    ∷ plain_shape (codes "Many") (enum_of EnumRepr.I8 (
    record (variant_of_name (codes "A") [] (Some (pos 3))) { rename = Some (codes "b") }
    ∷ variant_of_name (codes "B") [] (Some (pos 3))
    ∷ record (variant_of_name (codes "C") [] (Some (pos 4))) { other = true }
    ∷ variant_of_name (codes "D") [] None ∷ []
    ))
    ∷ plain_shape (codes "Rust") (enum_of EnumRepr.Rust (variant_of_name (codes "A") [] None ∷ []))
    ∷ plain_shape (codes "RustNPO") (enum_of EnumRepr.RustNPO (variant_of_name (codes "A") [] None ∷ [])) ∷ []

abbrev pub named : List ℕ → List Call
named name = SelectVariantNamed name ∷ []

abbrev pub numbered : ℕ → List Call
numbered i = SelectNthVariant i ∷ []

abbrev pub told_by : ℕ → List Call
told_by discriminant = SelectVariant (pos discriminant) ∷ []

abbrev pub no_enum : Result Val Refusal
no_enum = refused_first (was_not_a Expected.Enum 0)

pub record SelectionExamples : Type 0 where
  pub no_enum_numbered : Runs variants 0 (numbered 0) no_enum
  pub no_enum_named : Runs variants 0 (named (codes "A")) no_enum
  pub no_enum_told : Runs variants 0 (told_by 0) no_enum
  pub by_number : Runs variants 1 (numbered 1) (Ok (variant 1 no_vals))
  pub no_such_number : Runs variants 1 (numbered 4) (fails 0 1 Operation.VariantIndexOutOfBounds)
  -- by the effective name, and never one that is marked `other`
  pub by_effective_name : Runs variants 1 (named (codes "b")) (Ok (variant 0 no_vals))
  pub not_by_declared_name : Runs variants 1 (named (codes "A")) (fails 0 1 Operation.VariantNameUnknown)
  pub not_the_other : Runs variants 1 (named (codes "C")) (fails 0 1 Operation.VariantNameUnknown)
  pub the_other_by_number : Runs variants 1 (numbered 2) (Ok (variant 2 no_vals))
  -- the first with the discriminant
  pub by_discriminant : Runs variants 1 (told_by 3) (Ok (variant 0 no_vals))
  pub no_such_discriminant : Runs variants 1 (told_by 9) (fails 0 1 Operation.DiscriminantUnknown)
  pub no_discriminant : Runs variants 1 (numbered 3) (fails 0 1 Operation.VariantWithoutDiscriminant)
  -- of several refusals the first
  pub rust_layout : Runs variants 2 (named (codes "A")) (fails 0 2 Operation.RustLayout)
  pub rust_npo_layout : Runs variants 3 (numbered 0) (fails 0 3 Operation.RustNpoLayout)
  pub no_variant_of_rust : Runs variants 2 (numbered 1) (fails 0 2 Operation.VariantIndexOutOfBounds)

-- Options

-- options of a number, of a list, of a struct, of an opaque shape and of an enum
abbrev pub options : Table
options =
    u32
    ∷ plain_shape (codes "List") (Def.List (id 0))
    ∷ plain_shape (codes "Point") (struct_of (plain_field (codes "x") 0 ∷ plain_field (codes "y") 0 ∷ []))
    ∷ resource
    ∷ plain_shape (codes "OptU32") (Def.Option (id 0))
    ∷ plain_shape (codes "OptList") (Def.Option (id 1))
    ∷ plain_shape (codes "OptPoint") (Def.Option (id 2))
    ∷ plain_shape (codes "OptRes") (Def.Option (id 3))
    ∷ plain_shape (codes "Pick") (enum_of EnumRepr.U8 (
    variant_of_name (codes "A") (plain_field (codes "x") 0 ∷ plain_field (codes "r") 3 ∷ []) (Some (pos 0)) ∷ []
    ))
    ∷ plain_shape (codes "OptPick") (Def.Option (id 8)) ∷ []

-- a variant of the enum, in an option
abbrev pub some_pick : Val
some_pick = some (variant 0 (two (nat 1) (token 0)))

-- a content is begun and left
abbrev pub enter_and_leave : List Call
enter_and_leave = BeginSome ∷ End ∷ []

abbrev pub put_some : (shape : ℕ) → Val → List Call
put_some shape v = BeginSome ∷ Set shape v ∷ End ∷ []

abbrev pub point : ℕ → ℕ → Val
point x y = product (two (nat x) (nat y))

pub record OptionExamples : Type 0 where
  pub no_option : Runs options 0 (BeginSome ∷ []) (refused_first (was_not_a Expected.Option 0))
  pub content : Runs options 4 (put_some 0 (nat 5)) (Ok (some (nat 5)))
  pub missing : Runs options 4 enter_and_leave (lacks 1 0 (PathStep.OptionSome ∷ []))
  pub left_missing : Runs options 4 (in_deferred enter_and_leave) (lacks 3 0 [])
  -- a begun option starts anew in strict mode, and is entered again in deferred mode
  pub begun_anew : Runs options 4 (put_some 0 (nat 5) ++ enter_and_leave) (lacks 4 0 (PathStep.OptionSome ∷ []))
  pub begun_again : Runs options 4 (in_deferred (put_some 0 (nat 5) ++ enter_and_leave)) (Ok (some (nat 5)))
  pub anew_drops : Drops options 7 strict (begun (as_content ContentKind.Some) (branch (whole (token 0)) no_trees)) BeginSome 0 1
  pub again_drops_none : Drops options 7 (deferred 0) (begun (as_content ContentKind.Some) (branch (whole (token 0)) no_trees)) BeginSome 0 0
  -- a whole `Some` of a list is entered in place in either mode, one of a struct or an enum in deferred mode, and no other
  pub list_in_place : Runs options 5 (Set 5 (some (list_of (one (nat 1)))) ∷ enter_and_leave) (Ok (some (list_of (one (nat 1)))))
  pub list_in_place_deferred :
      Runs options 5 (in_deferred (Set 5 (some (list_of (one (nat 1)))) ∷ enter_and_leave)) (Ok (some (list_of (one (nat 1)))))
  pub struct_anew :
      Runs options 6 (Set 6 (some (point 1 2)) ∷ BeginSome ∷ put_in 0 0 (nat 9) ++ End ∷ [])
      (refused 5 (missing_field 2 None 1) (PathStep.OptionSome ∷ []))
  pub struct_in_place :
      Runs options 6 (in_deferred (Set 6 (some (point 1 2)) ∷ BeginSome ∷ put_in 0 0 (nat 9) ++ End ∷ [])) (Ok (some (point 9 2)))
  pub enum_anew : Runs options 9 (Set 9 some_pick ∷ enter_and_leave) (lacks 2 8 (PathStep.OptionSome ∷ []))
  pub enum_in_place : Runs options 9 (in_deferred (Set 9 some_pick ∷ enter_and_leave)) (Ok some_pick)
  -- the enum is whole then, and so has no fields
  pub enum_is_whole :
      Runs options 9 (BeginDeferred ∷ Set 9 some_pick ∷ BeginSome ∷ BeginNthField 0 ∷ [])
      (refused 3 (operation_failed 8 Operation.FieldOfUnselectedVariant) (PathStep.OptionSome ∷ []))
  pub number_anew : Runs options 4 (Set 4 (some (nat 5)) ∷ enter_and_leave) (lacks 2 0 (PathStep.OptionSome ∷ []))
  pub number_anew_deferred : Runs options 4 (in_deferred (Set 4 (some (nat 5)) ∷ enter_and_leave)) (lacks 4 0 [])
  pub whole_drops : Drops options 7 (deferred 0) (whole (some (token 0))) BeginSome 0 1
  pub enum_anew_drops : Drops options 9 strict (whole some_pick) BeginSome 0 1
  pub in_place_drops_none : Drops options 9 (deferred 0) (whole some_pick) BeginSome 0 0
  pub none_anew : Runs options 4 (Set 4 none ∷ put_some 0 (nat 5)) (Ok (some (nat 5)))

-- Results

-- a result of a text and a number, a struct of two, and a result of an opaque shape and a number
abbrev pub results : Table
results =
    u32 ∷ string ∷ plain_shape (codes "R") (Def.Result (id 1) (id 0))
    ∷ plain_shape (codes "Res2") (struct_of (plain_field (codes "success") 2 ∷ plain_field (codes "failure") 2 ∷ []))
    ∷ resource ∷ plain_shape (codes "ResOr") (Def.Result (id 4) (id 0)) ∷ []

-- a result that is begun as ok, with a token in it
abbrev pub ok_with_token : Tree
ok_with_token = begun (as_content ContentKind.Ok) (branch (whole (token 0)) no_trees)

abbrev pub put_ok : List ℕ → List Call
put_ok content = BeginOk ∷ Set 1 (text content) ∷ End ∷ []

abbrev pub put_err : ℕ → List Call
put_err content = BeginErr ∷ Set 0 (nat content) ∷ End ∷ []

abbrev pub in_field : ℕ → List Call → List Call
in_field i script = BeginNthField i ∷ script ++ End ∷ []

pub record ResultExamples : Type 0 where
  pub both_sides :
      Runs results 3 (in_field 0 (put_ok (codes "success")) ++ in_field 1 (put_err 404))
      (Ok (product (two (ok (text (codes "success"))) (err (nat 404)))))
  pub entered_again :
      Runs results 3 (in_deferred (in_field 0 (put_ok (codes "a")) ++ in_field 1 (put_err 1) ++ in_field 0 (BeginOk ∷ End ∷ [])))
      (Ok (product (two (ok (text (codes "a"))) (err (nat 1)))))
  pub ok_of_no_result : Runs results 0 (BeginOk ∷ []) (refused_first (was_not_a Expected.Result 0))
  pub err_of_no_result : Runs results 1 (BeginErr ∷ []) (refused_first (was_not_a Expected.Result 1))
  pub path_to_ok : Runs results 2 (BeginOk ∷ End ∷ []) (lacks 1 1 (PathStep.ResultOk ∷ []))
  pub path_to_err : Runs results 2 (BeginErr ∷ End ∷ []) (lacks 1 0 (PathStep.ResultErr ∷ []))
  -- the same side starts anew in strict mode; the other side in either
  pub same_side_anew : Runs results 2 (put_ok (codes "a") ++ BeginOk ∷ End ∷ []) (lacks 4 1 (PathStep.ResultOk ∷ []))
  pub other_side : Runs results 2 (put_err 1 ++ put_ok (codes "a")) (Ok (ok (text (codes "a"))))
  pub other_side_deferred : Runs results 2 (in_deferred (put_err 1 ++ put_ok (codes "a"))) (Ok (ok (text (codes "a"))))
  pub other_side_anew : Runs results 2 (in_deferred (put_err 1 ++ BeginOk ∷ End ∷ [])) (lacks 6 1 [])
  -- a whole result starts anew in either
  pub whole_anew : Runs results 2 (in_deferred (Set 2 (err (nat 1)) ∷ BeginErr ∷ End ∷ [])) (lacks 4 0 [])
  -- a side that starts anew drops what stood there, one that is entered again drops none
  pub same_side_drops : Drops results 5 strict ok_with_token BeginOk 0 1
  pub same_side_deferred_drops_none : Drops results 5 (deferred 0) ok_with_token BeginOk 0 0
  pub other_side_drops : Drops results 5 (deferred 0) ok_with_token BeginErr 0 1
  pub whole_drops : Drops results 5 (deferred 0) (whole (ok (token 0))) BeginOk 0 1

-- Pointers

-- a struct behind an `Arc`
abbrev pub arcs : Table
arcs =
    u32 ∷ string
    ∷ plain_shape (codes "Inner") (struct_of (plain_field (codes "x") 0 ∷ plain_field (codes "b") 0 ∷ []))
    ∷ plain_shape (codes "Outer") (struct_of (plain_field (codes "name") 1 ∷ plain_field (codes "inner") 2 ∷ []))
    ∷ plain_shape (codes "ArcInner") (pointer_to (Some KnownPointer.Arc) 2) ∷ []

-- texts behind pointers, and pointers that can't be built
abbrev pub boxed_shapes : Table
boxed_shapes =
    u32 ∷ string ∷ plain_shape (codes "str") Def.Str
    ∷ plain_shape (codes "BoxStr") (pointer_to (Some KnownPointer.Box) 2)
    ∷ plain_shape (codes "RefStr") (pointer_to (Some KnownPointer.SharedReference) 2)
    ∷ plain_shape (codes "OwnStr") (pointer_to None 2)
    ∷ plain_shape (codes "Slice") (Def.Slice (id 0))
    ∷ plain_shape (codes "RefSlice") (pointer_to (Some KnownPointer.SharedReference) 6)
    ∷ plain_shape (codes "Weak") (Def.Pointer (record { known = None; pointee = None; constructible = true }))
    ∷ plain_shape (codes "Raw") (Def.Pointer (record { known = None; pointee = Some (id 0); constructible = false }))
    ∷ plain_shape (codes "CowStr") (Def.Scalar ScalarKind.CowStr)
    ∷ plain_shape (codes "BoxU32") (pointer_to (Some KnownPointer.Box) 0)
    ∷ resource ∷ plain_shape (codes "BoxRes") (pointer_to (Some KnownPointer.Box) 12) ∷ []

-- a pointer that is begun, with a token behind it
abbrev pub pointer_to_token : Tree
pointer_to_token = begun (as_content ContentKind.Pointer) (branch (whole (token 0)) no_trees)

abbrev pub put_pointee : (shape : ℕ) → Val → List Call
put_pointee shape v = BeginSmartPtr ∷ Set shape v ∷ End ∷ []

abbrev pub begins_pointer : ℕ → Operation → Type 0
begins_pointer root operation = Runs boxed_shapes root (BeginSmartPtr ∷ []) (refused_first (operation_failed root operation))

pub record PointerExamples : Type 0 where
  pub fields_by_name :
      Runs arcs 4 (in_deferred (BeginSmartPtr ∷ BeginField (codes "x") ∷ Set 0 (nat 42) ∷ End
      ∷ BeginField (codes "b") ∷ Set 0 (nat 43) ∷ End ∷ End ∷ [])) (Ok (ptr (product (two (nat 42) (nat 43)))))
  pub owned_text : Runs boxed_shapes 3 (put_pointee 1 (text (codes "hi"))) (Ok (ptr (text (codes "hi"))))
  pub path : Runs boxed_shapes 11 (BeginSmartPtr ∷ End ∷ []) (lacks 1 0 (PathStep.Deref ∷ []))
  pub begun_anew : Runs boxed_shapes 11 (put_pointee 0 (nat 1) ++ BeginSmartPtr ∷ End ∷ []) (lacks 4 0 (PathStep.Deref ∷ []))
  pub begun_again : Runs boxed_shapes 11 (in_deferred (put_pointee 0 (nat 1) ++ BeginSmartPtr ∷ End ∷ [])) (Ok (ptr (nat 1)))
  pub whole_anew : Runs boxed_shapes 11 (in_deferred (Set 11 (ptr (nat 1)) ∷ BeginSmartPtr ∷ End ∷ [])) (lacks 4 0 [])
  pub anew_drops : Drops boxed_shapes 13 strict pointer_to_token BeginSmartPtr 0 1
  pub again_drops_none : Drops boxed_shapes 13 (deferred 0) pointer_to_token BeginSmartPtr 0 0
  pub whole_drops : Drops boxed_shapes 13 (deferred 0) (whole (ptr (token 0))) BeginSmartPtr 0 1
  -- of several refusals the first
  pub no_pointer : begins_pointer 0 Operation.PointerNotConstructible
  pub not_constructible : begins_pointer 9 Operation.PointerNotConstructible
  pub no_pointee : begins_pointer 8 Operation.PointerWithoutPointee
  pub borrowed_text : begins_pointer 4 Operation.PointeeNotBuildable
  pub unknown_text : begins_pointer 5 Operation.PointeeNotBuildable
  pub borrowed_slice : begins_pointer 7 Operation.SlicePointerNotBuildable
  -- a `str` takes an owned text, and no other shape but its own
  pub no_number :
      Runs boxed_shapes 3 (BeginSmartPtr ∷ Set 0 (nat 1) ∷ []) (refused 1 (ReflectErrorKind.WrongShape (id 2) (id 0)) (PathStep.Deref ∷ []))
  pub no_other_text :
      Runs boxed_shapes 3 (BeginSmartPtr ∷ Set 10 (text (codes "hi")) ∷ [])
      (refused 1 (ReflectErrorKind.WrongShape (id 2) (id 10)) (PathStep.Deref ∷ []))
  pub own_shape : Runs boxed_shapes 3 (put_pointee 2 (text (codes "hi"))) (Ok (ptr (text (codes "hi"))))
  pub no_str_at_string : Runs boxed_shapes 1 (Set 2 (text (codes "hi")) ∷ []) (refused_first (ReflectErrorKind.WrongShape (id 1) (id 2)))
