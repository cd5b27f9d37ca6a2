-- Which definitions are a Rust type's own.
use Rattle.std.specs.Prelude.{ℕ, Bool, true, false, ◌&&◌, nat_eq, Option, Some, None}
use Rattle.fr_shape.specs.declared.shape.Def.{Def}
use Rattle.fr_shape.specs.declared.shape.KnownPointer.{KnownPointer}
use Rattle.fr_shape.specs.declared.shape.ScalarKind.{ScalarKind}
use Rattle.fr_shape.specs.Fits.{points_at}
use Rattle.fr_facet.specs.declared.finding.Wanted.{Wanted}

-- the kinds of scalars, numbered
abbrev pub kind_number : ScalarKind → ℕ
kind_number ScalarKind.Bool = 0
kind_number ScalarKind.Char = 1
kind_number ScalarKind.I8 = 2
kind_number ScalarKind.I16 = 3
kind_number ScalarKind.I32 = 4
kind_number ScalarKind.I64 = 5
kind_number ScalarKind.I128 = 6
kind_number ScalarKind.ISize = 7
kind_number ScalarKind.U8 = 8
kind_number ScalarKind.U16 = 9
kind_number ScalarKind.U32 = 10
kind_number ScalarKind.U64 = 11
kind_number ScalarKind.U128 = 12
kind_number ScalarKind.USize = 13
kind_number ScalarKind.String = 14
kind_number ScalarKind.CowStr = 15

-- a scalar of this kind
abbrev pub is_scalar_of : ScalarKind → Def → Bool
is_scalar_of kind (Def.Scalar own) = nat_eq (kind_number own) (kind_number kind)
is_scalar_of kind _ = false

abbrev pub is_opaque : Def → Bool
is_opaque Def.Opaque = true
is_opaque _ = false

-- an option whose content is the shape of this number
abbrev pub is_option_of : Option ℕ → Def → Bool
is_option_of (Some content) (Def.Option t) = nat_eq t.0 content
is_option_of _ _ = false

-- a result whose value and whose error are the shapes of these numbers
abbrev pub is_result_of : Option ℕ → Option ℕ → Def → Bool
is_result_of (Some content) (Some error) (Def.Result t e) = nat_eq t.0 content && nat_eq e.0 error
is_result_of _ _ _ = false

-- a list whose items are of the shape of this number
abbrev pub is_list_of : Option ℕ → Def → Bool
is_list_of (Some item) (Def.List t) = nat_eq t.0 item
is_list_of _ _ = false

-- known by the name of Box
abbrev pub is_box : Option KnownPointer → Bool
is_box (Some KnownPointer.Box) = true
is_box (Some KnownPointer.Arc) = false
is_box (Some KnownPointer.Rc) = false
is_box (Some KnownPointer.SharedReference) = false
is_box None = false

-- a pointer known as Box that points to the shape of this number
abbrev pub is_box_of : Option ℕ → Def → Bool
is_box_of (Some pointee) (Def.Pointer pointer) = is_box pointer.known && points_at pointer.pointee (λ t. nat_eq t pointee)
is_box_of _ _ = false

-- the definition is the one that is looked for
abbrev pub is_wanted : Wanted → Def → Bool
is_wanted (Wanted.Scalar kind) def = is_scalar_of kind def
is_wanted Wanted.Opaque def = is_opaque def
is_wanted (Wanted.Option t) def = is_option_of (Some t.0) def
is_wanted (Wanted.Result t e) def = is_result_of (Some t.0) (Some e.0) def
is_wanted (Wanted.List t) def = is_list_of (Some t.0) def
is_wanted (Wanted.Box t) def = is_box_of (Some t.0) def
