-- A value fits a type's own shape exactly where it is an element of the type: types that are made of others, and tokens.
use Rattle.std.proofs.Common.{◌≡◌, ℕ, Bool, true, false, ◌&&◌, Option, Some, None, nat_eq, refl, sym, ap}
use Rattle.std.proofs.lemmas.Bool.{eqb-true}
use Rattle.fr_shape.specs.declared.shape.Def.{Def}
use Rattle.fr_shape.specs.declared.shape.PointerDef.{PointerDef}
use Rattle.fr_shape.specs.declared.shape.ShapeId.{ShapeId}
use Rattle.fr_shape.specs.Fits.{fits, all_fit, points_at}
use Rattle.fr_shape.specs.Look.{Table, def_of, settled}
use Rattle.fr_shape.specs.Val.{Val, Vals, unit, bool, char, int, nat, text, token, product, variant, none, some, ok, err, list_of, map_of, set_of, ptr, dyn, no_vals, first}
use Rattle.fr_facet.specs.Elements.{box_takes, each_taken, list_takes, opaque_takes, option_takes, result_takes}
use Rattle.fr_facet.specs.Facets.{first_own}
use Rattle.fr_facet.specs.FitLaws.{first_is_own, settles}
use Rattle.fr_facet.specs.Own.{is_box, is_box_of, is_list_of, is_opaque, is_option_of, is_result_of}

-- the values that fit a type's own shape are those that are taken
abbrev pub FitsOwn : (is_own : Table → Def → Bool) → (takes : Val → Bool) → Type 0
FitsOwn is_own takes = (table : Table) (id : ℕ) → first_own is_own table ≡ Some id → (v : Val) → fits table id v ≡ takes v

some_same : (t : ShapeId) (n : ℕ) → nat_eq t.0 n ≡ true → Some n ≡ Some t.0
some_same t n same = sym (ap (λ (m : ℕ). Some m) (eqb-true t.0 n same))

both_true : (a b : Bool) → (a && b) ≡ true → (a ≡ true) × (b ≡ true)
both_true true true e = (refl, refl)
both_true true false e = cc
both_true false b e = cc

-- Tokens

opaque_is : (def : Def) → is_opaque def ≡ true → def ≡ Def.Opaque
opaque_is (Def.Scalar kind) own = cc
opaque_is Def.Str own = cc
opaque_is Def.Opaque own = refl
opaque_is (Def.Struct struct) own = cc
opaque_is (Def.Enum enumeration) own = cc
opaque_is (Def.Option t) own = cc
opaque_is (Def.Result t e) own = cc
opaque_is (Def.List t) own = cc
opaque_is (Def.Map k v) own = cc
opaque_is (Def.Set t) own = cc
opaque_is (Def.Array t n) own = cc
opaque_is (Def.Pointer pointer) own = cc
opaque_is (Def.Slice t) own = cc
opaque_is Def.Dynamic own = cc
opaque_is Def.Undefined own = cc
opaque_is Def.Other own = cc

opaque_fits : (table : Table) (id : ℕ) → settled table id ≡ Def.Opaque → (v : Val) → fits table id v ≡ opaque_takes v
opaque_fits table id is unit = refl
opaque_fits table id is (bool b) = rw is refl
opaque_fits table id is (char c) = rw is refl
opaque_fits table id is (int z) = rw is refl
opaque_fits table id is (nat n) = rw is refl
opaque_fits table id is (text t) = rw is refl
opaque_fits table id is (token t) = rw is refl
opaque_fits table id is (product vs) = rw is refl
opaque_fits table id is (variant i vs) = rw is refl
opaque_fits table id is none = rw is refl
opaque_fits table id is (some v) = rw is refl
opaque_fits table id is (ok v) = rw is refl
opaque_fits table id is (err v) = rw is refl
opaque_fits table id is (list_of vs) = rw is refl
opaque_fits table id is (set_of vs) = rw is refl
opaque_fits table id is (map_of es) = rw is refl
opaque_fits table id is (ptr v) = rw is refl
opaque_fits table id is (dyn d) = rw is refl

pub opaque_taken_fit : FitsOwn (λ _ def. is_opaque def) opaque_takes
opaque_taken_fit table id found =
    let own = first_is_own is_opaque table id found in
    opaque_fits table id (settles table id Def.Opaque (λ _ _. refl) own.0 (opaque_is (def_of table id) own.1))

-- Options

option_is : (content : Option ℕ) (def : Def) → is_option_of content def ≡ true → (t : ShapeId) × (content ≡ Some t.0) × (def ≡ Def.Option t)
option_is None def own = cc
option_is (Some number) (Def.Scalar kind) own = cc
option_is (Some number) Def.Str own = cc
option_is (Some number) Def.Opaque own = cc
option_is (Some number) (Def.Struct struct) own = cc
option_is (Some number) (Def.Enum enumeration) own = cc
option_is (Some number) (Def.Option t) own = (t, some_same t number own, refl)
option_is (Some number) (Def.Result t e) own = cc
option_is (Some number) (Def.List t) own = cc
option_is (Some number) (Def.Map k v) own = cc
option_is (Some number) (Def.Set t) own = cc
option_is (Some number) (Def.Array t n) own = cc
option_is (Some number) (Def.Pointer pointer) own = cc
option_is (Some number) (Def.Slice t) own = cc
option_is (Some number) Def.Dynamic own = cc
option_is (Some number) Def.Undefined own = cc
option_is (Some number) Def.Other own = cc

option_fits : (takes : Val → Bool) (table : Table) (content : ShapeId) → ((v : Val) → fits table content.0 v ≡ takes v)
    → (id : ℕ) → settled table id ≡ Def.Option content → (v : Val) → fits table id v ≡ option_takes takes v
option_fits takes table content fit id is unit = refl
option_fits takes table content fit id is (bool b) = rw is refl
option_fits takes table content fit id is (char c) = rw is refl
option_fits takes table content fit id is (int z) = rw is refl
option_fits takes table content fit id is (nat n) = rw is refl
option_fits takes table content fit id is (text t) = rw is refl
option_fits takes table content fit id is (token t) = rw is refl
option_fits takes table content fit id is (product vs) = rw is refl
option_fits takes table content fit id is (variant i vs) = rw is refl
option_fits takes table content fit id is none = rw is refl
option_fits takes table content fit id is (some v) = rw is (fit v)
option_fits takes table content fit id is (ok v) = rw is refl
option_fits takes table content fit id is (err v) = rw is refl
option_fits takes table content fit id is (list_of vs) = rw is refl
option_fits takes table content fit id is (set_of vs) = rw is refl
option_fits takes table content fit id is (map_of es) = rw is refl
option_fits takes table content fit id is (ptr v) = rw is refl
option_fits takes table content fit id is (dyn d) = rw is refl

pub option_taken_fit : (is_own : Table → Def → Bool) (takes : Val → Bool) → FitsOwn is_own takes
    → FitsOwn (λ table def. is_option_of (first_own is_own table) def) (option_takes takes)
option_taken_fit is_own takes fit table id found =
    let own = first_is_own (is_option_of (first_own is_own table)) table id found in
    let is = option_is (first_own is_own table) (def_of table id) own.1 in
    option_fits takes table is.0 (fit table is.0.0 is.1) id (settles table id (Def.Option is.0) (λ _ _. refl) own.0 is.2)

-- Results

result_is : (content error : Option ℕ) (def : Def) → is_result_of content error def ≡ true
    → (t e : ShapeId) × (content ≡ Some t.0) × (error ≡ Some e.0) × (def ≡ Def.Result t e)
result_is None error def own = cc
result_is (Some n) None def own = cc
result_is (Some number) (Some other) (Def.Scalar kind) own = cc
result_is (Some number) (Some other) Def.Str own = cc
result_is (Some number) (Some other) Def.Opaque own = cc
result_is (Some number) (Some other) (Def.Struct struct) own = cc
result_is (Some number) (Some other) (Def.Enum enumeration) own = cc
result_is (Some number) (Some other) (Def.Option t) own = cc
result_is (Some number) (Some other) (Def.Result t e) own =
    let parts = both_true (nat_eq t.0 number) (nat_eq e.0 other) own in (t, e, some_same t number parts.0, some_same e other parts.1, refl)
result_is (Some number) (Some other) (Def.List t) own = cc
result_is (Some number) (Some other) (Def.Map k v) own = cc
result_is (Some number) (Some other) (Def.Set t) own = cc
result_is (Some number) (Some other) (Def.Array t n) own = cc
result_is (Some number) (Some other) (Def.Pointer pointer) own = cc
result_is (Some number) (Some other) (Def.Slice t) own = cc
result_is (Some number) (Some other) Def.Dynamic own = cc
result_is (Some number) (Some other) Def.Undefined own = cc
result_is (Some number) (Some other) Def.Other own = cc

module _ (takes takes_error : Val → Bool) (table : Table) (content error : ShapeId) (fit : (v : Val) → fits table content.0 v ≡ takes v) (fit_error : (v : Val) → fits table error.0 v ≡ takes_error v) where
  result_fits : (id : ℕ) → settled table id ≡ Def.Result content error → (v : Val) → fits table id v ≡ result_takes takes takes_error v
  result_fits id is unit = refl
  result_fits id is (bool b) = rw is refl
  result_fits id is (char c) = rw is refl
  result_fits id is (int z) = rw is refl
  result_fits id is (nat n) = rw is refl
  result_fits id is (text t) = rw is refl
  result_fits id is (token t) = rw is refl
  result_fits id is (product vs) = rw is refl
  result_fits id is (variant i vs) = rw is refl
  result_fits id is none = rw is refl
  result_fits id is (some v) = rw is refl
  result_fits id is (ok v) = rw is (fit v)
  result_fits id is (err v) = rw is (fit_error v)
  result_fits id is (list_of vs) = rw is refl
  result_fits id is (set_of vs) = rw is refl
  result_fits id is (map_of es) = rw is refl
  result_fits id is (ptr v) = rw is refl
  result_fits id is (dyn d) = rw is refl

pub result_taken_fit : (is_own : Table → Def → Bool) (takes : Val → Bool) → FitsOwn is_own takes
    → (is_error : Table → Def → Bool) (takes_error : Val → Bool) → FitsOwn is_error takes_error
    → FitsOwn (λ table def. is_result_of (first_own is_own table) (first_own is_error table) def) (result_takes takes takes_error)
result_taken_fit is_own takes fit is_error takes_error fit_error table id found =
    let own = first_is_own (is_result_of (first_own is_own table) (first_own is_error table)) table id found in
    let is = result_is (first_own is_own table) (first_own is_error table) (def_of table id) own.1 in
    result_fits takes takes_error table is.0 is.1 (fit table is.0.0 is.2) (fit_error table is.1.0 is.3) id
    (settles table id (Def.Result is.0 is.1) (λ _ _. refl) own.0 is.4)

-- Lists

pub list_is : (item : Option ℕ) (def : Def) → is_list_of item def ≡ true → (t : ShapeId) × (item ≡ Some t.0) × (def ≡ Def.List t)
list_is None def own = cc
list_is (Some number) (Def.Scalar kind) own = cc
list_is (Some number) Def.Str own = cc
list_is (Some number) Def.Opaque own = cc
list_is (Some number) (Def.Struct struct) own = cc
list_is (Some number) (Def.Enum enumeration) own = cc
list_is (Some number) (Def.Option t) own = cc
list_is (Some number) (Def.Result t e) own = cc
list_is (Some number) (Def.List t) own = (t, some_same t number own, refl)
list_is (Some number) (Def.Map k v) own = cc
list_is (Some number) (Def.Set t) own = cc
list_is (Some number) (Def.Array t n) own = cc
list_is (Some number) (Def.Pointer pointer) own = cc
list_is (Some number) (Def.Slice t) own = cc
list_is (Some number) Def.Dynamic own = cc
list_is (Some number) Def.Undefined own = cc
list_is (Some number) Def.Other own = cc

each_fits : (takes : Val → Bool) (table : Table) (id : ℕ) → ((v : Val) → fits table id v ≡ takes v)
    → (vs : Vals) → all_fit table id vs ≡ each_taken takes vs
each_fits takes table id fit no_vals = refl
each_fits takes table id fit (first v vs) = rw (fit v, each_fits takes table id fit vs) refl

list_fits : (takes : Val → Bool) (table : Table) (item : ShapeId) → ((v : Val) → fits table item.0 v ≡ takes v)
    → (id : ℕ) → settled table id ≡ Def.List item → (v : Val) → fits table id v ≡ list_takes takes v
list_fits takes table item fit id e unit = refl
list_fits takes table item fit id e (bool b) = rw e refl
list_fits takes table item fit id e (char c) = rw e refl
list_fits takes table item fit id e (int z) = rw e refl
list_fits takes table item fit id e (nat n) = rw e refl
list_fits takes table item fit id e (text t) = rw e refl
list_fits takes table item fit id e (token t) = rw e refl
list_fits takes table item fit id e (product vs) = rw e refl
list_fits takes table item fit id e (variant i vs) = rw e refl
list_fits takes table item fit id e none = rw e refl
list_fits takes table item fit id e (some v) = rw e refl
list_fits takes table item fit id e (ok v) = rw e refl
list_fits takes table item fit id e (err v) = rw e refl
list_fits takes table item fit id e (list_of vs) = rw e (each_fits takes table item.0 fit vs)
list_fits takes table item fit id e (set_of vs) = rw e refl
list_fits takes table item fit id e (map_of es) = rw e refl
list_fits takes table item fit id e (ptr v) = rw e refl
list_fits takes table item fit id e (dyn d) = rw e refl

pub list_taken_fit : (is_own : Table → Def → Bool) (takes : Val → Bool) → FitsOwn is_own takes
    → FitsOwn (λ table def. is_list_of (first_own is_own table) def) (list_takes takes)
list_taken_fit is_own takes fit table id found =
    let own = first_is_own (is_list_of (first_own is_own table)) table id found in
    let is = list_is (first_own is_own table) (def_of table id) own.1 in
    list_fits takes table is.0 (fit table is.0.0 is.1) id (settles table id (Def.List is.0) (λ _ _. refl) own.0 is.2)

-- Boxes

-- what is known of a pointer that is a Box of the shape
box_pointer : (n : ℕ) (known : Bool) (pointee : Option ShapeId) → (known && points_at pointee (λ t. nat_eq t n)) ≡ true
    → (t : ShapeId) × (Some n ≡ Some t.0) × (pointee ≡ Some t)
box_pointer n true (Some t) own = (t, some_same t n own, refl)
box_pointer n true None own = cc
box_pointer n false pointee own = cc

box_is : (pointee : Option ℕ) (def : Def) → is_box_of pointee def ≡ true
    → (pointer : PointerDef) × (t : ShapeId) × (pointee ≡ Some t.0) × (pointer.pointee ≡ Some t) × (def ≡ Def.Pointer pointer)
box_is None def own = cc
box_is (Some number) (Def.Scalar kind) own = cc
box_is (Some number) Def.Str own = cc
box_is (Some number) Def.Opaque own = cc
box_is (Some number) (Def.Struct struct) own = cc
box_is (Some number) (Def.Enum enumeration) own = cc
box_is (Some number) (Def.Option t) own = cc
box_is (Some number) (Def.Result t e) own = cc
box_is (Some number) (Def.List t) own = cc
box_is (Some number) (Def.Map k v) own = cc
box_is (Some number) (Def.Set t) own = cc
box_is (Some number) (Def.Array t n) own = cc
box_is (Some number) (Def.Pointer pointer) own =
    let is = box_pointer number (is_box pointer.known) pointer.pointee own in (pointer, is.0, is.1, is.2, refl)
box_is (Some number) (Def.Slice t) own = cc
box_is (Some number) Def.Dynamic own = cc
box_is (Some number) Def.Undefined own = cc
box_is (Some number) Def.Other own = cc

module _ (takes : Val → Bool) (table : Table) (pointer : PointerDef) (pointee : ShapeId) (points : pointer.pointee ≡ Some pointee) (fit : (v : Val) → fits table pointee.0 v ≡ takes v) where
  box_fits : (id : ℕ) → settled table id ≡ Def.Pointer pointer → (v : Val) → fits table id v ≡ box_takes takes v
  box_fits id is unit = refl
  box_fits id is (bool b) = rw is refl
  box_fits id is (char c) = rw is refl
  box_fits id is (int z) = rw is refl
  box_fits id is (nat n) = rw is refl
  box_fits id is (text t) = rw is refl
  box_fits id is (token t) = rw (is, points) refl
  box_fits id is (product vs) = rw is refl
  box_fits id is (variant i vs) = rw is refl
  box_fits id is none = rw is refl
  box_fits id is (some v) = rw is refl
  box_fits id is (ok v) = rw is refl
  box_fits id is (err v) = rw is refl
  box_fits id is (list_of vs) = rw is refl
  box_fits id is (set_of vs) = rw is refl
  box_fits id is (map_of es) = rw is refl
  box_fits id is (ptr v) = rw (is, points) (fit v)
  box_fits id is (dyn d) = rw is refl

pub box_taken_fit : (is_own : Table → Def → Bool) (takes : Val → Bool) → FitsOwn is_own takes
    → FitsOwn (λ table def. is_box_of (first_own is_own table) def) (box_takes takes)
box_taken_fit is_own takes fit table id found =
    let own = first_is_own (is_box_of (first_own is_own table)) table id found in
    let is = box_is (first_own is_own table) (def_of table id) own.1 in
    box_fits takes table is.0 is.1 is.3 (fit table is.1.0 is.2) id (settles table id (Def.Pointer is.0) (λ _ _. refl) own.0 is.4)
