-- What a place comes to, and its tokens.
use Rattle.std.proofs.Common.{◌≡◌, ℕ, zero, suc, ◌+◌, Bool, true, false, List, [], ◌∷◌, length, replicate, option_map, Option, Some, None, IsSome, refl, sym, ◌∙◌, ap, arith, if◌then◌else◌}
use Rattle.fr_frame.specs.Common.{Cell, Conserved, ContentKind, Def, IfSome, IsFullAs, ItemsKind, Tracker, Val, Vals, Value, absent, as_content, as_elements, as_entries, as_fields, as_items, begun_body, cells_occur, cells_of_vals, first, given, is_conversion, made, no_vals, occurs, placed, vals_occur, vals_view, value_of, values_of}
use Rattle.fr_shape.specs.declared.shape.ShapeId.{ShapeId}
use Rattle.fr_model.specs.Complete.{value_as}
use Rattle.fr_model.specs.Places.{vals_nth}
use Rattle.fr_model.specs.PartLaws.{parts_hold}
use Rattle.fr_model.specs.Step.{parts_as}
use Rattle.fr_model.specs.Well.{PointsTo}
use Rattle.fr_frame.specs.Bodies.{boxes, can_make, gathers, is_around, is_one}
use Rattle.fr_values.specs.CellLaws.{values_occur}

-- a place whose children can make a value, and are all there, has that value
pub value_made : (tracker : Tracker) (cells : List Cell) → can_make tracker cells ≡ true → value_of (begun_body tracker cells) ≡ made tracker (values_of cells)
value_made tracker cells can = ap (λ (b : Bool). if b then made tracker (values_of cells) else None) can

one_is : (cells : List Cell) → length cells ≡ 1 → is_one cells ≡ true
one_is [] h = absurd (omega arith)
one_is (c ∷ []) h = refl
one_is (c ∷ d ∷ cs) h = absurd (omega arith)

-- a place that has all its children can, if it is no conversion
pub full_makes : (def : Def) (tracker : Tracker) (cells : List Cell) → IsFullAs def tracker (length cells) → is_conversion tracker ≡ false
    → can_make tracker cells ≡ true
full_makes def (as_fields selected) cells h plain = refl
full_makes def as_elements cells h plain = refl
full_makes def (as_items kind) cells h plain = refl
full_makes def (as_entries kind) cells h plain = refl
full_makes def (as_content (ContentKind.Source conversion)) cells h plain = absurd (cc)
full_makes (Def.Option t) (as_content ContentKind.Some) cells h plain = one_is cells h
full_makes (Def.Result t e) (as_content ContentKind.Ok) cells h plain = one_is cells h
full_makes (Def.Result t e) (as_content ContentKind.Err) cells h plain = one_is cells h
full_makes (Def.Pointer pointer) (as_content ContentKind.Pointer) cells h plain = go pointer.pointee h
  where
    go : (pointee : Option ShapeId) → PointsTo pointee (length cells) → is_one cells ≡ true
    go (Some t) h = one_is cells h
    go None h = absurd h
full_makes _ (as_content kind) cells h plain = absurd h

pub full_value : (def : Def) (tracker : Tracker) (cells : List Cell) → IsFullAs def tracker (length cells) → is_conversion tracker ≡ false
    → value_of (begun_body tracker cells) ≡ made tracker (values_of cells)
full_value def tracker cells h plain = value_made tracker cells (full_makes def tracker cells h plain)

-- around one child there is one value
pub one_listed : (tracker : Tracker) (cells : List Cell) (items : List Value) → is_around tracker ≡ true → IsSome (value_of (begun_body tracker cells))
    → values_of cells ≡ Some (vals_view items) → length items ≡ 1
one_listed tracker cells items around there are = go cells are (able (is_one cells) refl (can (is_conversion tracker) (is_around tracker) around there))
  where
    can : (conversion around : Bool) → around ≡ true
        → IsSome (if (if conversion then false else if around then is_one cells else true) then made tracker (values_of cells) else None)
        → IsSome (if is_one cells then made tracker (values_of cells) else None)
    can false true e h = h
    can true around e h = absurd (cc)
    can false false e h = absurd (cc)

    able : (one : Bool) → is_one cells ≡ one → IsSome (if one then made tracker (values_of cells) else None) → is_one cells ≡ true
    able true e h = e
    able false e h = absurd (cc)

    single : (v : Val) (xs : List Value) → first v no_vals ≡ vals_view xs → length xs ≡ 1
    single v [] e = absurd (cc)
    single v (x ∷ []) e = refl
    single v (x ∷ y ∷ xs) e = absurd (cc)

    go : (cs : List Cell) → values_of cs ≡ Some (vals_view items) → is_one cs ≡ true → length items ≡ 1
    go [] e h = absurd (cc)
    go (absent ∷ []) e h = let no : None ≡ Some (vals_view items) = e in absurd (cc)
    go (placed n ∷ []) e h = let no : None ≡ Some (vals_view items) = e in absurd (cc)
    go (given v ∷ []) e h =
        let is : Some (first v no_vals) ≡ Some (vals_view items) = e in
        let same : first v no_vals ≡ vals_view items = cc in
        single v items same
    go (c ∷ d ∷ cs) e h = absurd (cc)

-- one child's value is the first of all
one_occurs : (cells : List Cell) (vs : Vals) (t : ℕ) → is_one cells ≡ true → values_of cells ≡ Some vs
    → cells_occur cells t ≡ occurs (vals_nth vs 0) t
one_occurs [] vs t can e = absurd (cc)
one_occurs (absent ∷ []) vs t can e = let no : None ≡ Some vs = e in absurd (cc)
one_occurs (placed n ∷ []) vs t can e = let no : None ≡ Some vs = e in absurd (cc)
one_occurs (given v ∷ []) vs t can e =
    let is : Some (first v no_vals) ≡ Some vs = e in
    let same : first v no_vals ≡ vs = cc in
    let held : occurs v t ≡ occurs (vals_nth vs 0) t = ap (λ (x : Vals). occurs (vals_nth x 0) t) same in
    omega arith
one_occurs (c ∷ d ∷ cs) vs t can e = absurd (cc)

made_occurs : (tracker : Tracker) (cells : List Cell) (vs : Vals) (t : ℕ) → gathers tracker ≡ false → can_make tracker cells ≡ true
    → values_of cells ≡ Some vs → cells_occur cells t ≡ occurs (value_as tracker vs) t
made_occurs (as_content ContentKind.Some) cells vs t as_it_is can e = one_occurs cells vs t can e
made_occurs (as_content ContentKind.Ok) cells vs t as_it_is can e = one_occurs cells vs t can e
made_occurs (as_content ContentKind.Err) cells vs t as_it_is can e = one_occurs cells vs t can e
made_occurs (as_content ContentKind.Pointer) cells vs t as_it_is can e = one_occurs cells vs t can e
made_occurs (as_content (ContentKind.Source conversion)) cells vs t as_it_is can e = absurd (cc)
made_occurs (as_fields None) cells vs t as_it_is can e = values_occur cells vs t e
made_occurs (as_items ItemsKind.Set) cells vs t as_it_is can e = absurd (cc)
made_occurs (as_entries kind) cells vs t as_it_is can e = absurd (cc)
made_occurs (as_items ItemsKind.Array) cells vs t as_it_is can e = absurd (cc)
made_occurs _ cells vs t as_it_is can e = values_occur cells vs t e

-- what isn't put together anew has its children's tokens
pub begun_occurs : (tracker : Tracker) (cells : List Cell) (v : Val) → gathers tracker ≡ false → value_of (begun_body tracker cells) ≡ Some v
    → (t : ℕ) → cells_occur cells t ≡ occurs v t
begun_occurs tracker cells v as_it_is e t = go (can_make tracker cells) (values_of cells) refl refl e
  where
    go : (can : Bool) (values : Option Vals) → can_make tracker cells ≡ can → values_of cells ≡ values
        → (if can then made tracker values else None) ≡ Some v → cells_occur cells t ≡ occurs v t
    go true (Some vs) able are is =
        let some : Some (value_as tracker vs) ≡ Some v = is in
        let same : value_as tracker vs ≡ v = cc in
        made_occurs tracker cells vs t as_it_is able are ∙ ap (λ (x : Val). occurs x t) same
    go true None able are is = absurd (cc)
    go false values able are is = absurd (cc)

-- the same tokens are there, and none was released
pub as_before : (held left : ℕ → ℕ) (ledger : List ℕ) → ((t : ℕ) → held t ≡ left t) → Conserved held ledger left ledger
as_before held left ledger same = record {
  same_length = refl;
  kept_or_released = λ t. omega (arith, same t);
  none_falls = λ t. omega arith;
}

-- a box is put around what is as it was
pub boxes_as_it_is : (tracker : Tracker) → boxes tracker ≡ true → gathers tracker ≡ false
boxes_as_it_is (as_items ItemsKind.Set) e = absurd (cc)
boxes_as_it_is (as_entries kind) e = absurd (cc)
boxes_as_it_is (as_items ItemsKind.Array) e = absurd (cc)
boxes_as_it_is _ e = refl

-- what holds no box isn't around one child
boxless_makes : (tracker : Tracker) (cells : List Cell) → boxes tracker ≡ false → can_make tracker cells ≡ true
boxless_makes (as_content kind) cells e = absurd (cc)
boxless_makes (as_items ItemsKind.Slice) cells e = absurd (cc)
boxless_makes (as_items ItemsKind.ClosedSlice) cells e = absurd (cc)
boxless_makes _ cells e = refl

-- so its value is what its children's values make
pub boxless_value : (tracker : Tracker) (cells : List Cell) (vs : Vals) (v : Val) → boxes tracker ≡ false → values_of cells ≡ Some vs
    → v ≡ value_as tracker vs → value_of (begun_body tracker cells) ≡ Some v
boxless_value tracker cells vs v no_box are is =
    value_made tracker cells (boxless_makes tracker cells no_box) ∙ ap (made tracker) are ∙ ap (λ (x : Val). Some x) (sym is)

vals_cells : (vs : Vals) (t : ℕ) → cells_occur (cells_of_vals vs) t ≡ vals_occur vs t
vals_cells no_vals t = refl
vals_cells (first v vs) t = ap (λ (n : ℕ). occurs v t + n) (vals_cells vs t)

-- a value's parts have its tokens

pub none_occur : (count t : ℕ) → cells_occur (replicate count absent) t ≡ 0
none_occur zero t = refl
none_occur (suc count) t = omega (arith, none_occur count t)

pub parts_occur : (tracker : Tracker) (v : Val) (cells : List Cell) (t : ℕ) → option_map cells_of_vals (parts_as tracker v) ≡ Some cells
    → cells_occur cells t ≡ occurs v t
parts_occur tracker v cells t = go (parts_as tracker v) (parts_hold tracker v t)
  where
    go : (parts : Option Vals) → IfSome parts (λ vs. vals_occur vs t ≡ occurs v t) → option_map cells_of_vals parts ≡ Some cells
        → cells_occur cells t ≡ occurs v t
    go (Some vs) same e =
        let is : cells_of_vals vs ≡ cells = cc in
        ap (λ (cs : List Cell). cells_occur cs t) (sym is) ∙ vals_cells vs t ∙ same
    go None same e = let no : None ≡ Some cells = e in cc
