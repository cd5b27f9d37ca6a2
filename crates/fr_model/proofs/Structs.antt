-- Trees and their values: what fits opens into fitting children, and fitting children make what fits.
use Rattle.std.proofs.Common.{◌≡◌, ◌+◌, if◌then◌else◌, ◌∷◌}
use Rattle.fr_model.proofs.Common.{IsContent, AreTouched, AreEntries, ℕ, zero, suc, eq-eqb, Bool, true, false, List, [], length, slice_get, Option, Some, None, refl, sym, ◌∙◌, ap, subst, arith, Def, ShapeId, StructDef, EnumDef, VariantDef, Field, Table, IsIn, def_of, settled, Operation, Val, Vals, Entries, list_of, no_vals, first, no_entries, fits, all_fit, entries_fit, fields_fit, fields_of_variant, points_at, count_vals, occurs, vals_occur, pointee_refusal, pointer_refusal, is_slice, keys_apart, entries_in, left_out, shape_or_zero, pointee_shape, item_shape, is_key, vals_nth, one_more, product_of, Tracker, as_fields, as_elements, as_content, ContentKind, as_items, ItemsKind, as_entries, EntriesKind, Tree, Trees, no_trees, branch, tree_nth, change_nth, child_as, shapes_from, count_trees, holes, wholes, value_as, made, HasParts, HasFieldsOf, HasContent, PointsTo, IsFullAs, MayPoint, IsBegunRightly, Suits, SuitAll}
use Rattle.fr_shape.specs.declared.shape.PointerDef.{PointerDef}
use Rattle.fr_model.proofs.GatheredParts.{items_apart, items_fit, items_hold, entries_apart, entry_fits, entries_hold, elements_once, members_once, dynamics_hold}
use Rattle.fr_model.proofs.Templates.{both_true}

-- definitions that stand for themselves

abbrev pub stands_itself : Def → Bool
stands_itself Def.Other = false
stands_itself _ = true

pub settled_as : (table : Table) (s : ℕ) {def : Def} → def_of table s ≡ def → stands_itself def ≡ true → settled table s ≡ def
settled_as table s {def = def} e itself = go table def e itself
  where
    go : (table : Table) (def : Def) → def_of table s ≡ def → stands_itself def ≡ true → settled table s ≡ def
    go table Def.Other e itself = cc
    go [] _ e itself = cc
    go (shape ∷ shapes) _ e itself = rw e refl

-- the fields from number i on, as a list of their own
abbrev pub AreFrom : List Field → ℕ → List Field → Type 0
AreFrom all i fields = (k : ℕ) → slice_get all (i + k) ≡ slice_get fields k

next_are : (all : List Field) (i : ℕ) (field : Field) (fields : List Field) → AreFrom all i (field ∷ fields) → AreFrom all (suc i) fields
next_are all i field fields from k =
    let e : suc i + k ≡ i + suc k = omega arith in ap (slice_get all) e ∙ from (suc k)

first_is : (all : List Field) (i : ℕ) (field : Field) (fields : List Field) → AreFrom all i (field ∷ fields) → slice_get all i ≡ Some field
first_is all i field fields from = let e : i ≡ i + 0 = omega arith in ap (slice_get all) e ∙ from 0

pub all_from : (all : List Field) → AreFrom all 0 all
all_from all k = ap (slice_get all) (omega arith)

-- what completes

pub record OneMore (o : Option Val) (os : Option Vals) (vs : Vals) : Type 0 where
  pub head : Val
  pub tail : Vals
  pub head_is : o ≡ Some head
  pub tail_is : os ≡ Some tail
  pub same : vs ≡ first head tail

pub one_more_is : (o : Option Val) (os : Option Vals) (vs : Vals) → one_more o os ≡ Some vs → OneMore o os vs
one_more_is (Some v) (Some ws) vs e = record { head = v; tail = ws; head_is = refl; tail_is = refl; same = cc }
one_more_is (Some v) None vs e = cc
one_more_is None os vs e = cc

-- the shape of what a place of shape s, begun so, takes of child i: a conversion takes a value of its own shape
abbrev pub taken_as : Table → ℕ → Tracker → ℕ → ℕ
taken_as table s (as_content (ContentKind.Source conversion)) i = s
taken_as table s tracker i = child_as table s tracker i

-- the children of a place begun so have the shapes of these fields
abbrev pub ShapesAre : Table → ℕ → Tracker → List Field → Type 0
ShapesAre table s tracker fields =
    (i : ℕ) (field : Field) → slice_get fields i ≡ Some field → taken_as table s tracker i ≡ field.shape.0

pub struct_shapes : (table : Table) (s : ℕ) (struct : StructDef) → def_of table s ≡ Def.Struct struct
    → ShapesAre table s (as_fields None) struct.fields
struct_shapes table s struct is i field e = rw (is, e) refl

pub variant_shapes : (table : Table) (s k : ℕ) (enumeration : EnumDef) (variant : VariantDef)
    → def_of table s ≡ Def.Enum enumeration → slice_get enumeration.variants k ≡ Some variant
    → ShapesAre table s (as_fields (Some k)) variant.fields
variant_shapes table s k enumeration variant is there i field e = rw (is, there, e) refl

-- what is taken of children fits, of a place of shape s that is begun so, from number i on
abbrev pub ChildrenFit : Table → ℕ → Tracker → ℕ → Vals → Type 0
ChildrenFit table s tracker i no_vals = Unit {0}
ChildrenFit table s tracker i (first v vs) =
    (fits table (taken_as table s tracker i) v ≡ true) × ChildrenFit table s tracker (suc i) vs

fields_all_fit : (table : Table) (s : ℕ) (tracker : Tracker) (all : List Field) → ShapesAre table s tracker all
    → (i : ℕ) (fields : List Field) (vs : Vals) → AreFrom all i fields → count_vals vs ≡ length fields
    → ChildrenFit table s tracker i vs → fields_fit table fields vs ≡ true
fields_all_fit table s tracker all shapes i [] no_vals from count fit = refl
fields_all_fit table s tracker all shapes i [] (first v vs) from count fit = absurd (omega arith)
fields_all_fit table s tracker all shapes i (field ∷ fields) no_vals from count fit = absurd (omega arith)
fields_all_fit table s tracker all shapes i (field ∷ fields) (first v vs) from count fit =
    let shape = shapes i field (first_is all i field fields from) in
    let here : fits table field.shape.0 v ≡ true = rw shape at fit.0 in
    let others = fields_all_fit table s tracker all shapes (suc i) fields vs (next_are all i field fields from) (omega arith) fit.1 in
    rw (here, others) refl

-- children that all have one shape
each_fits : (table : Table) (s : ℕ) (tracker : Tracker) (shape : ℕ) → ((i : ℕ) → taken_as table s tracker i ≡ shape) → (i : ℕ)
    (vs : Vals) → ChildrenFit table s tracker i vs → all_fit table shape vs ≡ true
each_fits table s tracker shape same i no_vals fit = refl
each_fits table s tracker shape same i (first v vs) fit =
    let here : fits table shape v ≡ true = rw (same i) at fit.0 in
    let others = each_fits table s tracker shape same (suc i) vs fit.1 in
    rw (here, others) refl

-- what a place makes of its children's values
pub record MadeOf (tracker : Tracker) (os : Option Vals) (v : Val) : Type 0 where
  pub parts : Vals
  pub parts_are : os ≡ Some parts
  pub same : v ≡ value_as tracker parts

pub made_is : (tracker : Tracker) (os : Option Vals) (v : Val) → made tracker os ≡ Some v → MadeOf tracker os v
made_is tracker (Some vs) v e = record { parts = vs; parts_are = refl; same = cc }
made_is tracker None v e = cc

-- a struct or an array makes their product
pub made_product : (tracker : Tracker) (values : Option Vals) → HasParts tracker → made tracker values ≡ product_of values
made_product (as_fields None) (Some vs) parts = refl
made_product (as_fields None) None parts = refl
made_product as_elements (Some vs) parts = refl
made_product as_elements None parts = refl
made_product _ values parts = absurd parts

-- a place that holds one value has one child
points_once : (pointee : Option ShapeId) (count : ℕ) → PointsTo pointee count → count ≡ 1
points_once (Some t) count has = has
points_once None count has = absurd has

content_once : (def : Def) (kind : ContentKind) (count : ℕ) → HasContent def kind count → count ≡ 1
content_once def (ContentKind.Source conversion) count has = has
content_once (Def.Option t) ContentKind.Some count has = has
content_once (Def.Result t e) ContentKind.Ok count has = has
content_once (Def.Result t e) ContentKind.Err count has = has
content_once (Def.Pointer pointer) ContentKind.Pointer count has = points_once pointer.pointee count has
content_once _ kind count has = absurd has

-- it is known what a pointer that may be begun points to
pub has_pointee : (table : Table) (def : Def) → pointer_refusal table def ≡ None → HasContent def ContentKind.Pointer 1
has_pointee table (Def.Pointer pointer) e = go pointer.constructible pointer.pointee e
  where
    go : (constructible : Bool) (pointee : Option ShapeId)
        → (if constructible then pointee_refusal table pointer.known pointee else Some Operation.PointerNotConstructible) ≡ None
        → PointsTo pointee 1
    go true (Some t) e = refl
    go true None e = cc
    go false pointee e = cc
has_pointee table _ e = cc

-- what is asked of a place that is begun so, whatever its children are: a pointer to a slice is one, an object has no key twice, and a
-- conversion is to a shape of the table
abbrev pub IsSoundAs : Table → ℕ → Tracker → Type 0
IsSoundAs table s (as_items ItemsKind.Slice) = MayPoint table s true
IsSoundAs table s (as_items ItemsKind.ClosedSlice) = MayPoint table s true
IsSoundAs table s (as_entries (EntriesKind.Object keys)) = keys_apart keys ≡ true
IsSoundAs table s (as_content (ContentKind.Source conversion)) = IsIn table s
IsSoundAs table s _ = Unit {0}

pub sound_as : (table : Table) (s : ℕ) (tracker : Tracker) (ts : Trees) → IsBegunRightly table s tracker ts → IsSoundAs table s tracker
sound_as table s (as_items ItemsKind.Slice) ts rightly = rightly.1
sound_as table s (as_items ItemsKind.ClosedSlice) ts rightly = rightly.1
sound_as table s (as_entries (EntriesKind.Object keys)) ts rightly = rightly.1
sound_as table s (as_content (ContentKind.Source conversion)) ts rightly = rightly.1
sound_as table s _ ts rightly = tt

-- the items that fit make a slice that fits, and so the pointer to it
pointed_slice : (table : Table) (s : ℕ) (pointer : PointerDef) (vs : Vals) → def_of table s ≡ Def.Pointer pointer → MayPoint table s true
    → ((shape : ℕ) → ((def : Def) → def_of table (pointee_shape (def_of table s)) ≡ def → item_shape def ≡ shape)
    → all_fit table shape vs ≡ true) → points_at pointer.pointee (λ t. fits table t (list_of vs)) ≡ true
pointed_slice table s pointer vs is points fit = go pointer.pointee refl (rw is at (has_pointee table (def_of table s) points.0))
  where
    of_slice : (t : ShapeId) → pointee_shape (def_of table s) ≡ t.0 → (def : Def) → def_of table t.0 ≡ def
        → is_slice def ≡ true → fits table t.0 (list_of vs) ≡ true
    of_slice t behind (Def.Slice item) to slice =
        rw (settled_as table t.0 to refl)
        (fit item.0 (λ def there. let same : def ≡ Def.Slice item = sym there ∙ ap (def_of table) behind ∙ to in rw same refl))
    of_slice t behind _ to slice = cc

    go : (pointee : Option ShapeId) → pointer.pointee ≡ pointee → PointsTo pointee 1
        → points_at pointee (λ t. fits table t (list_of vs)) ≡ true
    go (Some t) to one =
        let behind : pointee_shape (def_of table s) ≡ t.0 = rw (is, to) refl in
        of_slice t behind _ refl (ap (λ (shape : ℕ). is_slice (def_of table shape)) (sym behind) ∙ points.1)
    go None to one = absurd one

one_holds : (vs : Vals) (t : ℕ) → count_vals vs ≡ 1 → occurs (vals_nth vs 0) t ≡ vals_occur vs t
one_holds (first v no_vals) t one = omega arith
one_holds _ t one = absurd (omega arith)

-- keys and values in turn make entries that fit

pub odd_next : (i : ℕ) → is_key i ≡ true → is_key (suc i) ≡ false
odd_next zero e = refl
odd_next (suc zero) e = cc
odd_next (suc (suc i)) e = odd_next i e

turns_fit : (table : Table) (s : ℕ) (key item : ShapeId) → def_of table s ≡ Def.Map key item → (base i : ℕ) → is_key i ≡ true
    → (there : Entries) (vs : Vals) → entries_fit table key.0 item.0 there ≡ true → ChildrenFit table s (as_entries (EntriesKind.Map base)) i vs
    → entries_fit table key.0 item.0 (entries_in there vs) ≡ true
turns_fit table s key item is base i even there (first k (first v vs)) h fit =
    turns_fit table s key item is base (suc (suc i)) even _ vs
    (entry_fits table key.0 item.0 there k v h (rw (is, even) at fit.0) (rw (is, odd_next i even) at fit.1.0)) fit.1.1
turns_fit table s key item is base i even there _ h fit = h

-- fitting children, as many as there have to be, make a value that fits
pub value_fits : (table : Table) (s : ℕ) (tracker : Tracker) (vs : Vals) → IsFullAs (def_of table s) tracker (count_vals vs)
    → IsSoundAs table s tracker → ChildrenFit table s tracker 0 vs → fits table s (value_as tracker vs) ≡ true
value_fits table s tracker vs count behind fit = go tracker _ refl vs count behind fit
  where
    of_variant : (k : ℕ) (enumeration : EnumDef) (found : Option VariantDef) → def_of table s ≡ Def.Enum enumeration
        → slice_get enumeration.variants k ≡ found → (vs : Vals) → HasFieldsOf found (count_vals vs)
        → ChildrenFit table s (as_fields (Some k)) 0 vs → fields_of_variant found (λ fields. fields_fit table fields vs) ≡ true
    of_variant k enumeration (Some variant) is there vs count fit =
        fields_all_fit table s (as_fields (Some k)) variant.fields (variant_shapes table s k enumeration variant is there) 0
        variant.fields vs (all_from variant.fields) count fit
    of_variant k enumeration None is there vs count fit = absurd count

    pointed : (pointer : PointerDef) (pointee : Option ShapeId) → def_of table s ≡ Def.Pointer pointer
        → pointer.pointee ≡ pointee → (v : Val) → fits table (shape_or_zero pointee) v ≡ true → (n : ℕ) → PointsTo pointee n
        → points_at pointee (λ t. fits table t v) ≡ true
    pointed pointer (Some t) is to v fit n one = fit
    pointed pointer None is to v fit n one = absurd one

    go : (tracker : Tracker) (def : Def) → def_of table s ≡ def → (vs : Vals) → IsFullAs def tracker (count_vals vs)
        → IsSoundAs table s tracker → ChildrenFit table s tracker 0 vs → fits table s (value_as tracker vs) ≡ true
    go (as_fields None) (Def.Struct struct) is vs count behind fit =
        rw (settled_as table s is refl)
        (fields_all_fit table s (as_fields None) struct.fields (struct_shapes table s struct is) 0 struct.fields vs
        (all_from struct.fields) count fit)
    go as_elements (Def.Array t n) is vs count behind fit =
        rw (
          settled_as table s is refl,
          eq-eqb (count_vals vs) n count,
          each_fits table s as_elements t.0 (λ i. rw is refl) 0 vs fit,
        ) refl
    go (as_items ItemsKind.List) (Def.List t) is vs count behind fit =
        rw (settled_as table s is refl) (each_fits table s (as_items ItemsKind.List) t.0 (λ i. rw is refl) 0 vs fit)
    go (as_items ItemsKind.Slice) (Def.Pointer pointer) is vs count behind fit =
        rw (settled_as table s is refl)
        (pointed_slice table s pointer vs is behind (λ shape to. each_fits table s (as_items ItemsKind.Slice) shape (λ i. to _ refl) 0 vs fit))
    go (as_items ItemsKind.ClosedSlice) (Def.Pointer pointer) is vs count behind fit =
        rw (settled_as table s is refl) (pointed_slice table s pointer vs is behind
        (λ shape to. each_fits table s (as_items ItemsKind.ClosedSlice) shape (λ i. to _ refl) 0 vs fit))
    go (as_items ItemsKind.Set) (Def.Set t) is vs count behind fit =
        rw (
          settled_as table s is refl,
          items_fit table t.0 no_vals vs refl (each_fits table s (as_items ItemsKind.Set) t.0 (λ i. rw is refl) 0 vs fit),
          items_apart no_vals vs refl,
        ) refl
    go (as_entries (EntriesKind.Map base)) (Def.Map key item) is vs count behind fit =
        rw (
          settled_as table s is refl,
          turns_fit table s key item is base 0 refl no_entries vs refl fit,
          entries_apart no_entries vs refl,
        ) refl
    go (as_items ItemsKind.Array) Def.Dynamic is vs count behind fit =
        rw (settled_as table s is refl)
        (elements_once table s vs (settled_as table s is refl) (each_fits table s (as_items ItemsKind.Array) s (λ i. refl) 0 vs fit))
    go (as_entries (EntriesKind.Object keys)) Def.Dynamic is vs count behind fit =
        rw (settled_as table s is refl) (members_once table s keys vs (settled_as table s is refl) behind
        (each_fits table s (as_entries (EntriesKind.Object keys)) s (λ i. refl) 0 vs fit))
    go (as_fields (Some k)) (Def.Enum enumeration) is vs count behind fit =
        rw (settled_as table s is refl) (of_variant k enumeration (slice_get enumeration.variants k) is refl vs count fit)
    go (as_content ContentKind.Some) (Def.Option t) is (first v no_vals) count behind fit = rw (settled_as table s is refl) (rw is at fit.0)
    go (as_content ContentKind.Some) (Def.Option t) is _ count behind fit = absurd (omega arith)
    go (as_content ContentKind.Ok) (Def.Result t e) is (first v no_vals) count behind fit = rw (settled_as table s is refl) (rw is at fit.0)
    go (as_content ContentKind.Ok) (Def.Result t e) is _ count behind fit = absurd (omega arith)
    go (as_content ContentKind.Err) (Def.Result t e) is (first v no_vals) count behind fit = rw (settled_as table s is refl) (rw is at fit.0)
    go (as_content ContentKind.Err) (Def.Result t e) is _ count behind fit = absurd (omega arith)
    go (as_content ContentKind.Pointer) (Def.Pointer pointer) is (first v vs) count behind fit =
        rw (settled_as table s is refl) (pointed pointer pointer.pointee is refl v (rw is at fit.0) (suc (count_vals vs)) count)
    go (as_content ContentKind.Pointer) (Def.Pointer pointer) is no_vals count behind fit = absurd (omega (arith, points_once pointer.pointee 0 count))
    go (as_content (ContentKind.Source conversion)) def is (first v no_vals) count behind fit = fit.0
    go (as_content (ContentKind.Source conversion)) def is _ count behind fit = absurd (omega arith)
    go _ _ is vs count behind fit = absurd count

-- and it holds what they hold, but for what is left out
pub value_holds : (table : Table) (s : ℕ) (tracker : Tracker) (vs : Vals) → IsFullAs (def_of table s) tracker (count_vals vs)
    → ChildrenFit table s tracker 0 vs → (t : ℕ) → occurs (value_as tracker vs) t + left_out tracker vs t ≡ vals_occur vs t
value_holds table s tracker vs count fit t = go tracker _ refl count fit
  where
    go : (tracker : Tracker) (def : Def) → def_of table s ≡ def → IsFullAs def tracker (count_vals vs) → ChildrenFit table s tracker 0 vs
        → occurs (value_as tracker vs) t + left_out tracker vs t ≡ vals_occur vs t
    go (as_content ContentKind.Some) def is count fit = omega (arith, one_holds vs t (content_once def ContentKind.Some (count_vals vs) count))
    go (as_content ContentKind.Ok) def is count fit = omega (arith, one_holds vs t (content_once def ContentKind.Ok (count_vals vs) count))
    go (as_content ContentKind.Err) def is count fit = omega (arith, one_holds vs t (content_once def ContentKind.Err (count_vals vs) count))
    go (as_content ContentKind.Pointer) def is count fit = omega (arith, one_holds vs t (content_once def ContentKind.Pointer (count_vals vs) count))
    go (as_content (ContentKind.Source conversion)) def is count fit = omega (arith, one_holds vs t count)
    go (as_items ItemsKind.Set) def is count fit = let all = items_hold no_vals vs t in omega arith
    go (as_entries (EntriesKind.Map base)) def is count fit = let all = entries_hold no_entries vs t in omega arith
    go (as_items ItemsKind.Array) Def.Dynamic is count fit =
        let none = dynamics_hold table s vs t (settled_as table s is refl)
        (each_fits table s (as_items ItemsKind.Array) s (λ i. refl) 0 vs fit) in
        omega arith
    go (as_entries (EntriesKind.Object keys)) Def.Dynamic is count fit =
        let none = dynamics_hold table s vs t (settled_as table s is refl)
        (each_fits table s (as_entries (EntriesKind.Object keys)) s (λ i. refl) 0 vs fit) in
        omega arith
    go (as_items ItemsKind.Array) _ is count fit = absurd count
    go (as_entries (EntriesKind.Object keys)) _ is count fit = absurd count
    go (as_items _) def is count fit = omega arith
    go (as_fields None) def is count fit = omega arith
    go (as_fields (Some k)) def is count fit = omega arith
    go as_elements def is count fit = omega arith

-- the trees suit the shapes of the children from number i on, of a place of shape s that is begun so
abbrev pub SuitFrom : Table → ℕ → Tracker → ℕ → Trees → Type 0
SuitFrom table s tracker i ts = SuitAll table (shapes_from table s tracker (count_trees ts) i) ts

-- and as well those of the children of one that is begun otherwise, if these are the same
pub suit_alike : (table : Table) (s : ℕ) (one other : Tracker) → ((i : ℕ) → child_as table s one i ≡ child_as table s other i) → (i : ℕ)
    (ts : Trees) → SuitFrom table s one i ts → SuitFrom table s other i ts
suit_alike table s one other same i no_trees suit = tt
suit_alike table s one other same i (branch t ts) suit =
    (subst (λ (shape : ℕ). Suits table shape t) (same i) suit.0, suit_alike table s one other same (suc i) ts suit.1)

-- what is opened

pub count_change : (i : ℕ) (change : Tree → Tree) (ts : Trees) → count_trees (change_nth i change ts) ≡ count_trees ts
count_change i change no_trees = refl
count_change zero change (branch t ts) = refl
count_change (suc i) change (branch t ts) = ap suc (count_change i change ts)

pub count_holes : (n : ℕ) → count_trees (holes n) ≡ n
count_holes zero = refl
count_holes (suc n) = ap suc (count_holes n)

pub holes_suit : (table : Table) (s : ℕ) (tracker : Tracker) (i n : ℕ) → SuitFrom table s tracker i (holes n)
holes_suit table s tracker i zero = tt
holes_suit table s tracker i (suc n) = (tt, holes_suit table s tracker (suc i) n)

pub record WholesSuit (table : Table) (s i : ℕ) (fields : List Field) (vs : Vals) : Type 0 where
  pub count : count_trees (wholes vs) ≡ length fields
  pub suit : SuitFrom table s (as_fields None) i (wholes vs)

pub wholes_suit : (table : Table) (s : ℕ) (struct : StructDef) → def_of table s ≡ Def.Struct struct
    → (i : ℕ) (fields : List Field) (vs : Vals) → AreFrom struct.fields i fields → fields_fit table fields vs ≡ true
    → WholesSuit table s i fields vs
wholes_suit table s struct is i [] no_vals from fit = record { count = refl; suit = tt }
wholes_suit table s struct is i [] (first v vs) from fit = cc
wholes_suit table s struct is i (field ∷ fields) no_vals from fit = cc
wholes_suit table s struct is i (field ∷ fields) (first v vs) from fit =
    let both = both_true _ _ fit in
    let rest = wholes_suit table s struct is (suc i) fields vs (next_are struct.fields i field fields from) both.1 in
    let shape = struct_shapes table s struct is i field (first_is struct.fields i field fields from) in
    record { count = ap suc rest.count; suit = (rw shape both.0, rest.suit) }

-- one child, and all of them with one changed

pub suit_change : (table : Table) (s : ℕ) (tracker : Tracker) (d k : ℕ) (ts : Trees) (i : ℕ) (change : Tree → Tree)
    → i ≡ k + d → SuitFrom table s tracker k ts
    → (Suits table (child_as table s tracker i) (tree_nth d ts) → Suits table (child_as table s tracker i) (change (tree_nth d ts)))
    → SuitFrom table s tracker k (change_nth d change ts)
suit_change table s tracker d k no_trees i change e suits step = tt
suit_change table s tracker zero k (branch t ts) i change e suits step =
    let here : i ≡ k = omega arith in (
      subst (λ (m : ℕ). Suits table (child_as table s tracker m) (change t)) here
          (step (subst (λ (m : ℕ). Suits table (child_as table s tracker m) t) (sym here) suits.0)),
      suits.1,
    )
suit_change table s tracker (suc d) k (branch t ts) i change e suits step =
    (suits.0, suit_change table s tracker d (suc k) ts i change (omega arith) suits.1 step)

pub suit_nth : (table : Table) (s : ℕ) (tracker : Tracker) (d k : ℕ) (ts : Trees) (i : ℕ) → i ≡ k + d
    → SuitFrom table s tracker k ts → Suits table (child_as table s tracker i) (tree_nth d ts)
suit_nth table s tracker d k no_trees i e suits = tt
suit_nth table s tracker zero k (branch t ts) i e suits =
    let here : i ≡ k = omega arith in subst (λ (m : ℕ). Suits table (child_as table s tracker m) t) (sym here) suits.0
suit_nth table s tracker (suc d) k (branch t ts) i e suits = suit_nth table s tracker d (suc k) ts i (omega arith) suits.1

pub right_kept : (table : Table) (s : ℕ) (tracker : Tracker) (ts us : Trees) → (IsContent ts → IsContent us)
    → (AreTouched ts → AreTouched us) → (AreEntries ts → AreEntries us) → IsBegunRightly table s tracker ts → IsBegunRightly table s tracker us
right_kept table s (as_fields None) ts us keeps all pairs rightly = tt
right_kept table s as_elements ts us keeps all pairs rightly = tt
right_kept table s (as_fields (Some k)) ts us keeps all pairs rightly = rightly
right_kept table s (as_content ContentKind.Pointer) ts us keeps all pairs rightly = (keeps rightly.0, rightly.1)
right_kept table s (as_content (ContentKind.Source conversion)) ts us keeps all pairs rightly = (keeps rightly.0, rightly.1)
right_kept table s (as_items ItemsKind.List) ts us keeps all pairs rightly = all rightly
right_kept table s (as_items ItemsKind.Set) ts us keeps all pairs rightly = all rightly
right_kept table s (as_entries (EntriesKind.Map base)) ts us keeps all pairs rightly = pairs rightly
right_kept table s (as_items ItemsKind.Array) ts us keeps all pairs rightly = all rightly
right_kept table s (as_entries (EntriesKind.Object keys)) ts us keeps all pairs rightly = (all rightly.0, rightly.1)
right_kept table s (as_items ItemsKind.Slice) ts us keeps all pairs rightly = (all rightly.0, rightly.1)
right_kept table s (as_items ItemsKind.ClosedSlice) ts us keeps all pairs rightly = (all rightly.0, rightly.1)
right_kept table s _ ts us keeps all pairs rightly = keeps rightly
