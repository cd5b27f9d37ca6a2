-- The states that a builder can be in.
use Rattle.std.specs.Prelude.{◌≡◌, ◌+◌, ◌<◌, ◌≤◌, ◌∷◌}
use Rattle.fr_model.specs.Common.{ℕ, zero, suc, Bool, true, false, List, [], length, slice_get, Option, Some, None, Contains, Def, Field, ShapeId, VariantDef, Table, IsIn, def_of, fits, is_empty_struct, none_twice, keys, Vals, Entries, no_vals, first}
use Rattle.fr_model.specs.Collections.{without_nth}
use Rattle.fr_model.specs.Contents.{pointer_refusal, points_to_slice}
use Rattle.fr_model.specs.Conversions.{conversions_at}
use Rattle.fr_model.specs.Dynamics.{keys_apart}
use Rattle.fr_model.specs.Places.{Place, array_limit, is_key, in_turn, count_entries}
use Rattle.fr_model.specs.Trackers.{Tracker, as_fields, as_elements, as_content, ContentKind, as_items, ItemsKind, as_entries, EntriesKind, is_conversion}
use Rattle.fr_model.specs.Tree.{Tree, hole, entered, whole, begun, Trees, no_trees, branch, child_as, field_as, shapes_as, count_trees, wholes, tree_occurs, Mode, strict, deferred, State}
use Rattle.fr_model.specs.Variants.{selection_refusal}

-- Each word says of a definition that a place of it has so many children, begun in one way.

abbrev pub HasFieldsOf : Option VariantDef → ℕ → Type 0
HasFieldsOf (Some variant) count = count ≡ length variant.fields
HasFieldsOf None count = ⊥

abbrev pub HasFields : Def → (selected : Option ℕ) → ℕ → Type 0
HasFields (Def.Struct struct) None count = count ≡ length struct.fields
HasFields (Def.Enum enumeration) (Some k) count = HasFieldsOf (slice_get enumeration.variants k) count
HasFields _ selected count = ⊥

abbrev pub HasElements : Def → ℕ → Type 0
HasElements (Def.Array item n) count = count ≡ n
HasElements _ count = ⊥

abbrev pub PointsTo : Option ShapeId → ℕ → Type 0
PointsTo (Some pointee) count = count ≡ 1
PointsTo None count = ⊥

abbrev pub HasContent : Def → ContentKind → ℕ → Type 0
HasContent def (ContentKind.Source conversion) count = count ≡ 1
HasContent (Def.Option t) ContentKind.Some count = count ≡ 1
HasContent (Def.Result t e) ContentKind.Ok count = count ≡ 1
HasContent (Def.Result t e) ContentKind.Err count = count ≡ 1
HasContent (Def.Pointer pointer) ContentKind.Pointer count = PointsTo pointer.pointee count
HasContent _ kind count = ⊥

abbrev pub TakesItemsAs : Def → ItemsKind → Type 0
TakesItemsAs (Def.List t) ItemsKind.List = Unit {0}
TakesItemsAs (Def.Pointer pointer) ItemsKind.Slice = Unit {0}
TakesItemsAs (Def.Pointer pointer) ItemsKind.ClosedSlice = Unit {0}
TakesItemsAs (Def.Set t) ItemsKind.Set = Unit {0}
TakesItemsAs Def.Dynamic ItemsKind.Array = Unit {0}
TakesItemsAs _ kind = ⊥

-- a map has a key and a value for each entry, a dynamic object one child for each key
abbrev pub HasEntries : Def → EntriesKind → ℕ → Type 0
HasEntries (Def.Map key item) (EntriesKind.Map base) count = is_key count ≡ true
HasEntries Def.Dynamic (EntriesKind.Object keys) count = count ≡ length keys
HasEntries _ kind count = ⊥

-- a place of this definition has all its children, begun so: a struct or a variant one for each field, an array one for each
-- element, an option, a result or a pointer one, a conversion one whatever it converts to, a map two for each entry, a dynamic object one for each key; a list, a set, a pointer to
-- a slice and a dynamic array as many as there are
abbrev pub IsFullAs : Def → Tracker → ℕ → Type 0
IsFullAs def (as_fields selected) count = HasFields def selected count
IsFullAs def as_elements count = HasElements def count
IsFullAs def (as_content kind) count = HasContent def kind count
IsFullAs def (as_items kind) count = TakesItemsAs def kind
IsFullAs def (as_entries kind) count = HasEntries def kind count

-- a struct is begun only with at least one child, an array only with no more than the limit
abbrev pub MayBegin : Tracker → ℕ → Type 0
MayBegin (as_fields None) count = 0 < count
MayBegin as_elements count = count ≤ array_limit
MayBegin (as_fields (Some k)) count = Unit {0}
MayBegin (as_content kind) count = Unit {0}
MayBegin (as_items kind) count = Unit {0}
MayBegin (as_entries kind) count = Unit {0}

-- a place of this definition may be begun so, with that many children: all that it has, if it may be begun with them
abbrev pub IsBegunAs : Def → Tracker → ℕ → Type 0
IsBegunAs def tracker count = IsFullAs def tracker count × MayBegin tracker count

-- what stands there is no hole
abbrev pub IsTouched : Tree → Type 0
IsTouched hole = ⊥
IsTouched _ = Unit {0}

-- the one child is there: a hole stands only as a field or an element
abbrev pub IsContent : Trees → Type 0
IsContent no_trees = ⊥
IsContent (branch t ts) = IsTouched t

-- every child is there: no item is a hole
abbrev pub AreTouched : Trees → Type 0
AreTouched no_trees = Unit {0}
AreTouched (branch t ts) = IsTouched t × AreTouched ts

-- every key is there, and every value, but perhaps that of the last entry
abbrev pub AreEntries : Trees → Type 0
AreEntries no_trees = Unit {0}
AreEntries (branch key no_trees) = ⊥
AreEntries (branch key (branch value no_trees)) = IsTouched key
AreEntries (branch key (branch value (branch next rest))) = IsTouched key × IsTouched value × AreEntries (branch next rest)

-- a pointer of shape s may be begun, and what it points to is a slice, or isn't one
abbrev pub MayPoint : Table → ℕ → (to_slice : Bool) → Type 0
MayPoint table s to_slice = (pointer_refusal table (def_of table s) ≡ None) × (points_to_slice table (def_of table s) ≡ to_slice)

-- A place of shape s is rightly begun so: a variant only where it may be selected, a pointer only where it may be begun, and an
-- option, a result or a pointer with its content; a conversion with its source, and to a shape of the table. What a list, a slice, a set or a dynamic value has is there, and so is what a map has
-- but perhaps its last value. An object has no key twice.
abbrev pub IsBegunRightly : Table → ℕ → Tracker → Trees → Type 0
IsBegunRightly table s (as_fields None) children = Unit {0}
IsBegunRightly table s as_elements children = Unit {0}
IsBegunRightly table s (as_fields (Some k)) children = selection_refusal (def_of table s) k ≡ None
IsBegunRightly table s (as_content ContentKind.Some) children = IsContent children
IsBegunRightly table s (as_content ContentKind.Ok) children = IsContent children
IsBegunRightly table s (as_content ContentKind.Err) children = IsContent children
IsBegunRightly table s (as_content ContentKind.Pointer) children = IsContent children × MayPoint table s false
IsBegunRightly table s (as_content (ContentKind.Source conversion)) children = IsContent children × IsIn table s
IsBegunRightly table s (as_items ItemsKind.List) children = AreTouched children
IsBegunRightly table s (as_items ItemsKind.Slice) children = AreTouched children × MayPoint table s true
IsBegunRightly table s (as_items ItemsKind.ClosedSlice) children = AreTouched children × MayPoint table s true
IsBegunRightly table s (as_items ItemsKind.Set) children = AreTouched children
IsBegunRightly table s (as_entries (EntriesKind.Map base)) children = AreEntries children
IsBegunRightly table s (as_items ItemsKind.Array) children = AreTouched children
IsBegunRightly table s (as_entries (EntriesKind.Object keys)) children = AreTouched children × (keys_apart keys ≡ true)

-- Each node suits its shape: what is whole fits it, and what is begun is so rightly and has one child for each field or element, the
-- one that it holds, or its items, each of which suits the shape of that. What is entered isn't a struct without fields, which is
-- whole as soon as it is entered.
abbrev mutual
  pub Suits : Table → ℕ → Tree → Type 0
  Suits table s hole = Unit {0}
  Suits table s entered = is_empty_struct (def_of table s) ≡ false
  Suits table s (whole v) = fits table s v ≡ true
  Suits table s (begun tracker ts) =
      IsBegunAs (def_of table s) tracker (count_trees ts) × SuitAll table (shapes_as table s tracker (count_trees ts)) ts
      × IsBegunRightly table s tracker ts

  -- trees suit shapes, one each
  pub SuitAll : Table → List ℕ → Trees → Type 0
  SuitAll table [] no_trees = Unit {0}
  SuitAll table [] (branch t ts) = ⊥
  SuitAll table (s ∷ shapes) no_trees = ⊥
  SuitAll table (s ∷ shapes) (branch t ts) = Suits table s t × SuitAll table shapes ts

-- in strict mode a place off the way to the cursor is whole or a hole; in deferred mode it may be half done
abbrev pub IsOff : Mode → Tree → Type 0
IsOff (deferred start) t = Unit {0}
IsOff strict hole = Unit {0}
IsOff strict (whole v) = Unit {0}
IsOff strict entered = ⊥
IsOff strict (begun tracker ts) = ⊥

abbrev pub AllOff : Mode → Trees → Type 0
AllOff mode no_trees = Unit {0}
AllOff mode (branch t ts) = IsOff mode t × AllOff mode ts

-- in strict mode the builder doesn't work at a conversion: this becomes whole as its source ends
abbrev pub MayWorkAt : Mode → Tracker → Type 0
MayWorkAt (deferred start) tracker = Unit {0}
MayWorkAt strict tracker = is_conversion tracker ≡ false

-- at the cursor stands no hole, in strict mode no conversion, and of what is begun there each child lies off the way
abbrev pub AtCursor : Mode → Tree → Type 0
AtCursor mode hole = ⊥
AtCursor mode entered = Unit {0}
AtCursor mode (whole v) = Unit {0}
AtCursor mode (begun tracker ts) = MayWorkAt mode tracker × AllOff mode ts

-- the children of a place but one lie off the way, and of that one something holds
abbrev pub OffBut : Mode → ℕ → (Tree → Type 0) → Trees → Type 0
OffBut mode i Below no_trees = ⊥
OffBut mode zero Below (branch t ts) = Below t × AllOff mode ts
OffBut mode (suc i) Below (branch t ts) = IsOff mode t × OffBut mode i Below ts

-- The cursor leads to a place that is no hole, and every place above it is begun; in strict mode that place is no conversion, and every
-- other place is whole or a hole.
abbrev pub Leads : Mode → Place → Tree → Type 0
Leads mode [] t = AtCursor mode t
Leads mode (i ∷ place) (begun tracker ts) = OffBut mode i (λ child. Leads mode place child) ts
Leads mode (i ∷ place) _ = ⊥

-- deferred mode began no deeper than the cursor lies
abbrev pub BeganAbove : Mode → Place → Type 0
BeganAbove strict cursor = Unit {0}
BeganAbove (deferred start) cursor = start ≤ length cursor

-- What a state is, whatever tokens it holds: each node suits its shape, of a root of shape `root`, the cursor leads to a place,
-- and deferred mode began at it or above it.
pub record IsInOrder (table : Table) (root : ℕ) (state : State) : Type 0 where
  pub suits : Suits table root state.tree
  pub leads : Leads state.mode state.cursor state.tree
  pub began : BeganAbove state.mode state.cursor

-- What the builder has left rests: no pointer to a slice is open in it, for the end of such a place closes it first; the items of a
-- set, the entries that a map had when it was begun, and the parts of a dynamic value are whole in it, for those entries were so from
-- the start and each item and each part is completed as it ends; and no two of the items or of the keys of those entries are `same`.

abbrev pub IsShut : Tracker → Type 0
IsShut (as_items ItemsKind.Slice) = ⊥
IsShut _ = Unit {0}

-- the trees are whole
pub record AreValues (ts : Trees) : Type 0 where
  pub values : Vals
  pub are : ts ≡ wholes values

-- the trees are whole, and no two of their values are `same`
pub record AreItems (ts : Trees) : Type 0 where
  pub values : Vals
  pub are : ts ≡ wholes values
  pub once : none_twice values ≡ true

-- the values, each of them whole, in front of the trees
abbrev pub in_front : Vals → Trees → Trees
in_front no_vals rest = rest
in_front (first v vs) rest = branch (whole v) (in_front vs rest)

-- the trees begin with so many entries, a key and a value in turn, that are whole, and no two of their keys are `same`
pub record IsBase (base : ℕ) (ts : Trees) : Type 0 where
  pub entries : Entries
  pub rest : Trees
  pub count : count_entries entries ≡ base
  pub are : ts ≡ in_front (in_turn entries) rest
  pub once : none_twice (keys entries) ≡ true

-- Of a place that is begun so, these children are done with: those of a set are whole, and no two of them are `same`; those of a dynamic
-- value are whole; and those of a map begin with its base. Of any other place nothing is asked.
abbrev pub AreDone : Tracker → Trees → Type 0
AreDone (as_items ItemsKind.Set) ts = AreItems ts
AreDone (as_items ItemsKind.Array) ts = AreValues ts
AreDone (as_entries (EntriesKind.Object keys)) ts = AreValues ts
AreDone (as_entries (EntriesKind.Map base)) ts = IsBase base ts
AreDone (as_fields selected) ts = Unit {0}
AreDone as_elements ts = Unit {0}
AreDone (as_content kind) ts = Unit {0}
AreDone (as_items ItemsKind.List) ts = Unit {0}
AreDone (as_items ItemsKind.Slice) ts = Unit {0}
AreDone (as_items ItemsKind.ClosedSlice) ts = Unit {0}

abbrev mutual
  pub Rests : Tree → Type 0
  Rests (begun tracker ts) = IsShut tracker × AreDone tracker ts × AllRest ts
  Rests _ = Unit {0}

  pub AllRest : Trees → Type 0
  AllRest no_trees = Unit {0}
  AllRest (branch t ts) = Rests t × AllRest ts

-- the children of a place but one rest, and of that one something holds
abbrev pub RestBut : ℕ → (Tree → Type 0) → Trees → Type 0
RestBut i Below no_trees = Unit {0}
RestBut zero Below (branch t ts) = Below t × AllRest ts
RestBut (suc i) Below (branch t ts) = Rests t × RestBut i Below ts

-- this child is no part of a map's base: it comes behind the keys and values of so many entries
abbrev pub IsBehindBase : Tracker → ℕ → Type 0
IsBehindBase (as_entries (EntriesKind.Map base)) i = base + base ≤ i
IsBehindBase (as_fields selected) i = Unit {0}
IsBehindBase as_elements i = Unit {0}
IsBehindBase (as_content kind) i = Unit {0}
IsBehindBase (as_items kind) i = Unit {0}
IsBehindBase (as_entries (EntriesKind.Object keys)) i = Unit {0}

-- Every place rests that is neither the cursor's nor above it, so that only such a pointer to a slice may be open, and only such an
-- item of a set, or part of a dynamic value, may be half done. The way to the cursor leads through no part of a map's base.
abbrev pub RestsAround : (cursor : Place) → Tree → Type 0
RestsAround cursor hole = Unit {0}
RestsAround [] (begun tracker ts) = AreDone tracker ts × AllRest ts
RestsAround (i ∷ place) (begun tracker ts) =
    AreDone tracker (without_nth i ts) × RestBut i (λ child. RestsAround place child) ts × IsBehindBase tracker i
RestsAround cursor _ = Unit {0}

-- a place of shape s, which is this field, if it is one, may be begun so: a conversion has the hook and the source of its shape as a
-- wrapper, or of a proxy of its shape or of the field
abbrev pub ConversionSuits : Table → ℕ → Option Field → Tracker → Type 0
ConversionSuits table s field (as_content (ContentKind.Source conversion)) = Contains (conversions_at table s field) conversion
ConversionSuits table s field (as_content ContentKind.Some) = Unit {0}
ConversionSuits table s field (as_content ContentKind.Ok) = Unit {0}
ConversionSuits table s field (as_content ContentKind.Err) = Unit {0}
ConversionSuits table s field (as_content ContentKind.Pointer) = Unit {0}
ConversionSuits table s field (as_fields selected) = Unit {0}
ConversionSuits table s field as_elements = Unit {0}
ConversionSuits table s field (as_items kind) = Unit {0}
ConversionSuits table s field (as_entries kind) = Unit {0}

-- in the tree of such a place each conversion suits its place so
abbrev mutual
  pub ConversionsSuit : Table → ℕ → Option Field → Tree → Type 0
  ConversionsSuit table s field (begun tracker ts) = ConversionSuits table s field tracker × AllConversionsSuit table s tracker 0 ts
  ConversionsSuit table s field _ = Unit {0}

  -- the children from number i on, of a place of shape s that is begun so
  pub AllConversionsSuit : Table → ℕ → Tracker → ℕ → Trees → Type 0
  AllConversionsSuit table s tracker i no_trees = Unit {0}
  AllConversionsSuit table s tracker i (branch t ts) =
      ConversionsSuit table (child_as table s tracker i) (field_as (def_of table s) tracker i) t × AllConversionsSuit table s tracker (suc i) ts

-- no token stands twice in a tree
abbrev pub AreDistinct : Tree → Type 0
AreDistinct tree = (t : ℕ) → tree_occurs tree t ≤ 1

-- a well state is in order, rests around the cursor, has only conversions that suit their places, and holds no token twice
pub record IsWell (table : Table) (root : ℕ) (state : State) : Type 0 where
  pub in_order : IsInOrder table root state
  pub rests : RestsAround state.cursor state.tree
  pub conversions : ConversionsSuit table root None state.tree
  pub distinct : AreDistinct state.tree
