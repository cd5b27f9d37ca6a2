-- Each shape on the way is one that the root reaches, and so has no proxy or conversion and isn't dynamic.
use Rattle.std.proofs.Common.{◌≡◌, ◌<◌, ◌∷◌, ◌&&◌, if◌then◌else◌}
use Rattle.fr_model.proofs.Common.{ℕ, zero, suc, Bool, true, false, List, [], map, length, Option, Some, None, is_none, refl, sym, ◌∙◌, ap, subst, arith, flat_map, list_all, Contains, Contains-append_left, Contains-append_right, Def, EnumDef, VariantDef, Field, Shape, ShapeId, is_dynamic, is_nil, slice_get, Table, def_of, def_or_other, field_in, fields_of, Reached, at_root, further, children_of, own_sources, is_key, is_slice, points_to_slice, pointee_shape, shape_of_field, Tracker, as_fields, as_elements, as_content, as_items, as_entries, ContentKind, ItemsKind, EntriesKind, child_as, convert_in, child_count, Tree, hole, entered, whole, begun, HasFieldsOf, HasFields, HasContent, HasEntries, TakesItemsAs, IsFullAs, PointsTo, MayPoint, item_shape, shape_or_zero, Place, field_along, field_as, field_below, shape_below, child_tree}
use Rattle.fr_model.proofs.Plain.{reached_on, child_reached}
use Rattle.fr_model.proofs.Templates.{both_true, is_not}
use Rattle.fr_laws.proofs.PassageTrees.{IsRightAs, Way}
use Rattle.fr_laws.proofs.PassageCommands.{pointer_is}
use Rattle.fr_laws.proofs.PassageItems.{unproxied}
use Rattle.fr_model.specs.Conversions.{field_has_proxies, proxy_of_shape}
use Rattle.fr_laws.specs.Passage.{IsDirect, is_unproxied_field}
use Rattle.fr_shape.specs.Checked.{proxies_of}
use Rattle.fr_shape.specs.declared.shape.HookId.{HookId}
use Rattle.fr_shape.specs.declared.shape.PointerDef.{PointerDef}

-- what a direct shape is

pub record IsDirectHere (table : Table) (s : ℕ) : Type 0 where
  pub static : is_dynamic (def_of table s) ≡ false
  pub unconverted : convert_in (slice_get table s) ≡ None
  pub unproxied : (format : Option (List ℕ)) → proxy_of_shape format (slice_get table s) ≡ None
  pub fields : list_all is_unproxied_field (fields_of (def_of table s)) ≡ true

no_hook : (convert : Option HookId) → is_none convert ≡ true → convert ≡ None
no_hook None e = refl
no_hook (Some hook) e = cc

pub direct_here : (table : Table) (s : ℕ) → IsDirect table s → IsDirectHere table s
direct_here table s direct = go (slice_get table s) refl
  where
    go : (found : Option Shape) → slice_get table s ≡ found → IsDirectHere table s
    go (Some shape) is =
        let nil = is_nil (proxies_of shape.proxy shape.format_proxies) in
        let bare = is_none shape.convert in
        let all = both_true _ (list_all is_unproxied_field (fields_of shape.def)) (direct s shape at_root is) in
        let three = both_true (nil && bare) _ all.0 in
        let two = both_true nil bare three.0 in
        record {
          static = rw is (is_not _ three.1);
          unconverted = rw is (no_hook shape.convert two.1);
          unproxied = λ format. rw is (unproxied format shape.proxy shape.format_proxies two.0);
          fields = rw is all.1;
        }
    go None is = record { static = rw is refl; unconverted = rw is refl; unproxied = λ format. rw is refl; fields = rw is refl }

-- fields

among_fields : (fields : List Field) (i : ℕ) (field : Field) → slice_get fields i ≡ Some field → Contains fields field
among_fields [] i field is = cc
among_fields (one ∷ fields) zero field is = let same : one ≡ field = cc in (zero, omega arith, same)
among_fields (one ∷ fields) (suc i) field is =
    let rest : Contains fields field = among_fields fields i field is in (suc rest.0, omega (arith, rest.1), rest.2)

among_all : (variants : List VariantDef) (k : ℕ) (variant : VariantDef) (field : Field) → slice_get variants k ≡ Some variant
    → Contains variant.fields field → Contains (flat_map (λ (one : VariantDef). one.fields) variants) field
among_all [] k variant field is h = cc
among_all (one ∷ variants) zero variant field is h =
    let same : one ≡ variant = cc in
    Contains-append_left one.fields (flat_map (λ (other : VariantDef). other.fields) variants) field
    (subst (λ (known : VariantDef). Contains known.fields field) (sym same) h)
among_all (one ∷ variants) (suc k) variant field is h =
    Contains-append_right one.fields (flat_map (λ (other : VariantDef). other.fields) variants) field (among_all variants k variant field is h)

field_passes : (fields : List Field) (field : Field) → list_all is_unproxied_field fields ≡ true → Contains fields field
    → is_unproxied_field field ≡ true
field_passes [] field all h = let under = h.1 in absurd (omega (arith, under))
field_passes (one ∷ fields) field all (zero, below, is) =
    ap is_unproxied_field (sym is) ∙ (both_true (is_unproxied_field one) (list_all is_unproxied_field fields) all).0
field_passes (one ∷ fields) field all (suc k, below, is) =
    field_passes fields field (both_true (is_unproxied_field one) (list_all is_unproxied_field fields) all).1 (k, omega (arith, below), is)

-- a field that is declared is among all
declared_among : (def : Def) (chosen : Option ℕ) (i : ℕ) (field : Field) → field_in def chosen i ≡ Some field → Contains (fields_of def) field
declared_among (Def.Struct struct) None i field is = among_fields struct.fields i field is
declared_among (Def.Struct struct) (Some k) i field is = cc
declared_among (Def.Enum enumeration) None i field is = cc
declared_among (Def.Enum enumeration) (Some k) i field is = go (slice_get enumeration.variants k) refl is
  where
    go : (found : Option VariantDef) → slice_get enumeration.variants k ≡ found → field_in (Def.Enum enumeration) (Some k) i ≡ Some field
        → Contains (fields_of (Def.Enum enumeration)) field
    go (Some variant) found is =
        among_all enumeration.variants k variant field found (among_fields variant.fields i field (rw found at is))
    go None found is = let none = rw found at is in cc
declared_among _ chosen i field is = cc

pub field_unproxied : (table : Table) (s : ℕ) (chosen : Option ℕ) (i : ℕ) → IsDirectHere table s
    → field_has_proxies (field_in (def_of table s) chosen i) ≡ false
field_unproxied table s chosen i direct = go (field_in (def_of table s) chosen i) refl
  where
    go : (found : Option Field) → field_in (def_of table s) chosen i ≡ found → field_has_proxies found ≡ false
    go None is = refl
    go (Some field) is =
        let passes = field_passes (fields_of (def_of table s)) field direct.fields (declared_among (def_of table s) chosen i field is) in
        rw passes refl

-- and so is the field at the end of a way
pub way_unproxied : (table : Table) (s : ℕ) (field : Option Field) (here : Place) (t : Tree) → Way table (IsDirect table) s here t
    → field_has_proxies field ≡ false → field_has_proxies (field_along table s field here t) ≡ false
way_unproxied table s field [] t way none = none
way_unproxied table s field (i ∷ here) t way none =
    way_unproxied table (shape_below table s i t) (field_below (def_of table s) i t) here (child_tree i t) way.2 (below t)
  where
    as_begun : (tracker : Tracker) → field_has_proxies (field_as (def_of table s) tracker i) ≡ false
    as_begun (as_fields chosen) = field_unproxied table s chosen i (direct_here table s way.0)
    as_begun as_elements = refl
    as_begun (as_content kind) = refl
    as_begun (as_items kind) = refl
    as_begun (as_entries kind) = refl

    below : (t : Tree) → field_has_proxies (field_below (def_of table s) i t) ≡ false
    below (begun tracker ts) = as_begun tracker
    below hole = refl
    below entered = refl
    below (whole v) = refl

-- children

shape_among : (fields : List Field) (field : Field) → Contains fields field → Contains (map (λ (one : Field). one.shape) fields) field.shape
shape_among [] field h = let under = h.1 in absurd (omega (arith, under))
shape_among (one ∷ fields) field (zero, below, is) = (zero, omega arith, ap (λ (known : Field). known.shape) is)
shape_among (one ∷ fields) field (suc k, below, is) =
    let rest : Contains (map (λ (known : Field). known.shape) fields) field.shape = shape_among fields field (k, omega (arith, below), is) in
    (suc rest.0, omega (arith, rest.1), rest.2)

module _ (table : Table) where
  -- what is among the children of a shape of this definition is reached
  reached_by : (s : ℕ) (def : Def) (next : ShapeId) → def_of table s ≡ def → (is_other : def ≡ Def.Other → ⊥)
      → ((shape : Shape) → shape.def ≡ def → Contains (children_of shape) next) → Reached table s next.0
  reached_by s def next is not_other among = go (slice_get table s) refl
    where
      go : (found : Option Shape) → slice_get table s ≡ found → Reached table s next.0
      go (Some shape) at =
          further at_root at (Contains-append_left _ _ next (Contains-append_right (own_sources shape) _ next
          (among shape (sym (ap def_or_other at) ∙ is))))
      go None at = absurd (not_other (sym is ∙ ap def_or_other at))

  pointee_reached : (s : ℕ) (pointer : PointerDef) (count : ℕ) → def_of table s ≡ Def.Pointer pointer → PointsTo pointer.pointee count
      → Reached table s (shape_or_zero pointer.pointee)
  pointee_reached s pointer count is points = go pointer.pointee refl points
    where
      go : (pointee : Option ShapeId) → pointer.pointee ≡ pointee → PointsTo pointee count → Reached table s (shape_or_zero pointee)
      go (Some target) e points =
          reached_by s (Def.Pointer pointer) target is (λ e. cc) (λ shape d. rw (d, e) (zero, omega arith, refl))
      go None e points = absurd points

  -- the items of the slice behind a pointer
  slice_reached : (s i count : ℕ) → TakesItemsAs (def_of table s) ItemsKind.Slice → MayPoint table s true
      → Reached table s (item_shape (def_of table (pointee_shape (def_of table s))))
  slice_reached s i count takes may = go (def_of table s) refl takes (pointer_is table (def_of table s) may.0).1 may.1
    where
      item_of : (target : ℕ) (def : Def) → def_of table target ≡ def → is_slice def ≡ true → Reached table s target
          → Reached table s (item_shape def)
      item_of target (Def.Slice item) is slice reached =
          reached_on table s target item.0 reached (reached_by target (Def.Slice item) item is (λ e. cc) (λ shape e. rw e (zero, omega arith, refl)))
      item_of target _ is slice reached = cc

      go : (def : Def) → def_of table s ≡ def → TakesItemsAs def ItemsKind.Slice → HasContent def ContentKind.Pointer 1
          → points_to_slice table def ≡ true → Reached table s (item_shape (def_of table (pointee_shape def)))
      go (Def.Pointer pointer) is takes has slice =
          item_of (shape_or_zero pointer.pointee) (def_of table (shape_or_zero pointer.pointee)) refl slice (pointee_reached s pointer 1 is has)
      go _ is takes has slice = absurd takes

  content_reached : (s : ℕ) (kind : ContentKind) (count i : ℕ) → IsRightAs table s (as_content kind) count → Reached table s (child_as table s (as_content kind) i)
  content_reached s kind count i right = go kind (def_of table s) refl right
    where
      go : (kind : ContentKind) (def : Def) → def_of table s ≡ def → IsRightAs table s (as_content kind) count
          → Reached table s (child_as table s (as_content kind) i)
      go ContentKind.Some (Def.Option item) is right =
          rw is (reached_by s (Def.Option item) item is (λ e. cc) (λ shape e. rw e (zero, omega arith, refl)))
      go ContentKind.Some _ is right = let none = rw is at right.0 in absurd none
      go ContentKind.Ok (Def.Result one other) is right =
          rw is (reached_by s (Def.Result one other) one is (λ e. cc) (λ shape e. rw e (zero, omega arith, refl)))
      go ContentKind.Ok _ is right = let none = rw is at right.0 in absurd none
      go ContentKind.Err (Def.Result one other) is right =
          rw is (reached_by s (Def.Result one other) other is (λ e. cc) (λ shape e. rw e (suc zero, omega arith, refl)))
      go ContentKind.Err _ is right = let none = rw is at right.0 in absurd none
      go ContentKind.Pointer (Def.Pointer pointer) is right =
          rw is (pointee_reached s pointer count is (subst (λ (def : Def). HasContent def ContentKind.Pointer count) is right.0))
      go ContentKind.Pointer _ is right = let none = rw is at right.0 in absurd none
      go (ContentKind.Source conversion) def is right = absurd right.1

  items_reached : (s : ℕ) (kind : ItemsKind) (count i : ℕ) → IsRightAs table s (as_items kind) count → Reached table s (child_as table s (as_items kind) i)
  items_reached s kind count i right = go kind (def_of table s) refl right
    where
      go : (kind : ItemsKind) (def : Def) → def_of table s ≡ def → IsRightAs table s (as_items kind) count
          → Reached table s (child_as table s (as_items kind) i)
      go ItemsKind.List (Def.List item) is right =
          rw is (reached_by s (Def.List item) item is (λ e. cc) (λ shape e. rw e (zero, omega arith, refl)))
      go ItemsKind.List _ is right = let none = rw is at right.0 in absurd none
      go ItemsKind.Set (Def.Set item) is right =
          rw is (reached_by s (Def.Set item) item is (λ e. cc) (λ shape e. rw e (zero, omega arith, refl)))
      go ItemsKind.Set _ is right = let none = rw is at right.0 in absurd none
      go ItemsKind.Slice def is right = slice_reached s i count right.0 right.1
      go ItemsKind.ClosedSlice def is right = slice_reached s i count (as_slice (def_of table s) right.0) right.1
        where
          as_slice : (def : Def) → TakesItemsAs def ItemsKind.ClosedSlice → TakesItemsAs def ItemsKind.Slice
          as_slice (Def.Pointer pointer) takes = tt
          as_slice _ takes = absurd takes
      go ItemsKind.Array def is right = absurd right.1

  entries_reached : (s base count i : ℕ) → IsRightAs table s (as_entries (EntriesKind.Map base)) count
      → Reached table s (child_as table s (as_entries (EntriesKind.Map base)) i)
  entries_reached s base count i right = go (def_of table s) refl right.0
    where
      by_key : (key item : ShapeId) (b : Bool) → def_of table s ≡ Def.Map key item → Reached table s (if b then key.0 else item.0)
      by_key key item true is = reached_by s (Def.Map key item) key is (λ e. cc) (λ shape e. rw e (zero, omega arith, refl))
      by_key key item false is = reached_by s (Def.Map key item) item is (λ e. cc) (λ shape e. rw e (suc zero, omega arith, refl))

      go : (def : Def) → def_of table s ≡ def → HasEntries def (EntriesKind.Map base) count
          → Reached table s (child_as table s (as_entries (EntriesKind.Map base)) i)
      go (Def.Map key item) is even = rw is (by_key key item (is_key i) is)
      go _ is even = absurd even

  fields_reached : (s : ℕ) (chosen : Option ℕ) (count i : ℕ) → IsRightAs table s (as_fields chosen) count → i < count
      → Reached table s (child_as table s (as_fields chosen) i)
  fields_reached s None count i right below = child_reached table s i (go (def_of table s) refl right.0)
    where
      go : (def : Def) → def_of table s ≡ def → HasFields def None count → i < child_count table s
      go (Def.Struct struct) is full = rw is (omega (arith, full, below))
      go _ is full = absurd full
  fields_reached s (Some k) count i right below = go (def_of table s) refl right.0
    where
      of_field : (enumeration : EnumDef) (variant : VariantDef) (found : Option Field) → def_of table s ≡ Def.Enum enumeration
          → slice_get enumeration.variants k ≡ Some variant → slice_get variant.fields i ≡ found → i < length variant.fields
          → Reached table s (shape_of_field found)
      of_field enumeration variant (Some field) is chosen at below =
          reached_by s (Def.Enum enumeration) field.shape is (λ e. cc)
          (λ shape e. rw e (Contains-append_left _ _ field.shape (Contains-append_left _ _ field.shape
          (shape_among (fields_of (Def.Enum enumeration)) field (among_all enumeration.variants k variant field chosen (among_fields variant.fields i field at))))))
      of_field enumeration variant None is chosen at below = absurd (missing variant.fields i below at)
        where
          missing : (fields : List Field) (i : ℕ) → i < length fields → slice_get fields i ≡ None → ⊥
          missing [] i below none = omega (arith, below)
          missing (one ∷ fields) zero below none = cc
          missing (one ∷ fields) (suc i) below none = missing fields i (omega (arith, below)) none

      of_variant : (enumeration : EnumDef) (found : Option VariantDef) → def_of table s ≡ Def.Enum enumeration
          → slice_get enumeration.variants k ≡ found → HasFieldsOf found count
          → Reached table s (shape_of_field (field_in (Def.Enum enumeration) (Some k) i))
      of_variant enumeration (Some variant) is chosen full =
          rw chosen (of_field enumeration variant (slice_get variant.fields i) is chosen refl (omega (arith, full, below)))
      of_variant enumeration None is chosen full = absurd full

      go : (def : Def) → def_of table s ≡ def → HasFields def (Some k) count → Reached table s (shape_of_field (field_in (def_of table s) (Some k) i))
      go (Def.Enum enumeration) is full = rw is (of_variant enumeration (slice_get enumeration.variants k) is refl full)
      go _ is full = absurd full

  pub child_is_reached : (s : ℕ) (tracker : Tracker) (count i : ℕ) → IsRightAs table s tracker count → i < count
      → Reached table s (child_as table s tracker i)
  child_is_reached s (as_fields chosen) count i right below = fields_reached s chosen count i right below
  child_is_reached s as_elements count i right below = child_reached table s i (go (def_of table s) refl right.0)
    where
      go : (def : Def) → def_of table s ≡ def → IsFullAs def as_elements count → i < child_count table s
      go (Def.Array item n) is full = rw is (omega (arith, full, below))
      go _ is full = absurd full
  child_is_reached s (as_content kind) count i right below = content_reached s kind count i right
  child_is_reached s (as_items kind) count i right below = items_reached s kind count i right
  child_is_reached s (as_entries (EntriesKind.Map base)) count i right below = entries_reached s base count i right
  child_is_reached s (as_entries (EntriesKind.Object keys)) count i right below = absurd right.1

  pub child_direct : (s : ℕ) (tracker : Tracker) (count i : ℕ) → IsDirect table s → IsRightAs table s tracker count → i < count
      → IsDirect table (child_as table s tracker i)
  child_direct s tracker count i direct right below id shape reached is =
      direct id shape (reached_on table s (child_as table s tracker i) id (child_is_reached s tracker count i right below) reached) is
