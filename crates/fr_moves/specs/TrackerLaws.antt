-- As what a place is begun whose children may be entered.
use Rattle.std.proofs.Common.{◌≡◌, ℕ, false, length, Option, Some, None, slice_get, refl, sym, ◌∙◌, ap, subst}
use Rattle.fr_moves.specs.Common.{ContentKind, Def, EnumDef, IsFullAs, Operation, PointsRightly, ShapeId, Suits, Table, Tracker, Tree, Trees, Val, VariantDef, as_content, as_elements, as_fields, begun, count_trees, def_of, entered, field_refusal, hole, is_begun_conversion, opened, opened_as, selected, tracker_at, tracker_of, variant_fields, whole}
use Rattle.fr_shape.specs.declared.shape.StructDef.{StructDef}
use Rattle.fr_model.specs.Places.{count_children}
use Rattle.fr_model.specs.Trackers.{is_conversion, variant_of}
use Rattle.fr_model.specs.Tree.{over_base}
use Rattle.fr_model.specs.Variants.{fields_or_none}
use Rattle.fr_model.specs.Well.{HasFieldsOf}

pub struct_tracker : (struct : StructDef) (tracker : Tracker) (n : ℕ) → is_conversion tracker ≡ false
    → IsFullAs (Def.Struct struct) tracker n → (tracker ≡ as_fields None) × (n ≡ length struct.fields)
struct_tracker struct (as_fields None) n plain full = (refl, full)
struct_tracker struct (as_content (ContentKind.Source conversion)) n plain full = cc
struct_tracker struct _ n plain full = absurd full

pub array_tracker : (item : ShapeId) (m : ℕ) (tracker : Tracker) (n : ℕ) → is_conversion tracker ≡ false
    → IsFullAs (Def.Array item m) tracker n → (tracker ≡ as_elements) × (n ≡ m)
array_tracker item m as_elements n plain full = (refl, full)
array_tracker item m (as_content (ContentKind.Source conversion)) n plain full = cc
array_tracker item m _ n plain full = absurd full

fields_of : (found : Option VariantDef) (n : ℕ) → HasFieldsOf found n → n ≡ length (fields_or_none found)
fields_of (Some variant) n full = full
fields_of None n full = absurd full

-- an enum is begun as a variant
pub record IsVariant (enumeration : EnumDef) (tracker : Tracker) (n : ℕ) : Type 0 where
  pub variant : ℕ
  pub tracker_is : tracker ≡ as_fields (Some variant)
  pub full : HasFieldsOf (slice_get enumeration.variants variant) n

pub enum_tracker : (enumeration : EnumDef) (tracker : Tracker) (n : ℕ) → is_conversion tracker ≡ false
    → IsFullAs (Def.Enum enumeration) tracker n → IsVariant enumeration tracker n
enum_tracker enumeration (as_fields (Some k)) n plain full = record { variant = k; tracker_is = refl; full = full }
enum_tracker enumeration (as_content (ContentKind.Source conversion)) n plain full = cc
enum_tracker enumeration _ n plain full = absurd full

-- so many children as a variant has fields
pub variant_count : (enumeration : EnumDef) (k n : ℕ) → IsFullAs (Def.Enum enumeration) (as_fields (Some k)) n
    → n ≡ length (variant_fields (Def.Enum enumeration) k)
variant_count enumeration k n full = fields_of (slice_get enumeration.variants k) n full

pub variant_has : (def : Def) (k n : ℕ) → IsFullAs def (as_fields (Some k)) n → n ≡ length (variant_fields def k)
variant_has (Def.Enum enumeration) k n full = variant_count enumeration k n full
variant_has _ k n full = absurd full

-- Where a child may be entered, at which this stands.

-- nothing is a variant's but where one is selected
unselected : (enumeration : EnumDef) (tree : Tree) (i : ℕ) → selected tree ≡ None
    → field_refusal (Def.Enum enumeration) tree i ≡ None → ⊥
unselected enumeration tree i none may =
    let no : Some Operation.FieldOfUnselectedVariant ≡ None = rw none at may in
    cc

same_variant : (made : Tracker) (k : ℕ) → variant_of made ≡ Some k → made ≡ as_fields (Some k)
same_variant (as_fields (Some j)) k e = let same : j ≡ k = cc in ap (λ (n : ℕ). as_fields (Some n)) same
same_variant _ k e = cc

-- as what a place is begun for a field or an element
module _ (So : Tracker → Type 0) (of_struct : So (as_fields None)) (of_array : So as_elements) (of_variant : (k : ℕ) → So (as_fields (Some k))) where
  pub of_fields : (def : Def) (tree : Tree) (tracker : Tracker) (n i : ℕ) → is_conversion tracker ≡ false → IsFullAs def tracker n → field_refusal def tree i ≡ None → So tracker
  of_fields (Def.Struct struct) tree tracker n i plain full may = subst So (sym (struct_tracker struct tracker n plain full).0) of_struct
  of_fields (Def.Array item m) tree tracker n i plain full may = subst So (sym (array_tracker item m tracker n plain full).0) of_array
  of_fields (Def.Enum enumeration) tree tracker n i plain full may =
      let is = enum_tracker enumeration tracker n plain full in
      subst So (sym is.tracker_is) (of_variant is.variant)
  of_fields _ tree tracker n i plain full may = cc

-- begun around a value it is no map over that
pub over_so : (def : Def) (tree : Tree) (tracker : Tracker) (n i : ℕ) → is_conversion tracker ≡ false → IsFullAs def tracker n → field_refusal def tree i ≡ None
    → (v : Val) → over_base tracker v ≡ tracker
over_so = of_fields (λ tracker. (v : Val) → over_base tracker v ≡ tracker) (λ v. refl) (λ v. refl) (λ k v. refl)

-- its children are one lookup away
pub points_so : (table : Table) (s : ℕ) (def : Def) (tree : Tree) (tracker : Tracker) (n i : ℕ) → is_conversion tracker ≡ false → IsFullAs def tracker n
    → field_refusal def tree i ≡ None → PointsRightly table s tracker
points_so table s = of_fields (PointsRightly table s) tt tt (λ k. tt)

-- one that isn't begun yet is begun as its definition says
pub not_begun : (def : Def) (tree : Tree) (tracker : Tracker) (n i : ℕ) → is_conversion tracker ≡ false → IsFullAs def tracker n → selected tree ≡ None
    → field_refusal def tree i ≡ None → (tracker ≡ tracker_of def) × (n ≡ count_children def)
not_begun (Def.Struct struct) tree tracker n i plain full none may = struct_tracker struct tracker n plain full
not_begun (Def.Array item m) tree tracker n i plain full none may = array_tracker item m tracker n plain full
not_begun (Def.Enum enumeration) tree tracker n i plain full none may = absurd (unselected enumeration tree i none may)
not_begun _ tree tracker n i plain full none may = cc

-- one that is begun stays so, with as many children
pub begun_as : (def : Def) (made : Tracker) (ts : Trees) (tracker : Tracker) (n i : ℕ) → is_conversion tracker ≡ false → IsFullAs def tracker n
    → ((k : ℕ) → tracker ≡ as_fields (Some k) → selected (begun made ts) ≡ Some k) → is_conversion made ≡ false → IsFullAs def made (count_trees ts)
    → field_refusal def (begun made ts) i ≡ None → (tracker ≡ made) × (count_trees ts ≡ n)
begun_as (Def.Struct struct) made ts tracker n i plain full variant apart was may =
    let new = struct_tracker struct tracker n plain full in
    let old = struct_tracker struct made (count_trees ts) apart was in
    (new.0 ∙ sym old.0, old.1 ∙ sym new.1)
begun_as (Def.Array item m) made ts tracker n i plain full variant apart was may =
    let new = array_tracker item m tracker n plain full in
    let old = array_tracker item m made (count_trees ts) apart was in
    (new.0 ∙ sym old.0, old.1 ∙ sym new.1)
begun_as (Def.Enum enumeration) made ts tracker n i plain full variant apart was may =
    let new = enum_tracker enumeration tracker n plain full in
    let same : made ≡ as_fields (Some new.variant) = same_variant made new.variant (variant new.variant new.tracker_is) in
    let old : HasFieldsOf (slice_get enumeration.variants new.variant) (count_trees ts)
    = subst (λ (f : Tracker). IsFullAs (Def.Enum enumeration) f (count_trees ts)) same was in (
      new.tracker_is ∙ sym same,
      fields_of (slice_get enumeration.variants new.variant) (count_trees ts) old
          ∙ sym (fields_of (slice_get enumeration.variants new.variant) n new.full),
    )
begun_as _ made ts tracker n i plain full variant apart was may = cc

-- the place opened so is opened as its definition says
pub opened_same : (def : Def) (tree : Tree) (tracker : Tracker) (n i : ℕ) → is_conversion tracker ≡ false → IsFullAs def tracker n → field_refusal def tree i ≡ None
    → opened_as tracker n tree ≡ opened def tree
opened_same def entered tracker n i plain full may =
    let so = not_begun def entered tracker n i plain full refl may in
    ap (λ (f : Tracker). opened_as f n entered) so.0 ∙ ap (λ (c : ℕ). opened_as (tracker_of def) c entered) so.1
opened_same def (whole v) tracker n i plain full may =
    let so = not_begun def (whole v) tracker n i plain full refl may in
    ap (λ (f : Tracker). opened_as f n (whole v)) so.0 ∙ ap (λ (c : ℕ). opened_as (tracker_of def) c (whole v)) so.1
opened_same def _ tracker n i plain full may = refl

-- a begun place has all its children
abbrev pub IsFullTree : Def → Tree → Type 0
IsFullTree def (begun made ts) = IsFullAs def made (count_trees ts)
IsFullTree def _ = Unit {0}

-- one that suits its shape is begun with all its children
pub full_tree : (table : Table) (s : ℕ) (tree : Tree) → Suits table s tree → IsFullTree (def_of table s) tree
full_tree table s (begun made ts) suits = suits.0.0
full_tree table s _ suits = tt

-- and its tracker is the one by which its children are told
pub tracker_is_at : (def : Def) (tree : Tree) (tracker : Tracker) (n i : ℕ) → is_conversion tracker ≡ false → IsFullAs def tracker n
    → ((k : ℕ) → tracker ≡ as_fields (Some k) → selected tree ≡ Some k) → is_begun_conversion tree ≡ false → IsFullTree def tree → field_refusal def tree i ≡ None
    → tracker ≡ tracker_at def tree
tracker_is_at def hole tracker n i plain full variant apart was may = (not_begun def hole tracker n i plain full refl may).0
tracker_is_at def entered tracker n i plain full variant apart was may = (not_begun def entered tracker n i plain full refl may).0
tracker_is_at def (whole v) tracker n i plain full variant apart was may =
    sym (over_so def (whole v) tracker n i plain full may v)
    ∙ ap (λ (f : Tracker). over_base f v) (not_begun def (whole v) tracker n i plain full refl may).0
tracker_is_at def (begun made ts) tracker n i plain full variant apart was may = (begun_as def made ts tracker n i plain full variant apart was may).0
