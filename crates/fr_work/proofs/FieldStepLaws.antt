-- Steps to fields: the place that a step leads to is a field just where the step says so.
use Rattle.std.proofs.Common.{Bor, ◌≡◌, ℕ, zero, suc, ◌<◌, Bool, true, false, ◌||◌, List, [], ◌∷◌, length, Option, Some, None, is_some, slice_get, refl, sym, ◌∙◌, ap, arith}
use Rattle.std.specs.Option.{option_and_then, option_copied, option_or}
use Rattle.std.specs.Prelude.{if◌then◌else◌, ◌↔◌, IsNone}
use Rattle.fr_work.specs.Common.{ContentKind, Def, EntriesKind, Field, IsFullAs, ItemsKind, Leads, Mode, OffBut, PathStep, Place, Site, State, Suits, Table, Tracker, Tree, Trees, VariantDef, as_content, as_elements, as_entries, as_fields, as_items, begun, branch, child_as, count_trees, def_of, entered, hole, no_trees, path_of, selected, shape_at, step_as, tree_nth, whole, cursor_tree, IsInOrder}
use Rattle.fr_shape.specs.Look.{field_in, field_of_variant, variants_of}
use Rattle.fr_model.specs.Paths.{steps_in}
use Rattle.fr_model.specs.Places.{is_key}
use Rattle.fr_model.specs.Trackers.{Conversion, Through}
use Rattle.fr_model.specs.Tree.{cursor_field, field_along, field_as}
use Rattle.fr_model.specs.Well.{HasFields, HasFieldsOf}
use Rattle.fr_work.specs.Readings.{ends_in_field, has_field_step, is_field_step, nearest_along, nearest_field, variant_here}
use Rattle.fr_work.proofs.ContentLaws.{full_here}
use Rattle.fr_moves.specs.StateLaws.{IsSiteInOrder}
use Rattle.fr_moves.specs.TrackerLaws.{IsFullTree}
use Rattle.fr_moves.specs.TreeLaws.{nth_leads}
use Rattle.fr_store.specs.ShapeLaws.{suits_nth}

-- One step.

there_below : {A : Type 0} (xs : List A) (i count : ℕ) → count ≡ length xs → i < count → is_some (slice_get xs i) ≡ true
there_below [] i count e below = absurd (omega (arith, e, below))
there_below (x ∷ xs) zero count e below = refl
there_below (x ∷ xs) (suc i) zero e below = absurd (omega (arith, e))
there_below (x ∷ xs) (suc i) (suc count) e below = there_below xs i count (omega (arith, e)) (omega (arith, below))

variant_field : (found : Option VariantDef) (count i : ℕ) → HasFieldsOf found count → i < count
    → is_some (field_of_variant found i) ≡ true
variant_field (Some variant) count i has below = there_below variant.fields i count has below
variant_field None count i has below = absurd has

field_there : (def : Def) (chosen : Option ℕ) (count i : ℕ) → HasFields def chosen count → i < count
    → is_some (field_in def chosen i) ≡ true
field_there (Def.Struct struct) None count i has below = there_below struct.fields i count has below
field_there (Def.Enum enumeration) (Some k) count i has below = variant_field (slice_get enumeration.variants k) count i has below
field_there _ chosen count i has below = absurd has

key_or_value : (of_key : Bool) (key value : PathStep) → is_field_step key ≡ false → is_field_step value ≡ false
    → false ≡ is_field_step (if of_key then key else value)
key_or_value true key value k v = sym k
key_or_value false key value k v = sym v

through_no_field : (conversion : Conversion) (through : Through) → conversion.through ≡ through
    → false ≡ is_field_step (step_as (as_content (ContentKind.Source conversion)) 0)
through_no_field conversion Through.Wrapper e = rw e refl
through_no_field conversion Through.Proxy e = rw e refl

step_so : (def : Def) (tracker : Tracker) (count i : ℕ) → IsFullAs def tracker count → i < count
    → is_some (field_as def tracker i) ≡ is_field_step (step_as tracker i)
step_so def (as_fields chosen) count i full below = field_there def chosen count i full below
step_so def as_elements count i full below = refl
step_so def (as_content ContentKind.Some) count i full below = refl
step_so def (as_content ContentKind.Ok) count i full below = refl
step_so def (as_content ContentKind.Err) count i full below = refl
step_so def (as_content ContentKind.Pointer) count i full below = refl
step_so def (as_content (ContentKind.Source conversion)) count i full below = through_no_field conversion conversion.through refl
step_so def (as_items ItemsKind.List) count i full below = refl
step_so def (as_items ItemsKind.Slice) count i full below = refl
step_so def (as_items ItemsKind.ClosedSlice) count i full below = refl
step_so def (as_items ItemsKind.Set) count i full below = refl
step_so def (as_items ItemsKind.Array) count i full below = refl
step_so def (as_entries (EntriesKind.Map base)) count i full below = key_or_value (is_key i) _ _ refl refl
step_so def (as_entries (EntriesKind.Object keys)) count i full below = refl

-- All of a way.

within : (mode : Mode) (i : ℕ) (Below : Tree → Type 0) (ts : Trees) → OffBut mode i Below ts → i < count_trees ts
within mode i Below no_trees off = absurd off
within mode zero Below (branch t ts) off = omega arith
within mode (suc i) Below (branch t ts) off = let rest = within mode i Below ts off.1 in omega (arith, rest)

or_some : {A : Type 0} (one other : Option A) → is_some (option_or one other) ≡ (is_some one || is_some other)
or_some (Some x) other = refl
or_some None other = refl

turned : (a b c : Bool) → ((a || b) || c) ≡ (b || (a || c))
turned true true c = refl
turned true false c = refl
turned false true c = refl
turned false false c = refl

or_false : (a : Bool) → a ≡ (a || false)
or_false true = refl
or_false false = refl

module _ (mode : Mode) (table : Table) where
  nearest_so : (s : ℕ) (nearest : Option Field) (place : Place) (t : Tree) → Suits table s t → Leads mode place t
      → is_some (nearest_along table s nearest place t) ≡ (is_some nearest || has_field_step (steps_in place t))
  nearest_so s nearest [] t suits leads = or_false (is_some nearest)
  nearest_so s nearest (i ∷ place) (begun tracker ts) suits leads =
      let below = within mode i (λ child. Leads mode place child) ts leads in
      nearest_so (child_as table s tracker i) (option_or (field_as (def_of table s) tracker i) nearest) place (tree_nth i ts)
      (suits_nth table s tracker 0 ts i i (omega arith) below suits.1) (nth_leads mode i (λ child. Leads mode place child) ts leads)
      ∙ ap (λ (b : Bool). b || has_field_step (steps_in place (tree_nth i ts)))
      (or_some (field_as (def_of table s) tracker i) nearest
      ∙ ap (λ (b : Bool). b || is_some nearest) (step_so (def_of table s) tracker (count_trees ts) i suits.0.0 below))
      ∙ turned (is_field_step (step_as tracker i)) (is_some nearest) (has_field_step (steps_in place (tree_nth i ts)))
  nearest_so s nearest (i ∷ place) _ suits leads = absurd leads

  last_so : (s : ℕ) (field : Option Field) (i : ℕ) (place : Place) (t : Tree) → Suits table s t → Leads mode (i ∷ place) t
      → is_some (field_along table s field (i ∷ place) t) ≡ ends_in_field (steps_in (i ∷ place) t)
  last_so s field i [] (begun tracker ts) suits leads =
      step_so (def_of table s) tracker (count_trees ts) i suits.0.0 (within mode i (λ child. Leads mode [] child) ts leads)
  last_so s field i (j ∷ place) (begun tracker ts) suits leads =
      let below = within mode i (λ child. Leads mode (j ∷ place) child) ts leads in
      last_so (child_as table s tracker i) (field_as (def_of table s) tracker i) j place (tree_nth i ts)
      (suits_nth table s tracker 0 ts i i (omega arith) below suits.1) (nth_leads mode i (λ child. Leads mode (j ∷ place) child) ts leads)
  last_so s field i place _ suits leads = absurd leads

  along_so : (s : ℕ) (place : Place) (t : Tree) → Suits table s t → Leads mode place t
      → is_some (field_along table s None place t) ≡ ends_in_field (steps_in place t)
  along_so s [] t suits leads = refl
  along_so s (i ∷ place) t suits leads = last_so s None i place t suits leads

pub parent_so : (table : Table) (root : ℕ) (state : State) → IsInOrder table root state
    → is_some (cursor_field table root state) ≡ ends_in_field (path_of state)
parent_so table root state order = along_so state.mode table root state.cursor state.tree order.suits order.leads

pub nearest_named : (table : Table) (root : ℕ) (state : State) → IsInOrder table root state
    → is_some (nearest_field table root state) ≡ has_field_step (path_of state)
nearest_named table root state order = nearest_so state.mode table root None state.cursor state.tree order.suits order.leads

-- something is found just where it is behind its reference
pub copied_some : {A : Type 0} (found : Option (Bor A)) → is_some (option_copied found) ≡ is_some found
copied_some (Some x) = refl
copied_some None = refl

-- none just where not
pub none_just : {A : Type 0} (found : Option A) (there : Bool) → is_some found ≡ there → (IsNone found ↔ (there ≡ false))
none_just found there e = (λ no. sym e ∙ no, λ no. e ∙ no)

-- The variant that is selected is one of the enum.

variant_is_there : (found : Option VariantDef) (count : ℕ) → HasFieldsOf found count → is_some found ≡ true
variant_is_there (Some variant) count has = refl
variant_is_there None count has = absurd has

of_enum : (def : Def) (k count : ℕ) → HasFields def (Some k) count → is_some (slice_get (variants_of def) k) ≡ true
of_enum (Def.Enum enumeration) k count has = variant_is_there (slice_get enumeration.variants k) count has
of_enum _ k count has = absurd has

pub chosen_there : (def : Def) (tree : Tree) → IsFullTree def tree → is_some (variant_here def tree) ≡ is_some (selected tree)
chosen_there def (begun (as_fields (Some k)) ts) full = of_enum def k (count_trees ts) full
chosen_there def (begun (as_fields None) ts) full = refl
chosen_there def (begun as_elements ts) full = refl
chosen_there def (begun (as_content kind) ts) full = refl
chosen_there def (begun (as_items kind) ts) full = refl
chosen_there def (begun (as_entries kind) ts) full = refl
chosen_there def hole full = refl
chosen_there def entered full = refl
chosen_there def (whole v) full = refl

pub chosen_here : (site : Site) → IsSiteInOrder site
    → is_some (variant_here (def_of site.shapes (shape_at site)) (cursor_tree site.state)) ≡ is_some (selected (cursor_tree site.state))
chosen_here site order = chosen_there (def_of site.shapes (shape_at site)) (cursor_tree site.state) (full_here site order)

-- by its number
pub chosen_so : (site : Site) → IsSiteInOrder site → (k : ℕ) → Some k ≡ selected (cursor_tree site.state)
    → is_some (slice_get (variants_of (def_of site.shapes (shape_at site))) k) ≡ is_some (selected (cursor_tree site.state))
chosen_so site order k is =
    ap (λ (chosen : Option ℕ). is_some (option_and_then (slice_get (variants_of (def_of site.shapes (shape_at site)))) chosen)) is
    ∙ chosen_here site order
