-- What is seen of a place that has a value so far: it is whole, or begun with children that are all whole.
use Rattle.std.specs.Prelude.{ℕ, List, [], ◌∷◌, Option, Some, None, is_some, Bool, true, false, ◌&&◌, if◌then◌else◌, refl}
use Rattle.std.specs.Coded.{Coded, code_by, coded×, coded_ℕ, coded_list, coded_option}
use Rattle.std.specs.Option.{option_map}
use Rattle.fr_shape.specs.Code.{val_code}
use Rattle.fr_shape.specs.Val.{Val}
use Rattle.fr_frame.specs.Bodies.{Body, entered_body, whole_body, begun_body}
use Rattle.fr_frame.specs.Heap.{Heap, Node}
use Rattle.fr_values.specs.Cells.{Cell, absent, given, placed}
use Rattle.fr_model.specs.Trackers.{Tracker, as_fields, as_elements, as_content, ContentKind, as_items, as_entries}
use Rattle.fr_model.specs.Tree.{Tree, hole, entered, whole, begun, Trees, no_trees, branch}

-- the place's shape; its value, where it is whole; else the values of its children, and the number of its variant, if it is begun as one
pub record Initialized : Type 0 where
  pub shape : ℕ
  pub whole_value : Option Val
  pub children : List Val
  pub variant : Option ℕ

abbrev pub initialized_code : Coded Initialized
initialized_code =
    code_by (ℕ × (Option Val × (List Val × Option ℕ)))
    (coded× coded_ℕ (coded× (coded_option val_code) (coded× (coded_list val_code) (coded_option coded_ℕ))))
    (λ seen. (seen.shape, (seen.whole_value, (seen.children, seen.variant))))
    (λ p. record { shape = p.0; whole_value = p.1.0; children = p.1.1.0; variant = p.1.1.1 }) (λ seen. refl)

-- what is seen of a whole place of shape s
abbrev pub seen_whole : (s : ℕ) → Val → Initialized
seen_whole s v = record { shape = s; whole_value = Some v; children = []; variant = None }

-- the value of a place that is begun so is made of its children's, one for each field or element, or of the one that it holds
abbrev pub has_parts : Tracker → Bool
has_parts (as_fields selected) = true
has_parts as_elements = true
has_parts (as_content ContentKind.Some) = true
has_parts (as_content ContentKind.Ok) = true
has_parts (as_content ContentKind.Err) = true
has_parts (as_content ContentKind.Pointer) = true
has_parts (as_content (ContentKind.Source conversion)) = false
has_parts (as_items kind) = false
has_parts (as_entries kind) = false

-- the number of the variant as which it is begun: an enum's; of an option and of the ok side of a result 0, of the err side 1
abbrev pub variant_shown : Tracker → Option ℕ
variant_shown (as_fields selected) = selected
variant_shown as_elements = None
variant_shown (as_content ContentKind.Some) = Some 0
variant_shown (as_content ContentKind.Ok) = Some 0
variant_shown (as_content ContentKind.Err) = Some 1
variant_shown (as_content ContentKind.Pointer) = None
variant_shown (as_content (ContentKind.Source conversion)) = None
variant_shown (as_items kind) = None
variant_shown (as_entries kind) = None

-- what is seen of a place of shape s that is begun so, with children of these values
abbrev pub seen_begun : (s : ℕ) → Tracker → List Val → Initialized
seen_begun s tracker values = record { shape = s; whole_value = None; children = values; variant = variant_shown tracker }

-- a value and the ones after it, where the first tree is whole
abbrev pub and_whole : Tree → Option (List Val) → Option (List Val)
and_whole hole values = None
and_whole entered values = None
and_whole (whole v) values = option_map (λ (vs : List Val). v ∷ vs) values
and_whole (begun tracker ts) values = None

-- the values of trees that are all whole
abbrev pub whole_values : Trees → Option (List Val)
whole_values no_trees = Some []
whole_values (branch t ts) = and_whole t (whole_values ts)

-- What is seen of a place of shape s where this stands: there is something to see where it is whole, or where it is begun as a struct, an
-- array, a variant, an option, either side of a result or a pointer, and its children are all whole.
abbrev pub initialized : (s : ℕ) → Tree → Option Initialized
initialized s hole = None
initialized s entered = None
initialized s (whole v) = Some (seen_whole s v)
initialized s (begun tracker ts) = if has_parts tracker then option_map (seen_begun s tracker) (whole_values ts) else None

-- The same by what was put at a place and the slots of its children. Only the contracts inside this crate speak of it.

abbrev pub whole_of : Body → Option Val
whole_of entered_body = None
whole_of (whole_body v) = Some v
whole_of (begun_body tracker cells) = None

abbrev pub whole_in : Option Node → Option Val
whole_in (Some at) = whole_of at.body
whole_in None = None

-- the value of a child that is there, or whole in a slot of its own
abbrev pub child_value : Heap → Cell → Option Val
child_value heap absent = None
child_value heap (given v) = Some v
child_value heap (placed n) = whole_in (heap n)

abbrev pub and_value : Option Val → List Val → List Val
and_value (Some v) values = v ∷ values
and_value None values = values

-- the values of the children that have one
abbrev pub child_values : Heap → List Cell → List Val
child_values heap [] = []
child_values heap (c ∷ cs) = and_value (child_value heap c) (child_values heap cs)

-- all of them have one
abbrev pub all_valued : Heap → List Cell → Bool
all_valued heap [] = true
all_valued heap (c ∷ cs) = is_some (child_value heap c) && all_valued heap cs

-- there is something to see
abbrev pub is_initialized : Heap → Body → Bool
is_initialized heap entered_body = false
is_initialized heap (whole_body v) = true
is_initialized heap (begun_body tracker cells) = has_parts tracker && all_valued heap cells

-- what is seen, if there is something to see
abbrev pub seen_in : (s : ℕ) → Heap → Body → Initialized
seen_in s heap entered_body = seen_begun s (as_fields None) []
seen_in s heap (whole_body v) = seen_whole s v
seen_in s heap (begun_body tracker cells) = seen_begun s tracker (child_values heap cells)

abbrev pub initialized_in : (s : ℕ) → Heap → Body → Option Initialized
initialized_in s heap body = if is_initialized heap body then Some (seen_in s heap body) else None
