-- How the source of a conversion is converted: what its hook makes of its value is the value of the place above.
use Rattle.std.specs.Prelude.{◌≡◌, ℕ, ◌<◌, List, [], ◌∷◌, length, Option, Some, None}
use Rattle.std.specs.Option.{option_and_then}
use Rattle.fr_shape.specs.Hooks.{Meaning, Meanings, gives}
use Rattle.fr_shape.specs.Look.{Table, IsIn}
use Rattle.fr_shape.specs.Val.{Val}
use Rattle.fr_shape.specs.declared.error.ReflectErrorKind.{ReflectErrorKind}
use Rattle.fr_model.specs.Conversions.{refusal_through}
use Rattle.fr_model.specs.Trackers.{Tracker, as_fields, as_elements, as_content, ContentKind, Conversion, as_items, as_entries}
use Rattle.fr_plan.specs.TypePlan.{Plan}
use Rattle.fr_values.specs.Cells.{placed}
use Rattle.fr_frame.specs.declared.converting.Over.{Over}
use Rattle.fr_frame.specs.declared.places.FrameOwner.{FrameOwner}
use Rattle.fr_frame.specs.declared.places.Slot.{Slot}
use Rattle.fr_frame.specs.declared.places.SlotId.{SlotId}
use Rattle.fr_frame.specs.Bodies.{Body, entered_body, whole_body, begun_body, value_of}
use Rattle.fr_frame.specs.Changes.{Shows}
use Rattle.fr_frame.specs.Completing.{shape_of}
use Rattle.fr_frame.specs.Heap.{Node, Heap, as_conversion, heap_of, with_body, with_slot}

-- Which conversion

-- the conversion as which a place is begun, if it is begun as one
abbrev pub conversion_of : Tracker → Option Conversion
conversion_of (as_content (ContentKind.Source conversion)) = Some conversion
conversion_of (as_content ContentKind.Some) = None
conversion_of (as_content ContentKind.Ok) = None
conversion_of (as_content ContentKind.Err) = None
conversion_of (as_content ContentKind.Pointer) = None
conversion_of (as_fields selected) = None
conversion_of as_elements = None
conversion_of (as_items kind) = None
conversion_of (as_entries kind) = None

abbrev pub conversion_in : Body → Option Conversion
conversion_in entered_body = None
conversion_in (whole_body v) = None
conversion_in (begun_body tracker cells) = conversion_of tracker

-- the place above a place that belongs there
abbrev pub node_above : Heap → FrameOwner → Option Node
node_above heap FrameOwner.Root = None
node_above heap (FrameOwner.Child parent i) = heap parent.0

-- the conversion as which it is begun
abbrev pub conversion_above : Heap → FrameOwner → Option Conversion
conversion_above heap owner = option_and_then (λ (above : Node). conversion_in above.body) (node_above heap owner)

-- the same of the place above the one in slot n
abbrev pub conversion_over : Heap → (n : ℕ) → Option Conversion
conversion_over heap n = option_and_then (λ (at : Node). conversion_above heap at.owner) (heap n)

-- over the place in slot n stands this one, begun as this conversion
pub record IsOver (heap : Heap) (n : ℕ) (over : Over) : Type 0 where
  pub at : Node
  pub here : heap n ≡ Some at
  pub i : ℕ
  pub owner : at.owner ≡ FrameOwner.Child over.place i
  pub above : Node
  pub there : heap over.place.0 ≡ Some above
  pub node : above.node ≡ over.node
  pub conversion : conversion_in above.body ≡ Some (as_conversion over.conversion)

-- Its source

-- the place in slot n, with this above it, is the source of this conversion: the one child of the place above
pub record IsSource (heap : Heap) (n : ℕ) (at above : Node) (conversion : Conversion) : Type 0 where
  pub parent : SlotId
  pub owner : at.owner ≡ FrameOwner.Child parent 0
  pub here : heap parent.0 ≡ Some above
  pub begun : above.body ≡ begun_body (as_content (ContentKind.Source conversion)) (placed n ∷ [])

-- the place in slot n is the source of some conversion, which is built by a node of the plan, for a shape of the table
pub record IsConvertible (table : Table) (plan : Plan) (heap : Heap) (n : ℕ) (at : Node) : Type 0 where
  pub above : Node
  pub conversion : Conversion
  pub source : IsSource heap n at above conversion
  pub planned : above.node.0 < length plan.nodes
  pub target : IsIn table (shape_of plan above.node)

-- so it is of the place above, of the conversion, and of the source's value
abbrev pub OfSource : Heap → ℕ → (at : Node) → (Node → Conversion → Val → Type 0) → Type 0
OfSource heap n at So =
    (above : Node) (conversion : Conversion) (value : Val) → IsSource heap n at above conversion → value_of at.body ≡ Some value
    → So above conversion value

-- What comes of it

-- slot n is free, and the place above is whole with this value
abbrev pub raised : (n : ℕ) → FrameOwner → Val → Heap → Heap
raised n FrameOwner.Root w heap = heap
raised n (FrameOwner.Child parent i) w heap = with_body (with_slot heap n None) parent.0 (λ (old : Body). whole_body w)

-- what the hook makes of this value, the source's in slot n, is the value of the place above, which has this shape
pub record IsConverted (means : Meanings) (table : Table) (before after : List Slot) (n : ℕ) (owner : FrameOwner) (s : ℕ) (conversion : Conversion) (value : Val) : Type 0 where
  pub result : Val
  pub meant : means.convert table conversion.hook s value ≡ gives result
  pub raised : Shows after (raised n owner result (heap_of before))

-- this is why a conversion whose hook means this gives no value of shape s
abbrev pub Refuses : (s : ℕ) → Conversion → Meaning → ReflectErrorKind → Type 0
Refuses s conversion meaning kind = refusal_through conversion.through conversion.source s meaning ≡ Some kind

-- and why the hook makes nothing of this value
abbrev pub IsRefused : Meanings → Table → (s : ℕ) → Conversion → Val → ReflectErrorKind → Type 0
IsRefused means table s conversion value kind = Refuses s conversion (means.convert table conversion.hook s value) kind
