-- The source of a conversion: what stands over it, and what becomes of that as it is converted.
use Rattle.std.proofs.Common.{◌≡◌, ℕ, List, Some, None, sym, ◌∙◌, ap, subst}
use Rattle.fr_frame.specs.Common.{Body, FrameOwner, Heap, IfInUse, Meanings, Node, Plan, ReflectErrorKind, Shows, Slot, SlotId, Table, Val, heap_of, shape_of, unlinked, value_of, whole_body, with_body, with_slot, without}
use Rattle.fr_frame.specs.Converting.{IsConverted, IsOver, IsRefused, IsSource, OfSource, conversion_in, raised}
use Rattle.fr_frame.specs.Heap.{as_conversion}
use Rattle.fr_frame.specs.declared.converting.Over.{Over}
use Rattle.fr_model.specs.Trackers.{Conversion}
use Rattle.fr_shape.specs.Hooks.{gives}
use Rattle.std.proofs.lemmas.Option.{same_Some}
use Rattle.fr_frame.proofs.HandLaws.{so_of}
use Rattle.fr_frame.proofs.HeapLaws.{shown_is, with_body_twice}
use Rattle.fr_frame.proofs.ChangedPlaces.{of_node}

-- what stands over a source is its conversion
module _ (heap : Heap) (n : ℕ) (over : Over) (o : IsOver heap n over) (above : Node) (conversion : Conversion)
    (source : IsSource heap n o.at above conversion) where
  same_place : over.place ≡ source.parent
  same_place =
      let same : FrameOwner.Child over.place o.i ≡ FrameOwner.Child source.parent 0 = sym o.owner ∙ source.owner in
      cc

  same_above : o.above ≡ above
  same_above =
      let same : Some o.above ≡ Some above = sym o.there ∙ ap (λ (place : SlotId). heap place.0) same_place ∙ source.here in
      cc

  same_node : over.node ≡ above.node
  same_node = sym o.node ∙ ap (λ (x : Node). x.node) same_above

  same_conversion : as_conversion over.conversion ≡ conversion
  same_conversion =
      let same : Some (as_conversion over.conversion) ≡ Some conversion
      = sym o.conversion ∙ ap (λ (x : Node). conversion_in x.body) same_above ∙ ap conversion_in source.begun in
      cc

-- where its value leaves a source, and the place above becomes whole with another, that is raised
raised_so : (old mid after : List Slot) (n : ℕ) (at above : Node) (conversion : Conversion)
    → (source : IsSource (heap_of old) n at above conversion) → Shows mid (without (heap_of old) n at.owner) → (place : SlotId) (w : Val)
    → place ≡ source.parent → Shows after (with_body (heap_of mid) place.0 (λ (b : Body). whole_body w))
    → Shows after (raised n at.owner w (heap_of old))
raised_so old mid after n at above conversion source left place w is shown =
    let parent : SlotId = source.parent in
    subst (Shows after)
    (ap (λ (p : SlotId). with_body (heap_of mid) p.0 (λ (b : Body). whole_body w)) is
    ∙ ap (λ (heap : Heap). with_body heap parent.0 (λ (b : Body). whole_body w))
    (shown_is mid (without (heap_of old) n at.owner) left ∙ ap (without (heap_of old) n) source.owner)
    ∙ with_body_twice (with_slot (heap_of old) n None) parent.0 (unlinked n 0) (λ (b : Body). whole_body w)
    ∙ ap (λ (o : FrameOwner). raised n o w (heap_of old)) (sym source.owner)) shown

-- What its hook makes of this value, for a place of the shape `target`, with what was found over it.
module _ (means : Meanings) (table : Table) (plan : Plan) (old : List Slot) (n : ℕ) (over : Over) (o : IsOver (heap_of old) n over)
    (target : ℕ) (shape : shape_of plan over.node ≡ target) (value : Val)
    (held : IfInUse old n (λ (at : Node). value_of at.body ≡ Some value)) where
  held_here : value_of o.at.body ≡ Some value
  held_here = so_of (heap_of old n) o.at (λ (at : Node). value_of at.body ≡ Some value) o.here held

  -- so it is of the place above, the conversion and the value of any source
  of_source : (So : ℕ → Conversion → Val → Type 0) → So target (as_conversion over.conversion) value → (above : Node) (conversion : Conversion) (v : Val)
      → IsSource (heap_of old) n o.at above conversion → value_of o.at.body ≡ Some v → So (shape_of plan above.node) conversion v
  of_source So so above conversion v source is =
      subst (λ (s : ℕ). So s conversion v) (sym shape ∙ ap (shape_of plan) (same_node (heap_of old) n over o above conversion source))
      (subst (λ (c : Conversion). So target c v) (same_conversion (heap_of old) n over o above conversion source)
      (subst (So target (as_conversion over.conversion)) (same_Some value v (sym held_here ∙ is)) so))

  pub refused_so : (kind : ReflectErrorKind) → IsRefused means table target (as_conversion over.conversion) value kind
      → IfInUse old n (λ (at : Node). OfSource (heap_of old) n at (λ above conversion v.
      IsRefused means table (shape_of plan above.node) conversion v kind))
  refused_so kind told =
      of_node (heap_of old n) o.at
      (λ (at : Node). OfSource (heap_of old) n at (λ above conversion v. IsRefused means table (shape_of plan above.node) conversion v kind))
      o.here (of_source (λ s conversion v. IsRefused means table s conversion v kind) told)

  pub converted_so : (mid after : List Slot) (made : Val)
      → IfInUse old n (λ (at : Node). Shows mid (without (heap_of old) n at.owner))
      → means.convert table over.conversion.hook.0 target value ≡ gives made
      → Shows after (with_body (heap_of mid) over.place.0 (λ (b : Body). whole_body made))
      → IfInUse old n (λ (at : Node). OfSource (heap_of old) n at (λ above.
      IsConverted means table old after n at.owner (shape_of plan above.node)))
  converted_so mid after made left given shown =
      of_node (heap_of old n) o.at
      (λ (at : Node). OfSource (heap_of old) n at (λ above. IsConverted means table old after n at.owner (shape_of plan above.node))) o.here
      (λ above conversion v source is. record {
        result = made;
        meant =
            of_source (λ s conversion v. means.convert table conversion.hook s v ≡ gives made) given above conversion v source is;
        raised =
            raised_so old mid after n o.at above conversion source
            (so_of (heap_of old n) o.at (λ (at : Node). Shows mid (without (heap_of old) n at.owner)) o.here left) over.place made
            (same_place (heap_of old) n over o above conversion source) shown;
      })
