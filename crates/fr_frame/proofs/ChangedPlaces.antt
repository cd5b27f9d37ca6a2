-- A place that is changed in its slot.
use Rattle.std.proofs.Common.{◌≡◌, ◌≢◌, ℕ, ◌+◌, Bool, List, Option, Some, None, IsSomeAnd, slice_get, set, option_map, refl, sym, ◌∙◌, ap, subst}
use Rattle.fr_frame.specs.Common.{Becomes, Body, Heap, IfInUse, KeepsReserved, Node, PartialValue, Place, Shows, Slot, body_occurs, body_of, heap_of, node_in, node_of, option_and_then, slots_occur, with_body, with_mark, with_slot}
use Rattle.fr_frame.proofs.HeapLaws.{changed, occur_set, shows_set, with_same}
use Rattle.fr_values.specs.SliceLaws.{set_gets, set_keeps}

-- the place with another partial value
abbrev pub with_partial : Place → PartialValue → Place
with_partial at partial = record at { partial = partial }

pub of_node : (found : Option Node) (at : Node) (So : Node → Type 0) → found ≡ Some at → So at → IsSomeAnd found So
of_node found at So e so = subst (λ (o : Option Node). IsSomeAnd o So) (sym e) so

-- the place that is found, where so it is of one
pub found_so : (found : Option Node) (So : Node → Type 0) → IsSomeAnd found So → (at : Node) × (found ≡ Some at) × So at
found_so (Some at) So h = (at, refl, h)
found_so None So h = absurd h

pub in_use_so : (slots : List Slot) (n : ℕ) (P Q : Node → Type 0) → ((at : Node) → P at → Q at) → IfInUse slots n P → IfInUse slots n Q
in_use_so slots n P Q so h = let at = found_so (heap_of slots n) P h in of_node (heap_of slots n) at.0 Q at.1 (so at.0 at.2)

module _ (slots : List Slot) (n : ℕ) (at : Place) (was : slice_get slots n ≡ Some (Slot.Used at)) where
  here : heap_of slots n ≡ Some (node_of at)
  here = ap (option_and_then node_in) was

  pub of_place : (So : Node → Type 0) → So (node_of at) → IfInUse slots n So
  of_place So so = of_node (heap_of slots n) (node_of at) So here so

  pub changes : (now : Place) → Shows (set slots n (Slot.Used now)) (with_slot (heap_of slots) n (Some (node_of now)))
  changes now = shows_set slots n (Slot.Used at) (Slot.Used now) was

  pub becomes : (partial : PartialValue) → Becomes slots (set slots n (Slot.Used (with_partial at partial))) n (node_of at) (body_of partial)
  becomes partial = changes (with_partial at partial)

  -- what is so of the place with another partial value is so of what is then in the slot
  pub of_with_partial : (partial : PartialValue) (So : Node → Type 0) → So (node_of (with_partial at partial))
      → IfInUse (set slots n (Slot.Used (with_partial at partial))) n So
  of_with_partial partial So so =
      of_node (heap_of (set slots n (Slot.Used (with_partial at partial))) n) (node_of (with_partial at partial)) So
      (ap (option_and_then node_in) (set_gets slots n (Slot.Used at) (Slot.Used (with_partial at partial)) was)) so

  pub marks : (stored : Bool)
      → Shows (set slots n (Slot.Used (record at { stored = stored }))) (with_mark (heap_of slots) n stored)
  marks stored m =
      changes (record at { stored = stored }) m
      ∙ sym (ap (λ (x : Option Node). with_slot (heap_of slots) n (option_map (λ (y : Node). record y { stored = stored }) x) m) here)

  pub shows : (partial : PartialValue) (change : Body → Body) → body_of partial ≡ change (body_of at.partial)
      → Shows (set slots n (Slot.Used (with_partial at partial))) (with_body (heap_of slots) n change)
  shows partial change is m =
      becomes partial m ∙ ap (λ (b : Body). with_slot (heap_of slots) n (Some (record (node_of at) { body = b })) m) is
      ∙ sym (ap (λ (x : Option Node). with_slot (heap_of slots) n (changed change x) m) here)

  pub shows_same : (partial : PartialValue) → body_of partial ≡ body_of at.partial
      → Shows (set slots n (Slot.Used (with_partial at partial))) (heap_of slots)
  shows_same partial is m =
      becomes partial m ∙ ap (λ (b : Body). with_slot (heap_of slots) n (Some (record (node_of at) { body = b })) m) is
      ∙ ap (λ (x : Option Node). with_slot (heap_of slots) n x m) (sym here) ∙ ap (λ (heap : Heap). heap m) (with_same (heap_of slots) n)

  pub occur_change : (partial : PartialValue) (t : ℕ)
      → slots_occur (set slots n (Slot.Used (with_partial at partial))) t + body_occurs (body_of at.partial) t
      ≡ slots_occur slots t + body_occurs (body_of partial) t
  occur_change partial t = occur_set slots n (Slot.Used at) (Slot.Used (with_partial at partial)) t was

-- a slot that is kept for a place stays so where another changes
pub keeps_reserved : (slots : List Slot) (n : ℕ) (was : Place) (now : Slot) → slice_get slots n ≡ Some (Slot.Used was)
    → KeepsReserved slots (set slots n now)
keeps_reserved slots n was now e m reserved = set_keeps slots n now m other ∙ reserved
  where
    other : m ≢ n
    other same = let no : Some Slot.Reserved ≡ Some (Slot.Used was) = sym reserved ∙ ap (slice_get slots) same ∙ e in cc
