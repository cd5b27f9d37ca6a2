use Rattle.std.proofs.Common.{◌≡◌, ◌⊎◌, inl, inr, set, subst, arith}
use Rattle.std.proofs.lemmas.Result.{on_ok_weaker, IfErr-weaker}
use Rattle.fr_frame.specs.Common.{Becomes, Body, IsClosedAt, Node, ReflectErrorKind, Shows, Slot, body_of, column_of, defaulted, heap_of, node_of, shape_of}
use Rattle.fr_frame.proofs.ChangedPlaces.{with_partial, of_place, becomes, shows_same, occur_change}
use Rattle.fr_frame.proofs.places.SlotId.fill_by.Goals as goal

pub returns-clause-filled : goal.returns-clause-filled
returns-clause-filled g c =
    let slots = c.args.slots.now in
    let n = c.args.self.0 in
    let place = c.place_mut-place.result.now in
    let was = c.place_mut-place.ensures.value in
    let partial = c.fill_partial.new.partial in
    let after = set slots n (Slot.Used (with_partial place partial)) in
    on_ok_weaker c.fill_partial.result (λ filled. of_place slots n place was (λ (at : Node).
    Becomes slots after n at (defaulted (column_of c.args.column) c.args.table.now (shape_of c.args.plan.now at.node) at.body))
    (subst (λ (body : Body). Becomes slots after n (node_of place) body) filled (becomes slots n place was partial)))
    c.fill_partial.ensures.filled

pub returns-clause-unchanged : goal.returns-clause-unchanged
returns-clause-unchanged g c =
    let slots = c.args.slots.now in
    let n = c.args.self.0 in
    let place = c.place_mut-place.result.now in
    let partial = c.fill_partial.new.partial in
    IfErr-weaker c.fill_partial.result _ _ (λ kind either. elim either as (λ _. (kind ≡ ReflectErrorKind.OutOfMemory)
    ⊎ Shows (set slots n (Slot.Used (with_partial place partial))) (heap_of slots)) [
      | inl memory ↦ inl memory
      | inr same ↦ inr (shows_same slots n place c.place_mut-place.ensures.value partial same)
    ]) c.fill_partial.ensures.unchanged

pub returns-clause-closed : goal.returns-clause-closed
returns-clause-closed g c =
    of_place c.args.slots.now c.args.self.0 c.place_mut-place.result.now c.place_mut-place.ensures.value
    (IsClosedAt c.args.slots.now
    (set c.args.slots.now c.args.self.0 (Slot.Used (with_partial c.place_mut-place.result.now c.fill_partial.new.partial))) c.args.self.0)
    (record {
      body = body_of c.fill_partial.new.partial;
      closed = c.fill_partial.ensures.closed;
      tokens = c.fill_partial.ensures.tokens;
      becomes =
          becomes c.args.slots.now c.args.self.0 c.place_mut-place.result.now c.place_mut-place.ensures.value
          c.fill_partial.new.partial;
    })

pub returns-clause-tokens : goal.returns-clause-tokens
returns-clause-tokens g c t =
    let change = occur_change c.args.slots.now c.args.self.0 c.place_mut-place.result.now c.place_mut-place.ensures.value
    c.fill_partial.new.partial t in
    omega (arith, c.fill_partial.ensures.tokens t)
