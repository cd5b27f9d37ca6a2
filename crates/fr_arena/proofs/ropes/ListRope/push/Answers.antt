use Rattle.std.proofs.Common.{◌≡◌, ◌-◌, true, false, length, get_or, set, rules, arith, sym, ap, ◌∙◌}
use Rattle.fr_arena.specs.Chunks.{is_open}
use Rattle.fr_arena.proofs.Chunks.{Grown, room_in_last, grown_last, grown_new}
use Rattle.fr_arena.proofs.ropes.ListRope.push.Goals as goal

pub push_reserved-requires : goal.push_reserved-requires
push_reserved-requires g c =
    let chunks = c.self.inside.chunks.items in
    let last = c.index_mut.result.now in
    let unfilled : is_open c.self.inside.chunk_capacity chunks ≡ true = sym (ap (is_open c.self.inside.chunk_capacity) c.as_slice.ensures.value) ∙ sym c.has_room.ensures ∙ c.if-has_room.true in
    let at : c.len-last.result - 1 ≡ length chunks - 1 = search rules in
    let room = room_in_last c.self.inside.chunk_capacity c.self.invariant.chunked c.self.inside.len chunks last c.self.invariant.filled unfilled (c.index_mut.ensures.value ∙ ap (λ k. get_or chunks k last) at) in
    search (room, rules)

last_grown : (g : _) (c : goal.After-self-then-has_room-1 g) → Grown c.self.inside.chunk_capacity c.self.invariant.chunked c.self.inside.len c.self.inside.initialized (set c.self.inside.chunks.items (c.len-last.result - 1) c.push_reserved.new.self) c.args.self.now c.args.item
last_grown g c =
    let chunks = c.self.inside.chunks.items in
    let unfilled : is_open c.self.inside.chunk_capacity chunks ≡ true = sym (ap (is_open c.self.inside.chunk_capacity) c.as_slice.ensures.value) ∙ sym c.has_room.ensures ∙ c.if-has_room.true in
    let at : c.len-last.result - 1 ≡ length chunks - 1 = search rules in
    grown_last c.self.inside.chunk_capacity c.self.invariant.chunked c.self.inside.len c.self.inside.initialized (c.len-last.result - 1) chunks c.index_mut.result.now c.push_reserved.new.self c.args.self.now c.args.item
    c.self.view_is c.self.invariant.filled c.self.invariant.counted unfilled at c.index_mut.ensures.value c.push_reserved.ensures.items c.push_reserved.ensures.capacity

pub invariant_of-self : goal.invariant_of-self
invariant_of-self g c =
    let after = last_grown g c in
    record { chunked = c.self.invariant.chunked; filled = after.filled; counted = after.counted; marked = omega arith }

pub returns-then-has_room-clause-appended : goal.returns-then-has_room-clause-appended
returns-then-has_room-clause-appended g c = (last_grown g c).view

new_grown : (g : _) (c : goal.After-self-2-1 g) → Grown c.self.inside.chunk_capacity c.self.invariant.chunked c.self.inside.len c.self.inside.initialized c.push_chunk.new.chunks.items c.args.self.now c.args.item
new_grown g c =
    let full : is_open c.self.inside.chunk_capacity c.self.inside.chunks.items ≡ false = sym (ap (is_open c.self.inside.chunk_capacity) c.as_slice.ensures.value) ∙ sym c.has_room.ensures ∙ c.if-has_room.false in
    grown_new c.self.inside.chunk_capacity c.self.invariant.chunked c.self.inside.len c.self.inside.initialized c.self.inside.chunks.items c.push_chunk.new.chunks.items c.args.self.now c.args.item
    c.self.view_is c.self.invariant.filled c.self.invariant.counted full c.in_ok-push_chunk.ensures.appended

pub invariant_of-self-2 : goal.invariant_of-self-2
invariant_of-self-2 g c =
    let after = new_grown g c in
    record { chunked = c.self.invariant.chunked; filled = after.filled; counted = after.counted; marked = omega arith }

pub returns-clause-appended : goal.returns-clause-appended
returns-clause-appended g c = (new_grown g c).view
