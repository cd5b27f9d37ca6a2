use Rattle.std.proofs.Common.{ℕ, List, Contains, sym, subst, arith}
use Rattle.fr_store.specs.Common.{slots_of}
use Rattle.fr_store.proofs.NumbersInLists.{indexed_still, slots_more}
use Rattle.fr_store.proofs.store.FrameStore.append.Goals as goal

pub invariant_of-self-2 : goal.invariant_of-self-2
invariant_of-self-2 c =
    slots_more c.self.inside.places.items c.push.new.self.items c.reach.new.positions.items (record { slot = c.args.place; parent = 0; number = 0; order = 0 }) c.len-at.result
    c.in_ok-push.ensures.items (omega arith)
    (indexed_still (slots_of c.self.inside.places.items) c.self.inside.positions.items c.reach.new.positions.items
    c.reach.ensures.kept c.self.invariant) (subst (λ (l : List ℕ). Contains l c.args.place.0 → ⊥) (sym c.self.view_is) c.requires)
    c.in_ok-reach.ensures.reached
