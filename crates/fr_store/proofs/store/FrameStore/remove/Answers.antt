use Rattle.std.proofs.Common.{◌≢◌, ◌↔◌, ℕ, List, Contains, set, sym, subst, arith}
use Rattle.fr_store.specs.Common.{slots_of}
use Rattle.fr_store.proofs.NumbersInLists.{slots_front, slots_less, slots_rest_front, slots_rest_less}
use Rattle.fr_store.proofs.store.FrameStore.remove.Goals as goal

pub invariant_of-self : goal.invariant_of-self
invariant_of-self c =
    slots_less c.self.inside.places.items c.pop.new.self.items c.self.inside.positions.items c.in-Some.last c.args.place.0
    c.index.result.now c.in-Some.ensures.items c.self.invariant
    (subst (λ (l : List ℕ). Contains l c.args.place.0) (sym c.self.view_is) c.requires) c.index.ensures (omega arith)

pub invariant_of-self-else-at-len : goal.invariant_of-self-else-at-len
invariant_of-self-else-at-len c =
    slots_front c.self.inside.places.items c.pop.new.self.items c.self.inside.positions.items c.in-Some.last c.args.place.0
    c.index.result.now c.in-Some.ensures.items c.self.invariant
    (subst (λ (l : List ℕ). Contains l c.args.place.0) (sym c.self.view_is) c.requires) c.index.ensures

pub returns-then-at-len : goal.returns-then-at-len
returns-then-at-len c = record {
  rest = λ n. subst (λ (l : List ℕ).
      Contains (slots_of (set c.pop.new.self.items c.index.result.now c.in-Some.last)) n ↔ (Contains l n × (n ≢ c.args.place.0)))
      c.self.view_is
      (slots_rest_less c.self.inside.places.items c.pop.new.self.items c.self.inside.positions.items c.in-Some.last c.args.place.0
      c.index.result.now c.in-Some.ensures.items c.self.invariant
      (subst (λ (l : List ℕ). Contains l c.args.place.0) (sym c.self.view_is) c.requires) c.index.ensures (omega arith) n);
}

pub returns-else-at-len : goal.returns-else-at-len
returns-else-at-len c = record {
  rest = λ n.
      subst (λ (l : List ℕ). Contains (slots_of c.pop.new.self.items) n ↔ (Contains l n × (n ≢ c.args.place.0))) c.self.view_is
      (slots_rest_front c.self.inside.places.items c.pop.new.self.items c.self.inside.positions.items c.in-Some.last c.args.place.0
      c.index.result.now c.in-Some.ensures.items c.self.invariant
      (subst (λ (l : List ℕ). Contains l c.args.place.0) (sym c.self.view_is) c.requires) c.index.ensures (omega arith) n);
}
