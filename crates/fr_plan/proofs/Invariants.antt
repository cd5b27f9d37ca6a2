-- The invariants of all shapes that a root reaches are those of its plan's nodes.
use Rattle.std.proofs.Common.{◌≡◌, refl, sym, ap, ◌∙◌, true≢false, ℕ, zero, suc, Bool, true, false, List, [], ◌∷◌, slice_get, Option, Some, None, is_some, ◌||◌}
use Rattle.std.specs.List.{list_any}
use Rattle.std.specs.Option.{option_map_or}
use Rattle.fr_shape.specs.declared.shape.Shape.{Shape}
use Rattle.fr_shape.specs.declared.shape.ShapeId.{ShapeId}
use Rattle.fr_shape.specs.declared.shape.HookId.{HookId}
use Rattle.fr_shape.specs.Checked.{IsChecked}
use Rattle.fr_shape.specs.Invariants.{HasNoInvariant}
use Rattle.fr_shape.specs.Look.{Table, IsIn}
use Rattle.fr_shape.specs.Plannable.{Reached}
use Rattle.fr_plan.specs.declared.outlines.Outline.{Outline}
use Rattle.fr_plan.specs.Invariants.{has_invariant, HasInvariant}
use Rattle.fr_plan.specs.PlanLaws.{HasOwn, IsComplete}
use Rattle.fr_plan.specs.TypePlan.{Plan, IsPlanOf}
use Rattle.fr_plan.proofs.Wholeness.Reaching.{reached_has_own}
use Rattle.fr_plan.proofs.Wholeness.Whole.{plans_are_complete}

-- an element that passes is one among them
any_at : {X : Type 0} (p : X → Bool) (xs : List X) (i : ℕ) (x : X) → slice_get xs i ≡ Some x → p x ≡ true → list_any p xs ≡ true
any_at p [] i x is e = cc
any_at p (y ∷ ys) zero x is e =
    ap (λ b. b || list_any p ys) (ap (λ (found : Option _). option_map_or p found true) is ∙ e)
any_at p (y ∷ ys) (suc i) x is e = by_head (p y) (any_at p ys i x is e)
  where
    by_head : (b : Bool) → list_any p ys ≡ true → (b || list_any p ys) ≡ true
    by_head true later = refl
    by_head false later = later

-- where any passes, there is one that does
record Passing {X : Type 0} (p : X → Bool) (xs : List X) : Type 0 where
  i : ℕ
  x : X
  here : slice_get xs i ≡ Some x
  passes : p x ≡ true

one_of : {X : Type 0} (p : X → Bool) (xs : List X) → list_any p xs ≡ true → Passing p xs
one_of p [] e = cc
one_of p (y ∷ ys) e = by_head (p y) refl e (one_of p ys)
  where
    by_head : (b : Bool) → p y ≡ b → (b || list_any p ys) ≡ true → (list_any p ys ≡ true → Passing p ys) → Passing p (y ∷ ys)
    by_head true is e later = record { i = 0; x = y; here = refl; passes = is }
    by_head false is e later =
        let found = later e in
        record { i = suc found.i; x = found.x; here = found.here; passes = found.passes }

module _ (table : Table) (root : ShapeId) (plan : Plan) (checked : IsChecked table) (inside : IsIn table root.0) (is : IsPlanOf table root plan) where
  complete : IsComplete table root (record { walk = plan.walk; node = plan.root })
  complete = plans_are_complete table root (record { walk = plan.walk; node = plan.root }) checked inside is.built

  -- where no node's shape has an invariant, no shape that the root reaches has one
  pub none_reached : plan.has_invariants ≡ false → HasNoInvariant table root.0
  none_reached none id shape reached here = by_hook shape.invariant refl
    where
      own : HasOwn plan.walk (record { 0 = id })
      own = reached_has_own table root (record { walk = plan.walk; node = plan.root }) complete reached

      has : has_invariant table own.own.outline ≡ is_some shape.invariant
      has =
          ap (λ (found : Option Shape). option_map_or (λ (shape : Shape). is_some shape.invariant) found false)
          (ap (λ (i : ShapeId). slice_get table i.0) own.own.shape ∙ here)

      by_hook : (hook : Option HookId) → shape.invariant ≡ hook → hook ≡ None
      by_hook None asked = refl
      by_hook (Some hook) asked =
          let any = any_at (has_invariant table) plan.walk.nodes own.node.0 own.own.outline own.own.here (has ∙ ap is_some asked) in
          absurd (true≢false (sym any ∙ sym is.invariants ∙ none))

  -- and where one has, the root reaches it
  pub one_reached : plan.has_invariants ≡ true → HasInvariant table root.0
  one_reached some =
      let one = one_of (has_invariant table) plan.walk.nodes (sym is.invariants ∙ some) in
      by_shape one.x (slice_get table one.x.shape.0) refl one.passes (complete.nodes one.i one.x one.here).reached
    where
      by_shape : (outline : Outline) (found : Option Shape) → slice_get table outline.shape.0 ≡ found
          → has_invariant table outline ≡ true → Reached table root.0 outline.shape.0 → HasInvariant table root.0
      by_shape outline (Some shape) here has reached = record {
        id = outline.shape.0;
        shape = shape;
        reached = reached;
        here = here;
        has =
            sym (ap (λ (found : Option Shape). option_map_or (λ (shape : Shape). is_some shape.invariant) found false) here)
            ∙ has;
      }
      by_shape outline None here has reached =
          absurd (true≢false
          (sym has ∙ ap (λ (found : Option Shape). option_map_or (λ (shape : Shape). is_some shape.invariant) found false) here))
