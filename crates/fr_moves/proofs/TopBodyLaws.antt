-- The body of the place on top, by what stands there.
use Rattle.std.proofs.Common.{◌≡◌, ℕ, false, List, Option, Some, IsSome, is_some, sym, ◌∙◌, ap, subst}
use Rattle.fr_moves.specs.Common.{AtTop, Body, Def, IsOpen, IsSomeAnd, IsWholeWith, MayOpen, MayOpenAs, Node, Plan, Plot, Slot, Tracker, Tree, Val, body_in, open_top, takes_memory, tree_here, tree_in, value_of, whole, whole_plot}
use Rattle.fr_moves.specs.PlaceLaws.{here_found, plot_here}

parts_plot : (tracker : Tracker) (plot : Plot) → IsWholeWith tracker (tree_in plot) → MayOpen tracker (body_in plot)
parts_plot tracker (whole_plot v) h = h
parts_plot tracker _ h = absurd h

value_plot : (plot : Plot) (v : Val) → tree_in plot ≡ whole v → plot ≡ whole_plot v
value_plot (whole_plot w) v e = let same : w ≡ v = cc in ap whole_plot same
value_plot _ v e = cc

may_plot : (def : Def) (tracker : Tracker) (count : ℕ) (plot : Plot) → MayOpenAs def tracker count (tree_in plot)
    → MayOpen tracker (body_in plot)
may_plot def tracker count (whole_plot v) may = may.1
may_plot def tracker count _ may = tt

-- the body on top, of which this holds
pub top_body : (plan : Plan) (slots : List Slot) (stack : List ℕ) (shown : IsOpen plan slots stack) (So : Body → Type 0)
    → AtTop slots stack (λ (at : Node). So at.body) → So (body_in (open_top shown).plot)
top_body plan slots stack shown So so =
    let top = open_top shown in
    subst (λ (found : Option Node). IsSomeAnd found (λ (at : Node). So at.body)) top.here (so top.slot (_, top.last))

module _ {plan : Plan} {slots : List Slot} {stack : List ℕ} (shown : IsOpen plan slots stack) where
  -- what holds of each plot holds of what stands there
  pub by_plot : (So : Tree → Type 0) → ((plot : Plot) → So (tree_in plot)) → So (tree_here slots stack)
  by_plot So each = subst So (plot_here plan slots stack shown) (each (open_top shown).plot)

  -- where this holds of what stands there, so it is of the body on top
  pub body_here : (So : Tree → Type 0) (Of : Body → Type 0) → ((plot : Plot) → So (tree_in plot) → Of (body_in plot))
      → So (tree_here slots stack) → AtTop slots stack (λ (at : Node). Of at.body)
  body_here So Of each so n last =
      subst (λ (found : Option Node). IsSomeAnd found (λ (at : Node). Of at.body)) (sym (here_found plan slots stack shown n
      last)) (each (open_top shown).plot (subst So (sym (plot_here plan slots stack shown)) so))

  pub may_open_with : (tracker : Tracker) → IsWholeWith tracker (tree_here slots stack) → AtTop slots stack (λ (at : Node). MayOpen tracker at.body)
  may_open_with tracker = body_here (IsWholeWith tracker) (MayOpen tracker) (parts_plot tracker)

  pub may_open_here : (def : Def) (tracker : Tracker) (count : ℕ) → MayOpenAs def tracker count (tree_here slots stack)
      → AtTop slots stack (λ (at : Node). MayOpen tracker at.body)
  may_open_here def tracker count = body_here (MayOpenAs def tracker count) (MayOpen tracker) (may_plot def tracker count)

  module _ (v : Val) (is : tree_here slots stack ≡ whole v) where
    whole_top : (open_top shown).plot ≡ whole_plot v
    whole_top = value_plot (open_top shown).plot v (plot_here plan slots stack shown ∙ is)

    -- so it is of that value
    pub of_value : (So : Val → Type 0) → AtTop slots stack (λ (at : Node). (w : Val) → value_of at.body ≡ Some w → So w) → So v
    of_value So so =
        top_body plan slots stack shown (λ (body : Body). (w : Val) → value_of body ≡ Some w → So w) so v
        (ap (λ (plot : Plot). value_of (body_in plot)) whole_top)

    -- and it is handed over without memory
    pub of_unboxed : (So : Type 0) → AtTop slots stack (λ (at : Node). takes_memory at.body ≡ false → So) → So
    of_unboxed So so =
        top_body plan slots stack shown (λ (body : Body). takes_memory body ≡ false → So) so
        (ap (λ (plot : Plot). takes_memory (body_in plot)) whole_top)

    pub holds_value : AtTop slots stack (λ (at : Node). IsSome (value_of at.body))
    holds_value =
        body_here (λ (t : Tree). t ≡ whole v) (λ (body : Body). IsSome (value_of body))
        (λ plot same. ap (λ (plot : Plot). is_some (value_of (body_in plot))) (value_plot plot v same)) is
