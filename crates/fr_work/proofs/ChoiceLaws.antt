-- Which variant is selected, and what that means.
use Rattle.std.proofs.Common.{◌≡◌, ℕ, true, false, List, Option, Some, None, Ok, refl, sym, ◌∙◌, ap, subst}
use Rattle.fr_work.specs.Common.{Call, Change, ComesTo, Def, EnumDef, Expected, IsChecked, IsFullAs, IsIn, IsPlanOf, IsRefused, IsSound, LookupPathsAgree, LookupsAgree, Meanings, Move, Operation, Parts, Plan, ReflectErrorKind, Sees, ShapeId, Site, State, Table, Tree, VariantDef, as_fields, at_shape, def_of, plan_in, shape_at, site, step, unless_refused, variants_of}
use Rattle.fr_shape.specs.Plannable.{Reached}
use Rattle.fr_model.specs.Step.{select_found, selects}
use Rattle.fr_model.specs.Variants.{is_enum}
use Rattle.fr_plan.specs.PlanLaws.{PlansAreComplete}
use Rattle.fr_refusals.specs.declared.choosing.Chosen.{Chosen}
use Rattle.fr_refusals.specs.Choosing.{found_refusal}
use Rattle.fr_work.specs.SelectingCalls.{Selects}
use Rattle.fr_work.proofs.DecidingLaws.{admitted, cannot, is_not, remains}
use Rattle.fr_moves.specs.PlaceLaws.{here_along}
use Rattle.fr_work.proofs.ReachedShapes.{node_reached}
use Rattle.fr_work.proofs.SeenLaws.{def_seen}
use Rattle.fr_plan.specs.ReachLaws.{NodesAreReached, ReachedHaveNodes}

abbrev any_of : Option ℕ → ℕ
any_of (Some k) = k
any_of None = 0

-- what was found is selected, unless it is refused
select_unless : (table : Table) (s : ℕ) (state : State) (found : Option ℕ) (unknown : Operation)
    → select_found table s state found unknown
    ≡ unless_refused (at_shape s (found_refusal (def_of table s) unknown found)) (selects table s state (any_of found))
select_unless table s state (Some k) unknown = refl
select_unless table s state None unknown = refl

module _ {site : Site} {table : Table} {shape : ShapeId} {seen : Tree} (at : Sees site table shape seen) {call : Call}
    {find : List VariantDef → Option ℕ} {unknown : Operation} (says : Selects site call find unknown) where
  -- the place is no enum
  pub no_enum : is_enum (def_of table shape.0) ≡ false → IsRefused site call (ReflectErrorKind.WasNotA Expected.Enum shape)
  no_enum other =
      let no = ap is_enum (sym (def_seen at)) ∙ other in
      is_not at call Expected.Enum (λ hooks. says.means hooks ∙ rw no refl)

  -- of an enum, where this was found
  module _ (enumeration : EnumDef) (is : def_of table shape.0 ≡ Def.Enum enumeration) (found : Option ℕ)
      (found_is : found ≡ find (variants_of (def_of site.shapes (shape_at site)))) where
    def_here : def_of site.shapes (shape_at site) ≡ Def.Enum enumeration
    def_here = sym (def_seen at) ∙ is

    means_so : (hooks : Meanings) → step hooks site.shapes site.root site.state call
        ≡ unless_refused (at_shape (shape_at site) (found_refusal (def_of site.shapes (shape_at site)) unknown found))
        (selects site.shapes (shape_at site) site.state (any_of found))
    means_so hooks =
        let enum : is_enum (def_of site.shapes (shape_at site)) ≡ true = ap is_enum def_here in
        says.means hooks
        ∙ rw enum (ap (λ (f : Option ℕ). select_found site.shapes (shape_at site) site.state f unknown) (sym found_is))
        ∙ select_unless site.shapes (shape_at site) site.state found unknown

    refusal_here : found_refusal (Def.Enum enumeration) unknown found
        ≡ found_refusal (def_of site.shapes (shape_at site)) unknown found
    refusal_here = ap (λ (def : Def). found_refusal def unknown found) (sym def_here)

    pub unselected : (operation : Operation) → Some operation ≡ found_refusal (Def.Enum enumeration) unknown found
        → IsRefused site call (ReflectErrorKind.OperationFailed shape operation)
    unselected operation refused = cannot at call _ operation means_so (refused ∙ refusal_here)

    pub selected : (chosen : Chosen) → found ≡ Some chosen.variant
        → IsFullAs (Def.Enum enumeration) (as_fields (Some chosen.variant)) chosen.count
        → None ≡ found_refusal (Def.Enum enumeration) unknown found → ComesTo site call (Move.Stay (Change.Select chosen))
    selected chosen one full may =
        remains site call (Change.Select chosen) says.nothing (λ t. refl)
        (subst (λ (def : Def). IsFullAs def (as_fields (Some chosen.variant)) chosen.count) (sym def_here) full) (λ hooks.
        means_so hooks ∙ admitted (ap (at_shape (shape_at site)) (may ∙ refusal_here))
        ∙ ap (λ (f : Option ℕ). Ok (selects site.shapes (shape_at site) site.state (any_of f))) one)

-- Looking up in the plan: the shape of the place at which a builder works is one that the plan has.

module _ (complete : PlansAreComplete) (agree : LookupsAgree) (paths : LookupPathsAgree) (nodes_reached : NodesAreReached)
    (nodes : ReachedHaveNodes) {parts : Parts} (sound : IsSound parts)
    {seen : Site} (view_is : site parts ≡ seen) (s : ℕ) (shape_is : s ≡ shape_at seen) where
  reached : Reached parts.frames.table.now parts.frames.root.0 s
  reached =
      let ready = sound.at_work.ready in
      subst (λ (n : ℕ). Reached parts.frames.table.now parts.frames.root.0 n) (ap shape_at view_is ∙ sym shape_is)
      (node_reached complete parts.frames.table.now parts.frames.root (plan_in parts.plan) ready.checked ready.inside ready.planned _ _
      (here_along agree paths nodes_reached nodes parts.frames.table.now parts.frames.root (plan_in parts.plan) parts.frames.slots parts.frames.stack
      ready).node_is)

  -- what its lookup tells of the definition that the table has there
  abbrev Tells : {A : Type 0} → (Def → A) → A → Plan → Parts → Type 0
  Tells f found plan there =
      (root : ShapeId) → IsChecked there.frames.table.now → IsIn there.frames.table.now root.0
      → IsPlanOf there.frames.table.now root plan → Reached there.frames.table.now root.0 s
      → found ≡ f (def_of there.frames.table.now s)

  -- is true of the definition at the place
  pub looked_up : {A : Type 0} (f : Def → A) (found : A) (one other : Parts) (plan : Plan) → one ≡ parts → other ≡ parts
      → plan ≡ plan_in one.plan → Tells f found plan other → found ≡ f (def_of seen.shapes (shape_at seen))
  looked_up f found one other plan one_is other_is plan_is told =
      let ready = sound.at_work.ready in
      subst (Tells f found plan) other_is told parts.frames.root ready.checked ready.inside
      (subst (λ (p : Plan). IsPlanOf parts.frames.table.now parts.frames.root p)
      (sym (plan_is ∙ ap (λ (p : Parts). plan_in p.plan) one_is)) ready.planned) reached
      ∙ ap (λ (n : ℕ). f (def_of parts.frames.table.now n)) shape_is
      ∙ ap (λ (now : Site). f (def_of now.shapes (shape_at seen))) view_is
