use Rattle.std.proofs.Common.{◌≡◌, false, sym, refl, ◌∙◌, ap, subst}
use Rattle.fr_work.specs.Common.{IsSound, Site, is_begun_conversion, is_begun_dynamic, is_root, is_set, site, top_place, Plan, def_of, own_tree, body_of}
use Rattle.fr_model.specs.Step.{is_dynamic_part, is_set_item, is_source_place}
use Rattle.fr_work.proofs.OwnerLaws.{dynamic_outlined, never_free, never_root, set_outlined, source_outlined, told, above_inside, ends_so, field_here, field_outlined, node_told}
use Rattle.fr_moves.specs.PlaceLaws.{none_found}
use Rattle.fr_work.proofs.work.Work.place_above.Goals as goal
use Rattle.fr_work.proofs.work.Work.place_above.Goals.{After-core-plan, After-deref-parts}
use Rattle.fr_moves.specs.Underway.{IsReady}
use Rattle.fr_model.specs.Tree.{cursor_field, field_below}

sound : (c : After-deref-parts) → IsSound c.deref-parts.result.now
sound c = subst IsSound (sym c.deref-parts.ensures) c.self.invariant

seen : (c : After-deref-parts) → site c.deref-parts.result.now ≡ c.args.self.now
seen c = ap site c.deref-parts.ensures ∙ c.self.view_is

below : (c : After-deref-parts) → is_root (top_place c.deref-parts.result.now.frames) ≡ false
below c = ap (λ (s : Site). is_root s.state.cursor) (seen c) ∙ c.requires.below

pub unreachable-requires-in_default-place : goal.unreachable-requires-in_default-place
unreachable-requires-in_default-place c =
    none_found _ _ _ (sound (goal.at.unreachable-requires-in_default-place c).After-deref-parts).at_work.ready.shown c.in-Some.top.0
    c.in-Some.ensures.last c.in_default-place.ensures.place

pub unreachable-requires-in_default-owner : goal.unreachable-requires-in_default-owner
unreachable-requires-in_default-owner c =
    let at = (goal.at.unreachable-requires-in_default-owner c).After-deref-parts in
    never_root (sound at).at_work.ready.shown c.in-Some.ensures.last c.in-Some-place.place.now c.in-Some-place.ensures.place (below at) c.in_default-owner.is

pub unreachable-requires-in-None : goal.unreachable-requires-in-None
unreachable-requires-in-None c =
    let at = (goal.at.unreachable-requires-in-None c).After-deref-parts in
    never_free (sound at).at_work.ready.shown c.in-Some.ensures.last c.in-Some-place.place.now c.in-Some-place.ensures.place (below at) c.in-Child.is
    c.in-None.ensures.place

pub returns-clause-set : goal.returns-clause-set
returns-clause-set c =
    let at = (goal.at.returns-clause-set c).After-deref-parts in
    told (sound at).at_work.ready.shown c.in-Some.ensures.last c.in-Some-place.place.now c.in-Some-place.ensures.place (below at) c.in-Child.is is_set
    set_outlined (λ tracker ts us. refl) c.in-Some-place-2.above.now c.in-Some-place-2.ensures.place
    ∙ ap (λ (s : Site). is_set_item s.state) (seen at)

pub returns-clause-dynamic : goal.returns-clause-dynamic
returns-clause-dynamic c =
    let at = (goal.at.returns-clause-dynamic c).After-deref-parts in
    told (sound at).at_work.ready.shown c.in-Some.ensures.last c.in-Some-place.place.now c.in-Some-place.ensures.place (below at) c.in-Child.is
    is_begun_dynamic dynamic_outlined (λ tracker ts us. refl) c.in-Some-place-2.above.now c.in-Some-place-2.ensures.place
    ∙ ap (λ (s : Site). is_dynamic_part s.state) (seen at)

pub returns-clause-source : goal.returns-clause-source
returns-clause-source c =
    let at = (goal.at.returns-clause-source c).After-deref-parts in
    told (sound at).at_work.ready.shown c.in-Some.ensures.last c.in-Some-place.place.now c.in-Some-place.ensures.place (below at) c.in-Child.is
    is_begun_conversion source_outlined (λ tracker ts us. refl) c.in-Some-place-2.above.now c.in-Some-place-2.ensures.place
    ∙ ap (λ (s : Site). is_source_place s.state) (seen at)

-- the node of the place above, whose shape that place has
ready : (c : After-core-plan) → IsReady c.deref-parts.result.now.frames.table.now c.deref-parts.result.now.frames.root c.core-plan.result.now c.deref-parts.result.now.frames.slots c.deref-parts.result.now.frames.stack
ready c =
    subst (λ (p : Plan). IsReady c.deref-parts.result.now.frames.table.now c.deref-parts.result.now.frames.root p c.deref-parts.result.now.frames.slots c.deref-parts.result.now.frames.stack)
    (sym c.core-plan.ensures.plan) (subst IsSound (sym c.deref-parts.ensures) c.self.invariant).at_work.ready

pub node-requires : goal.node-requires
node-requires c =
    let at = (goal.at.node-requires c).After-deref-parts in
    let here = ready (goal.at.node-requires c).After-core-plan in
    let lookups = c.law_plan_lookups.ensures in
    let reach = c.law_plan_reach.ensures in
    record {
      inside =
          above_inside lookups.agree lookups.paths reach.reached reach.nodes _ _ _ _ _ here (below at) c.in-Some-place-2.above.now
          (node_told here.shown c.in-Some.ensures.last c.in-Some-place.place.now c.in-Some-place.ensures.place (below at) c.in-Child.is
          c.in-Some-place-2.above.now c.in-Some-place-2.ensures.place);
    }

pub returns-clause-field : goal.returns-clause-field
returns-clause-field c =
    let at = (goal.at.returns-clause-field c).After-deref-parts in
    let here = ready (goal.at.returns-clause-field c).After-core-plan in
    let lookups = c.law_plan_lookups.ensures in
    let reach = c.law_plan_reach.ensures in
    ap (λ (s : Site). field_below (def_of s.shapes c.node.result.now.shape.0) c.in-Child.number (own_tree (body_of c.in-Some-place-2.above.now.partial)))
    (sym (seen at))
    ∙ field_here lookups.agree lookups.paths reach.reached reach.nodes _ _ _ _ _ here (below at) c.in-Some-place-2.above.now
    (node_told here.shown c.in-Some.ensures.last c.in-Some-place.place.now c.in-Some-place.ensures.place (below at) c.in-Child.is
    c.in-Some-place-2.above.now c.in-Some-place-2.ensures.place) c.node.result.now c.node.ensures.node c.in-Child.number
    (ends_so here.shown c.in-Some.ensures.last c.in-Some-place.place.now c.in-Some-place.ensures.place (below at) c.in-Child.is) _
    (λ def. told here.shown c.in-Some.ensures.last c.in-Some-place.place.now c.in-Some-place.ensures.place (below at) c.in-Child.is
    (field_below def c.in-Child.number) (field_outlined def c.in-Child.number) (λ tracker ts us. refl)
    c.in-Some-place-2.above.now c.in-Some-place-2.ensures.place)
    ∙ ap (λ (s : Site). cursor_field s.shapes s.root s.state) (seen at)
