-- The plan's node of the place at which a builder works: as its slots tell it, and as the tree does; and what the plan has of it.
use Rattle.std.proofs.Common.{◌≡◌, [], ◌∷◌, refl, ◌∙◌, ap, sym, subst}
use Rattle.fr_work.specs.Common.{IsAtWork, IsOfShape, IsSound, Kid, LookupPathsAgree, LookupsAgree, NodeId, Parts, Place, Plan, Site, at, begun_plot, child_node, cursor_in, def_of, entered_plot, gone, heap_of, kid_shown, node_along, node_here, plan_in, shape_at, site, tree_of, whole_plot}
use Rattle.fr_frame.specs.Kids.{there}
use Rattle.fr_plan.specs.LookupLaws.{BackReferencesResolve}
use Rattle.fr_plan.specs.ReachLaws.{NodesAreReached, ReachedHaveNodes}
use Rattle.fr_store.specs.Ways.{kid_nth}
use Rattle.fr_store.specs.WayLaws.{tree_of_nth}
use Rattle.fr_work.specs.PlanParts.{HasParts}
use Rattle.fr_work.specs.Readings.{cursor_node, node_down}
use Rattle.fr_moves.specs.Underway.{shape_here}
use Rattle.fr_moves.specs.FitLaws.{is_there}
use Rattle.fr_moves.specs.PlaceLaws.{here_along}
use Rattle.fr_work.proofs.PlanPartLaws.{own_of, parts_by}

-- along a place, by the slots and by the tree
along_down : (plan : Plan) (node : NodeId) (place : Place) (k : Kid) → node_along plan node place k ≡ node_down plan node place (tree_of k)
along_down plan node [] k = refl
along_down plan node (i ∷ place) gone = along_down plan node place gone
along_down plan node (i ∷ place) (there v) = along_down plan node place gone
along_down plan node (i ∷ place) (at slot stored entered_plot) = along_down plan node place gone
along_down plan node (i ∷ place) (at slot stored (whole_plot v)) = along_down plan node place gone
along_down plan node (i ∷ place) (at slot stored (begun_plot tracker kids)) =
    along_down plan (child_node plan node tracker i) place (kid_nth i kids)
    ∙ ap (node_down plan (child_node plan node tracker i) place) (tree_of_nth i kids)

module _ {parts : Parts} (sound : IsSound parts) {seen : Site} (view_is : site parts ≡ seen) (plan : Plan)
    (plan_is : plan ≡ plan_in parts.plan) where
  at_work : IsAtWork plan parts.frames
  at_work = subst (λ (p : Plan). IsAtWork p parts.frames) (sym plan_is) sound.at_work

  pub plan_so : plan ≡ seen.plan
  plan_so = plan_is ∙ ap (λ (s : Site). s.plan) view_is

  module _ (id : NodeId) (id_is : id ≡ node_here plan parts.frames.slots parts.frames.stack) where
    pub node_so : id ≡ cursor_node plan seen.state
    node_so =
        id_is
        ∙ along_down plan plan.root (cursor_in parts.frames.slots parts.frames.stack)
        (kid_shown (heap_of parts.frames.slots) parts.frames.stack)
        ∙ ap (λ (s : Site). cursor_node plan s.state) view_is

    module _ (resolve : BackReferencesResolve) (agree : LookupsAgree) (paths : LookupPathsAgree) (reached : NodesAreReached)
        (nodes : ReachedHaveNodes) where
      of_shape : IsOfShape plan id (shape_at (site parts))
      of_shape =
          subst
          (λ (n : NodeId). IsOfShape plan n
          (shape_here parts.frames.table.now parts.frames.root.0 parts.frames.slots parts.frames.stack))
          (sym id_is)
          (here_along agree paths reached nodes parts.frames.table.now parts.frames.root plan parts.frames.slots parts.frames.stack
          at_work.ready).node_is

      pub shaped_so : IsOfShape plan id (shape_at seen)
      shaped_so = subst (λ (s : Site). IsOfShape plan id (shape_at s)) view_is of_shape

      pub parts_so : HasParts plan id (def_of seen.shapes (shape_at seen))
      parts_so =
          let ready = at_work.ready in
          let own = own_of resolve parts.frames.table.now parts.frames.root plan ready.checked ready.inside ready.planned id of_shape.found
          of_shape.there in
          subst (λ (s : Site). HasParts plan id (def_of s.shapes (shape_at s))) view_is
          (parts_by parts.frames.table.now plan id of_shape.found of_shape.there own (is_there plan.nodes id.0 of_shape.there)
          (shape_at (site parts)) of_shape.shape)
