-- Where a conversion is begun, the plan has a node for its source: the conversion suits its place in the state that the call leads to.
use Rattle.std.proofs.Common.{◌≡◌, ℕ, true, false, Bool, List, [], ◌∷◌, Option, Some, None, unwrap_or, refl, sym, ◌∙◌, ap, subst, arith}
use Rattle.fr_moves.specs.Common.{ConversionsSuit, IsOfShape, LookupPathsAgree, LookupsAgree, Place, Plan, ShapeId, Slot, Table, Tracker, Tree, Way, as_tracker, begun, change_at, child_as, cursor_in, def_of, deferred, heap_of, hole, is_root, kid_shown, onward, shape_in, tree_at, tree_nth, up}
use Rattle.fr_shape.specs.Plannable.{Reached}
use Rattle.fr_shape.specs.declared.shape.Field.{Field}
use Rattle.fr_model.specs.Contents.{content_anew}
use Rattle.fr_model.specs.PathLaws.{IsKeptAs}
use Rattle.fr_model.specs.Tree.{field_along, field_as, field_below}
use Rattle.fr_plan.specs.ReachLaws.{NodesAreReached, ReachedHaveNodes}
use Rattle.fr_store.specs.ShapeLaws.{suits_conversion}
use Rattle.fr_store.specs.SourceLaws.{AreSourced, IsSourced, IsSourcedHere, field_sourced, node_reached, none_sourced, sourced_at}
use Rattle.fr_store.specs.StackMoves.{tree_in_slots}
use Rattle.fr_moves.specs.Underway.{IsReady}
use Rattle.fr_moves.specs.AboveLaws.{above_shaped, field_last}
use Rattle.fr_moves.specs.PlaceLaws.{here_along}
use Rattle.fr_store.specs.LeaveLaws.{below_root, up_append}
use Rattle.fr_model.specs.Entering.{entered_on}
use Rattle.fr_refusals.specs.Beginnings.{kept_by}
use Rattle.fr_moves.specs.Moving.{IsSourcedOn, MayGo}
use Rattle.fr_moves.proofs.BegunAroundLaws.{kept_as_tracker}
use Rattle.fr_moves.proofs.LeadLaws.{tree_leads}
use Rattle.fr_moves.specs.TreeLaws.{changed_at, field_stays, shape_stays}

-- where each conversion of a tree suits its place, those at a place of it do
pub converts_along : (table : Table) (s : ℕ) (field : Option Field) (place : Place) (t : Tree) → ConversionsSuit table s field t
    → ConversionsSuit table (shape_in table s place t) (field_along table s field place t) (tree_at place t)
converts_along table s field [] t suit = suit
converts_along table s field (i ∷ place) (begun tracker ts) suit =
    converts_along table (child_as table s tracker i) (field_as (def_of table s) tracker i) place (tree_nth i ts)
    (suits_conversion table s tracker 0 ts i i (omega arith) suit.1)
converts_along table s field (i ∷ place) _ suit = no_conversion _ _ place
  where
    no_conversion : (n : ℕ) (at : Option Field) (place : Place)
        → ConversionsSuit table (shape_in table n place hole) (field_along table n at place hole) (tree_at place hole)
    no_conversion n at [] = tt
    no_conversion n at (j ∷ place) = no_conversion _ _ place

module _ (agree : LookupsAgree) (paths : LookupPathsAgree) (reached : NodesAreReached) (nodes : ReachedHaveNodes) (table : Table)
    (root : ShapeId) (plan : Plan) (slots : List Slot) (stack : List ℕ) (ready : IsReady table root plan slots stack) where
  abbrev cursor : Place
  cursor = cursor_in slots stack

  abbrev tree : Tree
  tree = tree_in_slots slots stack

  abbrev Sourced : Option Field → Type 0
  Sourced = AreSourced reached nodes table root plan ready.checked ready.inside ready.planned

  shape_reached : (n : _) (s : ℕ) → IsOfShape plan n s → Reached table root.0 s
  shape_reached n s is =
      subst (Reached table root.0) is.shape
      (node_reached reached nodes table root plan ready.checked ready.inside ready.planned n is.found is.there)

  -- the plan has nodes for the sources of the proxies that the field has which the place is
  of_field : (above : Tree) (s i : ℕ) → Reached table root.0 s → Sourced (field_below (def_of table s) i above)
  of_field (begun tracker ts) s i known =
      field_sourced reached nodes table root plan ready.checked ready.inside ready.planned s known tracker i
  of_field _ s i known = none_sourced reached nodes table root plan ready.checked ready.inside ready.planned

  field_known : Sourced (field_along table root.0 None cursor tree)
  field_known = go (is_root cursor) refl
    where
      root_itself : (place : Place) → is_root place ≡ true → place ≡ []
      root_itself [] h = refl
      root_itself (i ∷ place) h = cc

      go : (b : Bool) → is_root cursor ≡ b → Sourced (field_along table root.0 None cursor tree)
      go true h =
          subst (λ (p : Place). Sourced (field_along table root.0 None p tree)) (sym (root_itself cursor h))
          (none_sourced reached nodes table root plan ready.checked ready.inside ready.planned)
      go false h =
          let last = below_root cursor h in
          let known = shape_reached _ _ (above_shaped agree paths reached nodes table root plan slots stack ready h) in
          let same : up cursor ≡ last.0 = ap up last.2 ∙ up_append last.0 last.1 in
          subst Sourced (sym (ap (λ (p : Place). field_along table root.0 None p tree) last.2
          ∙ field_last table root.0 None last.0 last.1 tree))
          (of_field (tree_at last.0 tree) (shape_in table root.0 last.0 tree) last.1
          (subst (λ (p : Place). Reached table root.0 (shape_in table root.0 p tree)) same known))

  -- where a conversion suits the place as which it is begun, the plan has a node for its source
  pub begun_sourced : (now : Tree) → ConversionsSuit table (shape_in table root.0 cursor tree) (field_along table root.0 None cursor tree) now
      → IsSourcedHere plan now
  begun_sourced (begun tracker ts) suit =
      let here = here_along agree paths reached nodes table root plan slots stack ready in
      sourced_at reached nodes table root plan ready.checked ready.inside ready.planned (shape_in table root.0 cursor tree)
      (shape_reached _ _ here.node_is) (field_along table root.0 None cursor tree) field_known tracker suit.0
  begun_sourced _ suit = tt

  kept_sourced : (tracker : Tracker) (kept : Option Tree) (s : ℕ) → IsKeptAs tracker kept
      → IsSourcedHere plan (unwrap_or kept (content_anew table s tracker)) → IsSourced plan tracker
  kept_sourced tracker (Some (begun made ts)) s is sourced = subst (IsSourced plan) is sourced
  kept_sourced tracker (Some _) s is sourced = absurd is
  kept_sourced tracker None s is sourced = sourced

  -- so it has where a way leads to a source, in a state in which each conversion suits its place
  pub way_sourced : (way : Way) → MayGo table (shape_in table root.0 cursor tree) (tree_at cursor tree) way
      → ConversionsSuit table root.0 None
      (change_at cursor (entered_on table (shape_in table root.0 cursor tree) (onward way (tree_at cursor tree))) tree)
      → IsSourcedOn plan way
  way_sourced (Way.Content tracker beginning) may suit =
      let s = shape_in table root.0 cursor tree in
      let here = tree_at cursor tree in
      let change = entered_on table s (onward (Way.Content tracker beginning) here) in
      let along = converts_along table root.0 None cursor (change_at cursor change tree) suit in
      let leads = tree_leads 0 cursor (kid_shown (heap_of slots) stack) ready.shown.stands.leads in
      kept_sourced (as_tracker tracker) (kept_by beginning (as_tracker tracker) here) s
      (kept_as_tracker beginning (as_tracker tracker) here may.2)
      (begun_sourced (change here)
      (subst (λ (t : Tree). ConversionsSuit table s (field_along table root.0 None cursor tree) t)
      (changed_at (deferred 0) cursor change tree leads)
      (subst
      (λ (f : Option Field). ConversionsSuit table s f (tree_at cursor (change_at cursor change tree)))
      (field_stays table root.0 None cursor change tree)
      (subst
      (λ (n : ℕ). ConversionsSuit table n (field_along table root.0 None cursor (change_at cursor change tree))
      (tree_at cursor (change_at cursor change tree))) (shape_stays table root.0 cursor change tree) along))))
  way_sourced _ may suit = tt
