-- What was put at the place on top says what stands there.
use Rattle.std.proofs.Common.{◌≡◌, ℕ, suc, zero, ◌∷◌, Bool, true, false, List, [], length, Option, Some, None, not, option_map, is_some, refl, sym, ◌∙◌, ap, arith, slice_get}
use Rattle.std.specs.Option.{option_and_then}
use Rattle.std.specs.Prelude.{◌≤◌}
use Rattle.fr_work.specs.Common.{Body, Cell, Field, IsLast, IsOpen, Node, NodeId, Plan, Plot, Slot, Table, Tracker, Tree, absent, as_content, as_elements, as_entries, as_fields, as_items, at, begun_body, begun_plot, body_in, body_of, entered_body, entered_plot, given, gone, heap_of, hole, open_top, placed, Val, tree_here, tree_in, tree_nth, trees_in, whole_body, whole_plot}
use Rattle.fr_model.specs.Collections.{is_hole}
use Rattle.fr_frame.specs.declared.places.Place.{Place as Entry}
use Rattle.fr_frame.specs.Heap.{Heap}
use Rattle.fr_frame.specs.Kids.{HoldsAll, HoldsIn, Kids, cells_in, kid, no_kids, there}
use Rattle.fr_frame.specs.Outlines.{outline}
use Rattle.fr_values.specs.Cells.{slot_in_cells, slot_of_cell, value_at, value_of_cell}
use Rattle.fr_work.specs.PlaceTold.{AreFound, HasFound, Says, seen_child, seen_children, seen_tree}
use Rattle.fr_work.specs.Readings.{field_set, is_set_at}
use Rattle.fr_moves.specs.PlaceLaws.{Tells, found_is, plot_here}

-- What lies in slots of its own is found there.

kids_found : (plan : Plan) (heap : Heap) (node : NodeId) (slot : ℕ) (tracker : Tracker) (i depth : ℕ) (kids : Kids)
    → HoldsAll plan heap node slot tracker i depth kids → AreFound heap kids
kids_found plan heap node slot tracker i depth no_kids holds = tt
kids_found plan heap node slot tracker i depth (kid gone ks) holds =
    (tt, kids_found plan heap node slot tracker (suc i) depth ks holds.1)
kids_found plan heap node slot tracker i depth (kid (there v) ks) holds =
    (tt, kids_found plan heap node slot tracker (suc i) depth ks holds.1)
kids_found plan heap node slot tracker i depth (kid (at own stored plot) ks) holds = (
  ap (option_map (λ (found : Node). found.body)) holds.0.0,
  kids_found plan heap node slot tracker (suc i) depth ks holds.1,
)

plot_found : (plan : Plan) (heap : Heap) (node : NodeId) (slot depth : ℕ) (plot : Plot) → HoldsIn plan heap node slot depth plot
    → HasFound heap plot
plot_found plan heap node slot depth entered_plot holds = tt
plot_found plan heap node slot depth (whole_plot v) holds = tt
plot_found plan heap node slot depth (begun_plot tracker kids) holds = kids_found plan heap node slot tracker 0 depth kids holds

pub says_found : {plan : Plan} {slots : List Slot} {stack : List ℕ} (shown : IsOpen plan slots stack) {n : ℕ} (last : IsLast stack n)
    (place : Entry) → Tells slots n place → Says slots (body_of place.partial) (tree_here slots stack)
says_found {plan} {slots} {stack} shown {n} last place is =
    let top = open_top shown in
    record {
      plot = top.plot;
      told = ap (λ (found : Node). found.body) (found_is plan slots stack shown n last place is);
      stands = plot_here plan slots stack shown;
      found = plot_found plan (heap_of slots) _ _ _ top.plot top.children;
    }

-- Whether a child is there.

abbrev seen_or_hole : Option Cell → Tree
seen_or_hole (Some c) = seen_child c
seen_or_hole None = hole

pub nth_seen : (i : ℕ) (cells : List Cell) → tree_nth i (seen_children cells) ≡ seen_or_hole (slice_get cells i)
nth_seen i [] = refl
nth_seen zero (c ∷ cells) = refl
nth_seen (suc i) (c ∷ cells) = nth_seen i cells

given_by : (found : Option Cell) (v : Val) → Some v ≡ option_and_then value_of_cell found → true ≡ not (is_hole (seen_or_hole found))
given_by (Some (given u)) v is = refl
given_by (Some absent) v is = cc
given_by (Some (placed n)) v is = cc
given_by None v is = cc

placed_by : (found : Option Cell) → None ≡ option_and_then value_of_cell found
    → is_some (option_and_then slot_of_cell found) ≡ not (is_hole (seen_or_hole found))
placed_by (Some (given u)) is = cc
placed_by (Some absent) is = refl
placed_by (Some (placed n)) is = refl
placed_by None is = refl

pub given_there : (i : ℕ) (cells : List Cell) (v : Val) → Some v ≡ value_at cells i
    → true ≡ not (is_hole (tree_nth i (seen_children cells)))
given_there i cells v is = given_by (slice_get cells i) v is ∙ ap (λ (t : Tree). not (is_hole t)) (sym (nth_seen i cells))

pub placed_there : (i : ℕ) (cells : List Cell) → None ≡ value_at cells i
    → is_some (slot_in_cells cells i) ≡ not (is_hole (tree_nth i (seen_children cells)))
placed_there i cells is = placed_by (slice_get cells i) is ∙ ap (λ (t : Tree). not (is_hole t)) (sym (nth_seen i cells))

pub past_end : (i : ℕ) (cells : List Cell) → length cells ≤ i → false ≡ not (is_hole (tree_nth i (seen_children cells)))
past_end i [] h = refl
past_end zero (c ∷ cells) h = absurd (omega (arith, h))
past_end (suc i) (c ∷ cells) h = past_end i cells (omega (arith, h))

-- Whether a field is set.

field_set_by : (table : Table) (of_variant : Bool) (field : Option Field) (t u : Tree) → is_hole t ≡ is_hole u
    → field_set table of_variant field t ≡ field_set table of_variant field u
field_set_by table of_variant None t u e = refl
field_set_by table of_variant (Some field) t u e = rw e refl

same_hole : (i : ℕ) (kids : Kids) → is_hole (tree_nth i (seen_children (cells_in kids))) ≡ is_hole (tree_nth i (trees_in kids))
same_hole i no_kids = refl
same_hole zero (kid gone ks) = refl
same_hole zero (kid (there v) ks) = refl
same_hole zero (kid (at slot stored entered_plot) ks) = refl
same_hole zero (kid (at slot stored (whole_plot v)) ks) = refl
same_hole zero (kid (at slot stored (begun_plot tracker kids)) ks) = refl
same_hole (suc i) (kid k ks) = same_hole i ks

set_in_plot : (table : Table) (s i : ℕ) (plot : Plot) → is_set_at table s (seen_tree (body_in plot)) i ≡ is_set_at table s (tree_in plot) i
set_in_plot table s i (begun_plot (as_fields selected) kids) =
    field_set_by table (is_some selected) _ _ _ (same_hole i kids)
set_in_plot table s i (begun_plot as_elements kids) = refl
set_in_plot table s i (begun_plot (as_content kind) kids) = refl
set_in_plot table s i (begun_plot (as_items kind) kids) = refl
set_in_plot table s i (begun_plot (as_entries kind) kids) = refl
set_in_plot table s i entered_plot = refl
set_in_plot table s i (whole_plot v) = refl

set_outlined : (table : Table) (s i : ℕ) (body : Body) → is_set_at table s (seen_tree (outline body)) i ≡ is_set_at table s (seen_tree body) i
set_outlined table s i (begun_body (as_fields selected) cells) = refl
set_outlined table s i (begun_body as_elements cells) = refl
set_outlined table s i (begun_body (as_content kind) cells) = refl
set_outlined table s i (begun_body (as_items kind) cells) = refl
set_outlined table s i (begun_body (as_entries kind) cells) = refl
set_outlined table s i entered_body = refl
set_outlined table s i (whole_body v) = refl

pub set_told : (table : Table) (s i : ℕ) (slots : List Slot) (body : Body) (tree : Tree) → Says slots body tree
    → is_set_at table s (seen_tree body) i ≡ is_set_at table s tree i
set_told table s i slots body tree says =
    sym (set_outlined table s i body) ∙ ap (λ (b : Body). is_set_at table s (seen_tree b) i) says.told
    ∙ set_outlined table s i (body_in says.plot) ∙ set_in_plot table s i says.plot
    ∙ ap (λ (t : Tree). is_set_at table s t i) says.stands
