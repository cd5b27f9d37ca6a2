-- What is seen of a place that has a value so far, by what was put there.
use Rattle.std.proofs.Common.{◌≡◌, ℕ, zero, suc, ◌+◌, ◌<◌, arith, Bool, true, false, ◌&&◌, List, [], ◌∷◌, length, Option, Some, None, is_some, option_map, slice_get, drop, refl, sym, ◌∙◌, ap}
use Rattle.std.specs.Option.{option_and_then}
use Rattle.std.specs.Prelude.{if◌then◌else◌}
use Rattle.fr_work.specs.Common.{Body, Cell, Kid, Node, Plot, Slot, Tracker, Tree, Val, absent, as_content, as_elements, as_entries, as_fields, as_items, at, begun, begun_body, begun_plot, body_in, body_of, entered, entered_body, entered_plot, given, gone, heap_of, hole, placed, tree_in, tree_of, trees_in, whole, whole_body, whole_plot}
use Rattle.fr_frame.specs.declared.places.Place.{Place as Entry}
use Rattle.fr_frame.specs.Heap.{Heap, node_of}
use Rattle.fr_frame.specs.Kids.{Kids, cell_of, cells_in, kid, no_kids, there}
use Rattle.fr_frame.specs.OutlineLaws.{none_found}
use Rattle.fr_frame.specs.Outlines.{outline, outlined}
use Rattle.fr_values.specs.Cells.{slot_of_cell, value_of_cell}
use Rattle.fr_work.specs.PlaceTold.{AreFound, HasFound, IsFound, Says}
use Rattle.fr_work.specs.PlaceViews.{all_valued, and_value, and_whole, child_value, child_values, has_parts, initialized, initialized_in, is_initialized, seen_begun, seen_in, whole_in, whole_of, whole_values}

-- The place in a slot.

whole_outlined : (body : Body) → whole_of (outline body) ≡ whole_of body
whole_outlined entered_body = refl
whole_outlined (whole_body v) = refl
whole_outlined (begun_body tracker cells) = refl

pub whole_found : (place : Entry) (found : Option Node) → Some (outlined (node_of place)) ≡ option_map outlined found
    → whole_of (body_of place.partial) ≡ whole_in found
whole_found place (Some held) is =
    let same : outlined (node_of place) ≡ outlined held = cc in
    sym (whole_outlined (body_of place.partial)) ∙ ap (λ (node : Node). whole_of node.body) same ∙ whole_outlined held.body
whole_found place None is = cc

pub whole_nowhere : (found : Option Node) → None ≡ option_map outlined found → None ≡ whole_in found
whole_nowhere found is = sym (ap whole_in (none_found found is))

-- One child.

pub given_value : (heap : Heap) (found : Option Cell) (v : Val) → Some v ≡ option_and_then value_of_cell found
    → Some v ≡ option_and_then (child_value heap) found
given_value heap (Some (given u)) v is = is
given_value heap (Some absent) v is = cc
given_value heap (Some (placed n)) v is = cc
given_value heap None v is = cc

pub no_value : (heap : Heap) (found : Option Cell) → None ≡ option_and_then value_of_cell found
    → None ≡ option_and_then slot_of_cell found → None ≡ option_and_then (child_value heap) found
no_value heap (Some (given u)) is no_slot = cc
no_value heap (Some absent) is no_slot = refl
no_value heap (Some (placed n)) is no_slot = cc
no_value heap None is no_slot = refl

pub placed_value : (heap : Heap) (found : Option Cell) (n : ℕ) → Some n ≡ option_and_then slot_of_cell found
    → whole_in (heap n) ≡ option_and_then (child_value heap) found
placed_value heap (Some (given u)) n is = cc
placed_value heap (Some absent) n is = cc
placed_value heap (Some (placed m)) n is = let same : n ≡ m = cc in ap (λ (k : ℕ). whole_in (heap k)) same
placed_value heap None n is = cc

-- All of them.

count_more : (value : Option Val) (all : Bool) (values : List Val) (n : ℕ) → (is_some value && all) ≡ true
    → (all ≡ true → length values ≡ n) → length (and_value value values) ≡ suc n
count_more (Some v) all values n is rest = ap suc (rest is)
count_more None all values n is rest = cc

pub count_valued : (heap : Heap) (cells : List Cell) → all_valued heap cells ≡ true → length (child_values heap cells) ≡ length cells
count_valued heap [] all = refl
count_valued heap (c ∷ cells) all =
    count_more (child_value heap c) (all_valued heap cells) (child_values heap cells) (length cells) all (count_valued heap cells)

first_is : (value : Option Val) (all : Bool) (values : List Val) → (is_some value && all) ≡ true
    → slice_get (and_value value values) zero ≡ value
first_is (Some v) all values is = refl
first_is None all values is = cc

next_is : (value : Option Val) (all : Bool) (values : List Val) (i : ℕ) (want : Option Val) → (is_some value && all) ≡ true
    → (all ≡ true → slice_get values i ≡ want) → slice_get (and_value value values) (suc i) ≡ want
next_is (Some v) all values i want is rest = rest is
next_is None all values i want is rest = cc

pub nth_valued : (heap : Heap) (cells : List Cell) (i : ℕ) → all_valued heap cells ≡ true
    → slice_get (child_values heap cells) i ≡ option_and_then (child_value heap) (slice_get cells i)
nth_valued heap [] i all = refl
nth_valued heap (c ∷ cells) zero all = first_is (child_value heap c) (all_valued heap cells) (child_values heap cells) all
nth_valued heap (c ∷ cells) (suc i) all =
    next_is (child_value heap c) (all_valued heap cells) (child_values heap cells) i _ all (nth_valued heap cells i)

-- The search for one that has none.

valued_split : (heap : Heap) (cells : List Cell) (i : ℕ) → i < length cells
    → all_valued heap (drop i cells)
    ≡ (is_some (option_and_then (child_value heap) (slice_get cells i)) && all_valued heap (drop (suc i) cells))
valued_split heap [] i h = absurd (omega (arith, h))
valued_split heap (c ∷ cells) zero h = refl
valued_split heap (c ∷ cells) (suc i) h = valued_split heap cells i (omega (arith, h))

pub later_valued : (heap : Heap) (cells : List Cell) (i : ℕ) → i < length cells
    → is_some (option_and_then (child_value heap) (slice_get cells i)) ≡ true
    → all_valued heap (drop i cells) ≡ all_valued heap (drop (i + 1) cells)
later_valued heap cells i h valued =
    let next : suc i ≡ i + 1 = omega arith in
    valued_split heap cells i h ∙ ap (λ (b : Bool). b && all_valued heap (drop (suc i) cells)) valued
    ∙ ap (λ (k : ℕ). all_valued heap (drop k cells)) next

pub none_valued : (heap : Heap) (cells : List Cell) (i : ℕ) → i < length cells
    → is_some (option_and_then (child_value heap) (slice_get cells i)) ≡ false → all_valued heap (drop i cells) ≡ false
none_valued heap cells i h none =
    valued_split heap cells i h ∙ ap (λ (b : Bool). b && all_valued heap (drop (suc i) cells)) none

-- What is seen of a begun place.

and_right : (a b : Bool) → (a && b) ≡ true → b ≡ true
and_right true b e = e
and_right false b e = cc

pub seen_count : (s : ℕ) (heap : Heap) (body : Body) (tracker : Tracker) (cells : List Cell) → body ≡ begun_body tracker cells
    → is_initialized heap body ≡ true → length cells ≡ length (seen_in s heap body).children
seen_count s heap (begun_body other held) tracker cells e is =
    let same : held ≡ cells = cc in
    sym (count_valued heap held (and_right (has_parts other) (all_valued heap held) is) ∙ ap length same)
seen_count s heap entered_body tracker cells e is = cc
seen_count s heap (whole_body v) tracker cells e is = cc

pub seen_nth : (s : ℕ) (heap : Heap) (body : Body) (tracker : Tracker) (cells : List Cell) (i : ℕ) → body ≡ begun_body tracker cells
    → is_initialized heap body ≡ true
    → option_and_then (child_value heap) (slice_get cells i) ≡ slice_get (seen_in s heap body).children i
seen_nth s heap (begun_body other held) tracker cells i e is =
    let same : held ≡ cells = cc in
    sym (nth_valued heap held i (and_right (has_parts other) (all_valued heap held) is)
    ∙ ap (λ (cs : List Cell). option_and_then (child_value heap) (slice_get cs i)) same)
seen_nth s heap entered_body tracker cells i e is = cc
seen_nth s heap (whole_body v) tracker cells i e is = cc

-- By the tree.

abbrev value_in : Tree → Option Val
value_in hole = None
value_in entered = None
value_in (whole v) = Some v
value_in (begun tracker ts) = None

plot_value : (plot : Plot) → whole_of (body_in plot) ≡ value_in (tree_in plot)
plot_value entered_plot = refl
plot_value (whole_plot v) = refl
plot_value (begun_plot tracker kids) = refl

found_whole : (body : Body) (found : Option Node) → option_map (λ (node : Node). node.body) found ≡ Some body → whole_in found ≡ whole_of body
found_whole body (Some held) is = let same : held.body ≡ body = cc in ap whole_of same
found_whole body None is = cc

kid_value : (heap : Heap) (k : Kid) → IsFound heap k → child_value heap (cell_of k) ≡ value_in (tree_of k)
kid_value heap gone found = refl
kid_value heap (there v) found = refl
kid_value heap (at slot stored plot) found = found_whole (body_in plot) (heap slot) found ∙ plot_value plot

and_so : (t : Tree) (value : Option Val) (rest : Option (List Val)) (all : Bool) (values : List Val) → value ≡ value_in t
    → rest ≡ (if all then Some values else None)
    → and_whole t rest ≡ (if is_some value && all then Some (and_value value values) else None)
and_so hole None rest all values e h = refl
and_so hole (Some v) rest all values e h = cc
and_so entered None rest all values e h = refl
and_so entered (Some v) rest all values e h = cc
and_so (begun tracker ts) None rest all values e h = refl
and_so (begun tracker ts) (Some v) rest all values e h = cc
and_so (whole u) None rest all values e h = cc
and_so (whole u) (Some v) rest true values e h =
    let same : u ≡ v = cc in
    ap (option_map (λ (vs : List Val). u ∷ vs)) h ∙ ap (λ (w : Val). Some (w ∷ values)) same
and_so (whole u) (Some v) rest false values e h = ap (option_map (λ (vs : List Val). u ∷ vs)) h

kids_values : (heap : Heap) (kids : Kids) → AreFound heap kids
    → whole_values (trees_in kids) ≡ (if all_valued heap (cells_in kids) then Some (child_values heap (cells_in kids)) else None)
kids_values heap no_kids found = refl
kids_values heap (kid k ks) found =
    and_so (tree_of k) (child_value heap (cell_of k)) (whole_values (trees_in ks)) (all_valued heap (cells_in ks))
    (child_values heap (cells_in ks)) (kid_value heap k found.0) (kids_values heap ks found.1)

both_ways : (parts all : Bool) (s : ℕ) (tracker : Tracker) (values : List Val)
    → (if parts && all then Some (seen_begun s tracker values) else None)
    ≡ (if parts then option_map (seen_begun s tracker) (if all then Some values else None) else None)
both_ways true true s tracker values = refl
both_ways true false s tracker values = refl
both_ways false all s tracker values = refl

plot_seen : (s : ℕ) (heap : Heap) (plot : Plot) → HasFound heap plot → initialized_in s heap (body_in plot) ≡ initialized s (tree_in plot)
plot_seen s heap entered_plot found = refl
plot_seen s heap (whole_plot v) found = refl
plot_seen s heap (begun_plot tracker kids) found =
    both_ways (has_parts tracker) (all_valued heap (cells_in kids)) s tracker (child_values heap (cells_in kids))
    ∙ ap (λ (values : Option (List Val)). if has_parts tracker then option_map (seen_begun s tracker) values else None)
    (sym (kids_values heap kids found))

seen_outlined : (s : ℕ) (heap : Heap) (body : Body) → initialized_in s heap (outline body) ≡ initialized_in s heap body
seen_outlined s heap (begun_body (as_fields selected) cells) = refl
seen_outlined s heap (begun_body as_elements cells) = refl
seen_outlined s heap (begun_body (as_content kind) cells) = refl
seen_outlined s heap (begun_body (as_items kind) cells) = refl
seen_outlined s heap (begun_body (as_entries kind) cells) = refl
seen_outlined s heap entered_body = refl
seen_outlined s heap (whole_body v) = refl

pub seen_told : (s : ℕ) (slots : List Slot) (body : Body) (tree : Tree) → Says slots body tree
    → initialized_in s (heap_of slots) body ≡ initialized s tree
seen_told s slots body tree says =
    sym (seen_outlined s (heap_of slots) body) ∙ ap (initialized_in s (heap_of slots)) says.told
    ∙ seen_outlined s (heap_of slots) (body_in says.plot) ∙ plot_seen s (heap_of slots) says.plot says.found
    ∙ ap (initialized s) says.stands
