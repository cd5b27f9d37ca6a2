-- Laws of beginning the top, for proofs.
use Rattle.std.proofs.Common.{◌≡◌, ℕ, zero, suc, ◌+◌, ◌≤◌, List, [], ◌∷◌, length, replicate, false, Option, Some, None, refl, sym, ◌∙◌, ap, subst, arith}
use Rattle.fr_store.specs.Common.{AllStayPut, AreLeftAll, AreLeftIn, AreUnplaced, Cell, ContentKind, Entries, EntriesKind, IsClosed, IsLast, IsOpen, IsOpenAt, KeepsChildren, Kid, Kids, LosesNone, MayHave, MayHaveIts, Place, Plan, Plot, Shows, Slot, Tracker, Tree, Trees, Val, Vals, absent, as_content, as_entries, at, base_in, base_of_tracker, begun, begun_body, begun_plot, body_in, branch, cells_in, cells_of_vals, change_at, count_entries, count_vals, cursor_in, entered_plot, entries_of, entry, entry_of, first, given, gone, heap_of, hole, holes, in_turn, is_conversion, keeps_closed, keeps_same, kid, kid_here, kid_shown, left_gone, left_value, map_of, no_base, no_entries, no_kids, no_vals, open_reach, open_top, opened, opened_as, opened_by, opened_value, over_base, parts_as, some, there, top_changed, top_stands, tree_change_at, tree_in, tree_in_slots, tree_of, tree_of_at, tree_put_at, trees_in, whole, whole_plot, wholes, with_body}
use Rattle.fr_store.proofs.PlacesBeside.{stay_all, stay_shown}

abbrev pub gones : ℕ → Kids
gones zero = no_kids
gones (suc count) = kid gone (gones count)

abbrev pub theres : Vals → Kids
theres no_vals = no_kids
theres (first v vs) = kid (there v) (theres vs)

abbrev pub opened_whole : Tracker → Val → Option Vals → Plot
opened_whole tracker v (Some vs) = begun_plot (over_base tracker v) (theres vs)
opened_whole tracker v None = whole_plot v

abbrev pub opened_plot : Tracker → (count : ℕ) → Plot → Plot
opened_plot tracker count entered_plot = begun_plot tracker (gones count)
opened_plot tracker count (whole_plot v) = opened_whole tracker v (parts_as tracker v)
opened_plot tracker count (begun_plot made kids) = begun_plot made kids

pub gones_cells : (count : ℕ) → cells_in (gones count) ≡ replicate count absent
gones_cells zero = refl
gones_cells (suc count) = ap (λ (cs : List Cell). absent ∷ cs) (gones_cells count)

pub theres_cells : (vs : Vals) → cells_in (theres vs) ≡ cells_of_vals vs
theres_cells no_vals = refl
theres_cells (first v vs) = ap (λ (cs : List Cell). given v ∷ cs) (theres_cells vs)

pub opened_body : (tracker : Tracker) (count : ℕ) (plot : Plot) → body_in (opened_plot tracker count plot) ≡ opened tracker count (body_in plot)
opened_body tracker count entered_plot = ap (begun_body tracker) (gones_cells count)
opened_body tracker count (whole_plot v) = go (parts_as tracker v)
  where
    go : (parts : Option Vals) → body_in (opened_whole tracker v parts) ≡ opened_by tracker v parts
    go (Some vs) = ap (begun_body (over_base tracker v)) (theres_cells vs)
    go None = refl
opened_body tracker count (begun_plot made kids) = refl

pub gones_trees : (count : ℕ) → trees_in (gones count) ≡ holes count
gones_trees zero = refl
gones_trees (suc count) = ap (λ (ts : Trees). branch hole ts) (gones_trees count)

pub theres_trees : (vs : Vals) → trees_in (theres vs) ≡ wholes vs
theres_trees no_vals = refl
theres_trees (first v vs) = ap (λ (ts : Trees). branch (whole v) ts) (theres_trees vs)

pub opened_tree : (tracker : Tracker) (count : ℕ) (plot : Plot) → tree_in (opened_plot tracker count plot) ≡ opened_as tracker count (tree_in plot)
opened_tree tracker count entered_plot = ap (begun tracker) (gones_trees count)
opened_tree tracker count (whole_plot v) = go (parts_as tracker v)
  where
    go : (parts : Option Vals) → tree_in (opened_whole tracker v parts) ≡ opened_value tracker v parts
    go (Some vs) = ap (begun (over_base tracker v)) (theres_trees vs)
    go None = refl
opened_tree tracker count (begun_plot made kids) = refl

pub gones_unplaced : (count : ℕ) → AreUnplaced (cells_in (gones count))
gones_unplaced zero = tt
gones_unplaced (suc count) = (tt, gones_unplaced count)

pub theres_unplaced : (vs : Vals) → AreUnplaced (cells_in (theres vs))
theres_unplaced no_vals = tt
theres_unplaced (first v vs) = (tt, theres_unplaced vs)

-- a place may have as many children as the value has that it holds, and as are asked for where it holds none
parts_may : (tracker : Tracker) (v : Val) {vs : Vals} → parts_as tracker v ≡ Some vs
    → MayHave (over_base tracker v) (length (cells_in (theres vs)))
parts_may (as_content ContentKind.Some) (some held) {vs} e =
    let one : first held no_vals ≡ vs = cc in
    subst (λ (ws : Vals). length (cells_in (theres ws)) ≤ 1) one (omega arith)
parts_may (as_content ContentKind.Some) _ e = absurd (cc)
parts_may (as_content _) v e = absurd (cc)
parts_may (as_entries (EntriesKind.Map base)) v e = tt
parts_may (as_entries (EntriesKind.Object keys)) v e = tt
parts_may _ v e = tt

pub gones_count : (count : ℕ) → length (cells_in (gones count)) ≡ count
gones_count zero = refl
gones_count (suc count) = ap suc (gones_count count)

pub gones_may : (tracker : Tracker) (count : ℕ) → MayHave tracker count → MayHave tracker (length (cells_in (gones count)))
gones_may tracker count may = subst (λ (n : ℕ). MayHave tracker n) (sym (gones_count count)) may

pub gones_left : (tracker : Tracker) (i count : ℕ) → base_of_tracker tracker ≡ 0 → AreLeftAll tracker i (gones count)
gones_left tracker i zero none = no_base tracker i none
gones_left tracker i (suc count) none =
    (left_gone tracker i (no_base tracker i none), tt, gones_left tracker (suc i) count none)

pub theres_left : (tracker : Tracker) (i : ℕ) (vs : Vals) {m : ℕ} → m ≡ i + count_vals vs → base_of_tracker tracker ≤ entry_of m
    → is_conversion tracker ≡ false → AreLeftAll tracker i (theres vs)
theres_left tracker i no_vals {m} e past plain =
    let same : m ≡ i = omega arith in
    subst (λ (n : ℕ). base_of_tracker tracker ≤ entry_of n) same past
theres_left tracker i (first v vs) {m} e past plain
    = (left_value tracker i v plain, tt, theres_left tracker (suc i) vs {m = m} (omega arith) past plain)

-- a map that holds a value is begun over its entries
turn_count : (es : Entries) → entry_of (count_vals (in_turn es)) ≡ count_entries es
turn_count no_entries = refl
turn_count (entry key held es) = ap suc (turn_count es)

entries_base : (v : Val) {vs : Vals} → entries_of v ≡ Some vs → base_in v ≤ entry_of (count_vals vs)
entries_base (map_of es) {vs} e =
    let same : in_turn es ≡ vs = cc in
    let counted : entry_of (count_vals (in_turn es)) ≡ entry_of (count_vals vs)
    = ap (λ (ws : Vals). entry_of (count_vals ws)) same in
    omega (arith, turn_count es, counted)
entries_base _ e = absurd (cc)

over_base_past : (tracker : Tracker) (v : Val) {vs : Vals} → parts_as tracker v ≡ Some vs
    → base_of_tracker (over_base tracker v) ≤ entry_of (count_vals vs)
over_base_past (as_entries (EntriesKind.Map base)) v {vs} e = entries_base v e
over_base_past _ v e = omega arith

-- no value has parts for a conversion
over_base_plain : (tracker : Tracker) (v : Val) {vs : Vals} → parts_as tracker v ≡ Some vs → is_conversion (over_base tracker v) ≡ false
over_base_plain (as_content (ContentKind.Source conversion)) v {vs} e = absurd (cc)
over_base_plain (as_entries (EntriesKind.Map base)) v {vs} e = refl
over_base_plain (as_entries (EntriesKind.Object keys)) v {vs} e = refl
over_base_plain _ v {vs} e = refl

opened_keeps : (tracker : Tracker) (count : ℕ) (plot : Plot) → MayHave tracker count → base_of_tracker tracker ≡ 0
    → KeepsChildren plot (opened_plot tracker count plot)
opened_keeps tracker count entered_plot may none =
    keeps_closed entered_plot (begun_plot tracker (gones count)) (gones_may tracker count may)
    (gones_unplaced count) (λ h. gones_left tracker 0 count none)
opened_keeps tracker count (whole_plot v) may none =
    keeps_closed (whole_plot v) (opened_whole tracker v (parts_as tracker v)) (so (parts_as tracker v) refl) (go (parts_as tracker v))
    (λ h. left (parts_as tracker v) refl)
  where
    so : (parts : Option Vals) → parts_as tracker v ≡ parts → MayHaveIts (body_in (opened_whole tracker v parts))
    so (Some vs) e = parts_may tracker v e
    so None e = tt

    left : (parts : Option Vals) → parts_as tracker v ≡ parts → AreLeftIn (opened_whole tracker v parts)
    left (Some vs) e = theres_left (over_base tracker v) 0 vs {m = count_vals vs} (omega arith) (over_base_past tracker v e)
        (over_base_plain tracker v e)
    left None e = tt

    go : (parts : Option Vals) → IsClosed (body_in (opened_whole tracker v parts))
    go (Some vs) = theres_unplaced vs
    go None = tt
opened_keeps tracker count (begun_plot made kids) may none = keeps_same (begun_plot made kids)

opened_loses : (tracker : Tracker) (count : ℕ) (plot : Plot) → LosesNone plot (opened_plot tracker count plot)
opened_loses tracker count entered_plot n = omega arith
opened_loses tracker count _ n = omega arith

-- its children stay in their slots
opened_stay : (slot : ℕ) (tracker : Tracker) (count : ℕ) (plot : Plot)
    → AllStayPut (at slot false plot) (at slot false (opened_plot tracker count plot))
opened_stay slot tracker count plot [] placed = (record { reaches = tt; here = tt }, refl)
opened_stay slot tracker count (begun_plot made kids) (i ∷ place) placed = (placed, refl)
opened_stay slot tracker count _ (i ∷ place) placed = absurd placed.reaches

-- the top is begun
pub open_begun : {plan : Plan} {before : List Slot} (after : List Slot) {stack : List ℕ} (open_now : IsOpen plan before stack)
    {n : ℕ} → IsLast stack n → (tracker : Tracker) (count : ℕ) → MayHave tracker count → base_of_tracker tracker ≡ 0
    → Shows after (with_body (heap_of before) n (opened tracker count)) → IsOpenAt plan after stack (cursor_in before stack)
    (change_at (cursor_in before stack) (opened_as tracker count) (tree_in_slots before stack))
open_begun {plan} {before} after {stack} open_now {n} last tracker count may none shows =
    let place : Place = cursor_in before stack in
    let k : Kid = kid_shown (heap_of before) stack in
    let top = open_top open_now in
    let new : Plot = opened_plot tracker count top.plot in
    let same : change_at place (λ old. tree_in new) (tree_of k) ≡ change_at place (opened_as tracker count) (tree_of k)
    = sym (tree_put_at place (at top.slot false new) k) ∙ tree_change_at place (opened_as tracker count) (at top.slot false new) k
    (opened_tree tracker count top.plot ∙ ap (opened_as tracker count) (ap tree_of (sym top.is) ∙ tree_of_at place k)) in
    subst (λ (t : Tree). IsOpenAt plan after stack place t)
    same (top_changed after open_now last (opened tracker count) (opened_body tracker count top.plot)
    (opened_keeps tracker count top.plot may none) (opened_loses tracker count top.plot) shows)

-- no place leaves its slot
pub stay_begun : {plan : Plan} {before : List Slot} (after : List Slot) {stack : List ℕ} (open_now : IsOpen plan before stack)
    {n : ℕ} → IsLast stack n → (tracker : Tracker) (count : ℕ) → MayHave tracker count → base_of_tracker tracker ≡ 0 → Shows
    after (with_body (heap_of before) n (opened tracker count)) → AllStayPut (kid_here before stack) (kid_here after stack)
stay_begun {plan} {before} after {stack} open_now {n} last tracker count may none shows =
    let place : Place = cursor_in before stack in
    let k : Kid = kid_here before stack in
    let top = open_top open_now in
    let new : Plot = opened_plot tracker count top.plot in
    stay_shown after k (top_stands after open_now last (opened tracker count) (opened_body tracker count top.plot)
    (opened_keeps tracker count top.plot may none) shows) (stay_all place (at top.slot false new) k (open_reach open_now)
    (subst (λ (x : Kid). AllStayPut x (at top.slot false new)) (sym top.is) (opened_stay top.slot tracker count top.plot)))
