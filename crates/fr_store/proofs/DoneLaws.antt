-- Laws of the place at which a builder works, for proofs: at the end of deferred mode, nothing being stored, it is finished.
use Rattle.std.proofs.Common.{◌≡◌, ◌≢◌, ◌⊎◌, ℕ, suc, ◌+◌, ◌≤◌, length, true, false, List, [], ◌∷◌, Option, option_map, Some, None, inl, inr, refl, sym, ◌∙◌, ap, ap₂, subst, arith}
use Rattle.std.specs.Prelude.{◌||◌, Bool, IsSomeAnd, if◌then◌else◌}
use Rattle.fr_shape.specs.declared.error.ReflectErrorKind.{ReflectErrorKind}
use Rattle.fr_shape.specs.Checked.{IsChecked}
use Rattle.fr_shape.specs.Hooks.{Meanings}
use Rattle.fr_shape.specs.Look.{Table}
use Rattle.fr_shape.specs.Fits.{count_vals}
use Rattle.fr_shape.specs.Val.{Val, Vals, no_vals, first, list_of}
use Rattle.fr_model.specs.Complete.{complete, complete_all, failing_child, hole_takes, unless_failing, valid_child, value_as}
use Rattle.fr_model.specs.Failing.{own_lack}
use Rattle.fr_model.specs.Finish.{begun_with, finished_here, is_made_whole}
use Rattle.fr_model.specs.Places.{Place, entry_of, deferred_column, one_more, vals_nth}
use Rattle.fr_model.specs.Trackers.{Tracker, as_fields, as_elements, as_content, ContentKind, as_items, ItemsKind, base_of_tracker, is_conversion}
use Rattle.fr_model.specs.Tree.{Tree, whole, begun, Trees, no_trees, branch, change_at, child_as, count_trees, for_hole, shape_in, tree_at, wholes}
use Rattle.fr_model.specs.Conversions.{taken}
use Rattle.fr_store.specs.Suited.{IsSuited}
use Rattle.fr_plan.specs.ReachLaws.{NodesAreReached, ReachedHaveNodes}
use Rattle.fr_store.proofs.PlainLaws.{plain_at}
use Rattle.fr_plan.specs.LookupLaws.{LookupsAgree, LookupPathsAgree}
use Rattle.fr_plan.specs.TypePlan.{Plan}
use Rattle.fr_frame.specs.declared.places.Slot.{Slot}
use Rattle.fr_frame.specs.Bodies.{Body, entered_body, whole_body, begun_body, gathers, is_conversion_body, own_tree, trees_of, value_of, IsClosed}
use Rattle.fr_values.specs.Cells.{Cell, given, values_of}
use Rattle.fr_frame.specs.Changes.{IfInUse, Shows}
use Rattle.fr_frame.specs.Completing.{shape_of, FillsAt, IsPlanFor, MayComplete}
use Rattle.fr_frame.specs.Defaults.{KeepGiven, KeepsTracker, WhyNotDefault}
use Rattle.fr_frame.specs.Heap.{Node, heap_of, stored_in, with_body, with_slot}
use Rattle.fr_frame.specs.Kids.{Kid, gone, MayHave, Plot, tree_of, cells_in, body_in, kids_in, begun_plot, AreLeftRightly, AreLeftIn, AreLeftAll}
use Rattle.fr_store.specs.ValueLaws.{made_of, made_value, more_is, values_count}
use Rattle.fr_store.specs.HereLaws.{body_back, closed_plot, tree_back, value_closed}
use Rattle.fr_store.specs.LeftLaws.{left_at, left_end, left_value}
use Rattle.fr_store.specs.MoveLaws.{closed_open, open_reach, open_top, so_top, top_changed, top_found, top_node, top_so}
use Rattle.fr_store.specs.StackMoves.{IsOpenAt, cursor_in, tree_in_slots}
use Rattle.fr_store.specs.Numbers.{IsLast}
use Rattle.fr_store.specs.ShapeLaws.{Along}
use Rattle.fr_store.specs.Stands.{IsOpen}
use Rattle.fr_store.specs.Stored.{NothingStored}
use Rattle.fr_store.specs.TopLaws.{MayHaveIts, body_here, body_other, cells_count, held_may_have, closed_tree, keeps_closed, loses_none, marked_body, slot_here}
use Rattle.fr_store.specs.TurnedLaws.{along_open, count_of, may_complete, shape_along}
use Rattle.fr_store.specs.Turning.{FinishedHere, LacksHere, becomes_whole, kid_here}
use Rattle.fr_store.specs.Turns.{root_shape}
use Rattle.fr_store.specs.Ways.{node_along}
use Rattle.fr_store.specs.WayLaws.{same_or_other, tree_of_at}

-- Places that have a value.

values_whole : (cells : List Cell) (vs : Vals) → values_of cells ≡ Some vs → trees_of cells ≡ wholes vs
values_whole [] vs e = let same : no_vals ≡ vs = cc in ap wholes same
values_whole (given v ∷ cells) vs e =
    let rest = more_is v (values_of cells) e in
    ap (λ (ts : Trees). branch (whole v) ts) (values_whole cells rest.0 rest.1) ∙ ap wholes rest.2
values_whole (_ ∷ cells) vs e = absurd (cc)

-- what completes has a value for each child
completed_count : (means : Meanings) (table : Table) (s : ℕ) (tracker : Tracker) (i : ℕ) (ts : Trees) (vs : Vals)
    → complete_all deferred_column means table s tracker i ts ≡ Some vs → count_vals vs ≡ count_trees ts
completed_count means table s tracker i no_trees vs e = let same : no_vals ≡ vs = cc in ap count_vals (sym same)
completed_count means table s tracker i (branch t ts) vs e =
    go (valid_child means table s tracker i (for_hole t (hole_takes deferred_column table s tracker i)
    (complete deferred_column means table (child_as table s tracker i) t))) e
    (λ us is. completed_count means table s tracker (suc i) ts us is)
  where
    go : (value : Option Val) → one_more value (complete_all deferred_column means table s tracker (suc i) ts) ≡ Some vs
        → ((us : Vals) → complete_all deferred_column means table s tracker (suc i) ts ≡ Some us → count_vals us ≡ count_trees ts)
        → count_vals vs ≡ suc (count_trees ts)
    go None e counted = absurd (cc)
    go (Some v) e counted =
        let rest = more_is v (complete_all deferred_column means table s tracker (suc i) ts) e in
        ap count_vals (sym rest.2) ∙ ap suc (counted rest.0 rest.1)

same_one : (one others : Vals) → count_vals one ≡ count_vals others → count_vals one ≤ 1
    → vals_nth one 0 ≡ vals_nth others 0 → one ≡ others
same_one no_vals no_vals count few e = refl
same_one (first v no_vals) (first w no_vals) count few e = ap (λ (x : Val). first x no_vals) e
same_one _ _ count few e = absurd (omega arith)

same_list : (one others : Vals) → list_of one ≡ list_of others → one ≡ others
same_list one others e = cc

-- as many values of which the same is made, being so many as there may be, are the same; of those that a set, a map or a dynamic
-- value is put together of that is known otherwise
same_made : (tracker : Tracker) (one others : Vals) (v : Val) → (gathers tracker ≡ true → one ≡ others) → count_vals one ≡ count_vals others
    → MayHave tracker (count_vals one) → value_as tracker one ≡ v → value_as tracker others ≡ v → one ≡ others
same_made (as_fields None) one others v kept count may e f = cc
same_made as_elements one others v kept count may e f = cc
same_made (as_fields (Some k)) one others v kept count may e f = cc
same_made (as_content ContentKind.Some) one others v kept count may e f = same_one one others count may (cc)
same_made (as_content _) one others v kept count may e f = same_one one others count may (cc)
same_made (as_items ItemsKind.List) one others v kept count may e f = cc
same_made (as_items ItemsKind.Slice) one others v kept count may e f = same_list one others (cc)
same_made (as_items ItemsKind.ClosedSlice) one others v kept count may e f = same_list one others (cc)
same_made _ one others v kept count may e f = kept refl

-- of any child but a source its value is taken
taken_plain : (means : Meanings) (table : Table) (s : ℕ) (tracker : Tracker) (value : Option Val) → is_conversion tracker ≡ false
    → taken means table s tracker value ≡ value
taken_plain means table s (as_content (ContentKind.Source conversion)) value plain = cc
taken_plain means table s _ value plain = refl

-- what has a value is no conversion
value_plain : (tracker : Tracker) (cells : List Cell) {v : Val} → value_of (begun_body tracker cells) ≡ Some v
    → is_conversion tracker ≡ false
value_plain (as_content (ContentKind.Source conversion)) cells e = cc
value_plain _ cells e = refl

-- where a hole takes nothing, what completes has the value of each child that was there
none_valid : (failing : Option ReflectErrorKind) → unless_failing failing None ≡ None
none_valid (Some kind) = refl
none_valid None = refl

kept_values : (means : Meanings) (table : Table) (s : ℕ) (tracker : Tracker) → is_conversion tracker ≡ false
    → ((i : ℕ) → hole_takes deferred_column table s tracker i ≡ None) → (i : ℕ) (cells others : List Cell) (vs us : Vals)
    → complete_all deferred_column means table s tracker i (trees_of cells) ≡ Some vs → values_of others ≡ Some us
    → length others ≡ length cells → KeepGiven cells others → vs ≡ us
kept_values means table s tracker plain none i [] [] vs us e f long keep = cc
kept_values means table s tracker plain none i [] (d ∷ ds) vs us e f long keep = absurd (omega (arith, long))
kept_values means table s tracker plain none i (c ∷ cells) [] vs us e f long keep = absurd (omega (arith, long))
kept_values means table s tracker plain none i (given v ∷ cells) (d ∷ ds) vs us e f long keep =
    go (failing_child means table s tracker i (Some v)) (ap (λ (value : Option Val).
    one_more (unless_failing (failing_child means table s tracker i (Some v)) value)
    (complete_all deferred_column means table s tracker (suc i) (trees_of cells)))
    (sym (taken_plain means table s tracker (Some v) plain)) ∙ e)
    (λ ws is. kept_values means table s tracker plain none (suc i) cells ds ws rest.0 is rest.1 (omega (arith, long)) keep.1)
  where
    rest : (ws : Vals) × (values_of ds ≡ Some ws) × (first v ws ≡ us)
    rest = more_is v (values_of ds) (ap (λ (c : Cell). values_of (c ∷ ds)) (sym keep.0) ∙ f)

    go : (failing : Option ReflectErrorKind)
        → one_more (unless_failing failing (Some v)) (complete_all deferred_column means table s tracker (suc i) (trees_of cells)) ≡ Some vs
        → ((ws : Vals) → complete_all deferred_column means table s tracker (suc i) (trees_of cells) ≡ Some ws → ws ≡ rest.0)
        → vs ≡ us
    go (Some kind) e same = absurd (cc)
    go None e same =
        let more = more_is v (complete_all deferred_column means table s tracker (suc i) (trees_of cells)) e in
        sym more.2 ∙ ap (λ (ws : Vals). first v ws) (same more.0 more.1) ∙ rest.2
kept_values means table s tracker plain none i (_ ∷ cells) (d ∷ ds) vs us e f long keep =
    let lost : one_more None (complete_all deferred_column means table s tracker (suc i) (trees_of cells)) ≡ Some vs
    = sym (ap (λ (value : Option Val). one_more value (complete_all deferred_column means table s tracker (suc i) (trees_of cells)))
    (ap (valid_child means table s tracker i) (none i)
    ∙ ap (unless_failing (failing_child means table s tracker i None)) (taken_plain means table s tracker None plain)
    ∙ none_valid (failing_child means table s tracker i None))) ∙ e in
    absurd (cc)

none_taken : (table : Table) (s : ℕ) (tracker : Tracker) → gathers tracker ≡ true → (i : ℕ) → hole_takes deferred_column table s tracker i ≡ None
none_taken table s (as_fields selected) gather i = absurd (cc)
none_taken table s _ gather i = refl

-- what has a value has all its children: of a base none is missing, where there are as many as there were
given_left : (tracker : Tracker) (i : ℕ) (cells : List Cell) (vs : Vals) (m : ℕ) → is_conversion tracker ≡ false → m ≡ i + length cells → base_of_tracker tracker ≤ entry_of m
    → values_of cells ≡ Some vs → AreLeftAll tracker i (kids_in (λ slot. gone) cells)
given_left tracker i [] vs m plain long past e =
    let same : m ≡ i = omega arith in
    subst (λ (n : ℕ). base_of_tracker tracker ≤ entry_of n) same past
given_left tracker i (given v ∷ cells) vs m plain long past e =
    let rest = more_is v (values_of cells) e in
    (left_value tracker i v plain, tt, given_left tracker (suc i) cells rest.0 m plain (omega arith) past rest.1)
given_left tracker i (_ ∷ cells) vs m plain long past e = absurd (cc)

-- a place has the children of its base
abbrev HasBase : Body → Type 0
HasBase (begun_body tracker cells) = base_of_tracker tracker ≤ entry_of (length cells)
HasBase _ = Unit {0}

value_left : (body : Body) (v : Val) → HasBase body → value_of body ≡ Some v → AreLeftIn (closed_plot body)
value_left (begun_body tracker cells) v has e =
    let values = made_of tracker (values_of cells) (made_value tracker cells e) in
    given_left tracker 0 cells values.0 (length cells) (value_plain tracker cells e) (omega arith) has values.1
value_left _ v has e = tt

left_base : (plot : Plot) → AreLeftIn plot → HasBase (body_in plot)
left_base (begun_plot tracker kids) left = left_end tracker 0 kids (length (cells_in kids)) (omega (arith, cells_count kids)) left
left_base _ left = tt

-- what is so of a place by its tracker and the number of its children is so still
kept_body : (So : Body → Type 0) → ((tracker : Tracker) (cells others : List Cell) → length others ≡ length cells
    → So (begun_body tracker cells) → So (begun_body tracker others)) → (was now : Body) → becomes_whole was ≡ false
    → KeepsTracker was now → So was → So now
kept_body So step entered_body now e keeps so = absurd (cc)
kept_body So step (whole_body v) now e keeps so = subst So (sym keeps) so
kept_body So step (begun_body tracker cells) (begun_body other others) e keeps so =
    subst (λ (f : Tracker). So (begun_body f others)) (sym keeps.0) (step tracker cells others keeps.1 so)
kept_body So step (begun_body tracker cells) _ e keeps so = absurd keeps

-- what a place that doesn't become whole becomes, by the place that it was
finished_as : (means : Meanings) (table : Table) (s : ℕ) (was now : Body) (v : Val) → becomes_whole was ≡ false
    → MayHaveIts was → KeepsTracker was now → complete deferred_column means table s (own_tree was) ≡ Some v → value_of now ≡ Some v
    → finished_here means table s (own_tree was) ≡ Some (own_tree now)
finished_as means table s entered_body now v e may tracker makes held = absurd (cc)
finished_as means table s (whole_body w) now v e may tracker makes held = ap (λ (body : Body). Some (own_tree body)) (sym tracker)
finished_as means table s (begun_body tracker cells) (begun_body other others) v e may keeps makes held =
    let was = made_of tracker (complete_all deferred_column means table s tracker 0 (trees_of cells)) makes in
    let now = made_of other (values_of others) (made_value other others held) in
    let plain : is_conversion tracker ≡ false = ap is_conversion (sym keeps.0) ∙ value_plain other others held in
    let open_still : is_made_whole tracker ≡ false = ap₂ (λ (slice source : Bool). slice || source) e plain in
    let made_count : count_vals was.0 ≡ length cells
    = completed_count means table s tracker 0 (trees_of cells) was.0 was.1 ∙ count_of cells in
    let same : was.0 ≡ now.0 = same_made tracker was.0 now.0 v (λ gather. kept_values
    means table s tracker plain (none_taken table s tracker gather) 0 cells others was.0 now.0 was.1 now.1 keeps.1 keeps.2)
    (made_count ∙ sym keeps.1 ∙ sym (values_count others now.1)) (subst (λ (n : ℕ). MayHave tracker n) (sym made_count) may)
    was.2 (ap (λ (f : Tracker). value_as f now.0) (sym keeps.0) ∙ now.2) in
    ap (option_map (begun_with tracker)) was.1
    ∙ ap (λ (b : Bool). Some (if b then whole (value_as tracker was.0) else begun tracker (wholes was.0))) open_still
    ∙ ap (λ (vs : Vals). Some (begun tracker (wholes vs))) same
    ∙ ap (λ (ts : Trees). Some (begun tracker ts)) (sym (values_whole others now.0 now.1))
    ∙ ap (λ (f : Tracker). Some (begun f (trees_of others))) (sym keeps.0)
finished_as means table s (begun_body tracker cells) _ v e may keeps makes held = absurd keeps

-- what becomes whole does so with the value that it makes
whole_as : (means : Meanings) (table : Table) (s : ℕ) (was : Body) (v : Val) → becomes_whole was ≡ true
    → complete deferred_column means table s (own_tree was) ≡ Some v → finished_here means table s (own_tree was) ≡ Some (whole v)
whole_as means table s entered_body v e makes = ap (option_map whole) makes
whole_as means table s (whole_body w) v e makes = absurd (cc)
whole_as means table s (begun_body tracker cells) v e makes =
    let was = made_of tracker (complete_all deferred_column means table s tracker 0 (trees_of cells)) makes in
    ap (option_map (begun_with tracker)) was.1
    ∙ ap (λ (b : Bool). Some (if b || is_conversion tracker then whole (value_as tracker was.0) else begun tracker (wholes was.0))) e
    ∙ ap (λ (x : Val). Some (whole x)) was.2

-- The top, before it is completed.
module _ {plan : Plan} {before : List Slot} {stack : List ℕ} (open_now : IsOpen plan before stack) (n : ℕ)
    (last : IsLast stack n) (strict : NothingStored before) where
  abbrev place : Place
  place = cursor_in before stack

  abbrev tree : Tree
  tree = tree_in_slots before stack

  -- what is in its slot
  abbrev was : Node
  was = top_node open_now last

  closed : IsClosed (body_in (open_top open_now).plot)
  closed = closed_open open_now strict

  own : own_tree was.body ≡ tree_at place tree
  unfolding top_node
  own =
      let top = open_top open_now in
      sym (closed_tree top.plot closed) ∙ ap tree_of (sym top.is) ∙ tree_of_at place (kid_here before stack)

  its_may_have : MayHaveIts was.body
  unfolding top_node
  its_may_have =
      let top = open_top open_now in
      held_may_have plan (heap_of before) (node_along plan plan.root place (kid_here before stack)) top.slot (suc (length place))
      top.plot top.children

  shut : IsClosed was.body
  unfolding top_node
  shut = closed

  module _ (agree : LookupsAgree) (paths : LookupPathsAgree) (reached : NodesAreReached) (nodes : ReachedHaveNodes) {table : Table}
      (checked : IsChecked table) (by : IsPlanFor table plan) (suits : IsSuited table (root_shape plan) tree) where
    -- the shape of the place
    abbrev s : ℕ
    s = shape_in table (root_shape plan) place tree

    here : Along table plan was.node s (tree_at place tree)
    unfolding top_node
    here = along_open agree paths reached nodes checked by (kid_here before stack) suits place (open_reach open_now)

    -- it is no conversion
    plain : is_conversion_body was.body ≡ false
    unfolding top_node
    plain =
        plain_at table (root_shape plan) place (kid_here before stack) suits.suits open_now.stands.left (open_reach open_now)
        (open_top open_now).is closed

    pub top_may_complete : IfInUse before n (MayComplete table plan)
    top_may_complete = so_top open_now last (λ (x : Node). MayComplete table plan x) (may_complete was here own shut plain)

    shape : shape_of plan was.node ≡ s
    shape = shape_along here

    -- why it is refused
    pub top_refused : (means : Meanings) (kind : ReflectErrorKind)
        → IfInUse before n (λ (x : Node). WhyNotDefault means table (shape_of plan x.node) x.body kind)
        → (kind ≡ ReflectErrorKind.OutOfMemory) ⊎ LacksHere means table plan before stack kind
    top_refused means kind why =
        go (top_so open_now last (λ (x : Node). WhyNotDefault means table (shape_of plan x.node) x.body kind) why)
      where
        go : WhyNotDefault means table (shape_of plan was.node) was.body kind
            → (kind ≡ ReflectErrorKind.OutOfMemory) ⊎ LacksHere means table plan before stack kind
        go (inl lacking) =
            inr (ap (λ (x : ℕ). own_lack means table x (tree_at place tree)) (sym shape)
            ∙ ap (own_lack means table (shape_of plan was.node)) (sym own) ∙ lacking.lacks)
        go (inr wants) = inl wants.memory

    -- It is completed.
    module _ (means : Meanings) (first : List Slot)
        (filled : IfInUse before n (FillsAt deferred_column means table plan before first n)) where
      fills : FillsAt deferred_column means table plan before first n was
      fills = top_so open_now last (λ (x : Node). FillsAt deferred_column means table plan before first n x) filled

      first_found : heap_of first n ≡ Some (record was { body = fills.body })
      first_found = fills.becomes n ∙ slot_here (heap_of before) n (Some (record was { body = fills.body }))

      first_shows : Shows first (with_body (heap_of before) n (λ old. fills.body))
      first_shows m =
          fills.becomes m ∙ ap (λ (x : Option Node). with_slot (heap_of before)
          n (option_map (λ (y : Node). record y { body = fills.body }) x) m) (sym (top_found open_now last))

      -- in the end it has this body, and all else is as it was
      module _ (after : List Slot) (body : Body)
          (valued : value_of body ≡ Some fills.filled.value) (may : MayHaveIts body) (has_base : HasBase body)
          (meant : finished_here means table (shape_of plan was.node) (own_tree was.body) ≡ Some (own_tree body))
          (shows : Shows after (with_body (heap_of before) n (λ old. body))) where
        back : body_in (closed_plot body) ≡ body
        back = body_back body (value_closed body valued)

        finished_now : FinishedHere means table plan before stack after
        finished_now = record {
          tree = own_tree body;
          meant =
              ap (λ (x : ℕ). finished_here means table x (tree_at place tree)) (sym shape)
              ∙ ap (finished_here means table (shape_of plan was.node)) (sym own) ∙ meant;
          stands =
              subst (λ (t : Tree). IsOpenAt plan after stack place (change_at place (λ old. t) tree))
              (tree_back body) (top_changed after open_now last (λ old. body)
              back (keeps_closed (open_top open_now).plot (closed_plot body) (subst (λ (b : Body). MayHaveIts b) (sym back) may)
              (subst IsClosed (sym back) (value_closed body valued)) (λ all. value_left body fills.filled.value has_base valued))
              (loses_none (open_top open_now).plot (closed_plot body) closed) shows);
        }

        nothing_now : NothingStored after
        nothing_now m = ap stored_in (shows m) ∙ marked_body (heap_of before) n (λ old. body) m ∙ strict m

      -- one that stays as it was
      module _ (tracker : IfInUse before n (λ (x : Node). IfInUse first n (λ (y : Node). KeepsTracker x.body y.body)))
          (plain : IfInUse before n (λ (x : Node). false ≡ becomes_whole x.body)) where
        kept_so : KeepsTracker was.body fills.body
        kept_so =
            subst (λ (o : Option Node). IsSomeAnd o (λ (y : Node). KeepsTracker was.body y.body)) first_found
            (top_so open_now last (λ (x : Node). IfInUse first n (λ (y : Node). KeepsTracker x.body y.body)) tracker)

        not_whole : becomes_whole was.body ≡ false
        not_whole = sym (top_so open_now last (λ (x : Node). false ≡ becomes_whole x.body) plain)

        it_has_base : HasBase fills.body
        unfolding top_node
        it_has_base =
            kept_body HasBase
            (λ tracker cells others long has. subst (λ (n : ℕ). base_of_tracker tracker ≤ entry_of n) (sym long) has) was.body
            fills.body not_whole kept_so (left_base (open_top open_now).plot
            (subst (λ (x : Kid). AreLeftRightly x) (open_top open_now).is
            (left_at place (kid_here before stack) open_now.stands.left)))

        -- it is finished, and nothing is stored
        pub done_begun : FinishedHere means table plan before stack first × NothingStored first
        done_begun =
            let may : MayHaveIts fills.body = kept_body MayHaveIts
            (λ tracker cells others long has. subst (λ (n : ℕ). MayHave tracker n) (sym long) has) was.body fills.body not_whole
            kept_so its_may_have in
            let meant : finished_here means table (shape_of plan was.node) (own_tree was.body) ≡ Some (own_tree fills.body)
            = finished_as means table (shape_of plan was.node) was.body fills.body fills.filled.value not_whole its_may_have kept_so
            fills.filled.meant fills.filled.held in (
              finished_now first fills.body fills.filled.held may it_has_base meant first_shows,
              nothing_now first fills.body fills.filled.held may it_has_base meant first_shows,
            )

      -- one that becomes whole
      module _ (after : List Slot)
          (whole_then : IfInUse first n (λ (x : Node). (v : Val) → value_of x.body ≡ Some v
          → Shows after (with_body (heap_of first) n (λ old. whole_body v))))
          (plain : IfInUse before n (λ (x : Node). true ≡ becomes_whole x.body)) where
        abbrev new : Body → Body
        new old = whole_body fills.filled.value

        shows_whole : Shows after (with_body (heap_of before) n new)
        shows_whole m =
            subst (λ (o : Option Node). IsSomeAnd o (λ (x : Node). (v : Val) → value_of x.body ≡ Some v
            → Shows after (with_body (heap_of first) n (λ old. whole_body v)))) first_found whole_then fills.filled.value
            fills.filled.held m ∙ go (same_or_other m n)
          where
            go : (m ≡ n) ⊎ (m ≢ n) → with_body (heap_of first) n new m ≡ with_body (heap_of before) n new m
            go (inl e) =
                ap (with_body (heap_of first) n new) e ∙ body_here (heap_of first) n new first_found
                ∙ sym (body_here (heap_of before) n new (top_found open_now last)) ∙ ap (with_body (heap_of before) n new) (sym e)
            go (inr ne) =
                body_other (heap_of first) n new m ne ∙ first_shows m ∙ body_other (heap_of before) n (λ old. fills.body) m ne
                ∙ sym (body_other (heap_of before) n new m ne)

        pub done_whole : FinishedHere means table plan before stack after × NothingStored after
        done_whole =
            let meant : finished_here means table (shape_of plan was.node) (own_tree was.body) ≡ Some (whole fills.filled.value)
            = whole_as means table (shape_of plan was.node) was.body fills.filled.value
            (sym (top_so open_now last (λ (x : Node). true ≡ becomes_whole x.body) plain)) fills.filled.meant in (
              finished_now after (whole_body fills.filled.value) refl tt tt meant shows_whole,
              nothing_now after (whole_body fills.filled.value) refl tt tt meant shows_whole,
            )
