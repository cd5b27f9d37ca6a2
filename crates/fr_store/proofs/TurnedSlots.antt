-- Laws of a turn in slots: from what its calls say to what it owes.
use Rattle.std.proofs.Common.{◌≡◌, ◌≢◌, ◌⊎◌, ℕ, ◌<◌, ◌≤◌, Bool, true, false, List, [], ◌∷◌, ◌++◌, Option, Some, None, inl, inr, refl, sym, ◌∙◌, ap, ap₂, subst, arith}
use Rattle.std.specs.Option.{option_and_then}
use Rattle.std.specs.Prelude.{is_some, IsSome, IsSomeAnd, if◌then◌else◌}
use Rattle.fr_shape.specs.Hooks.{gives as gives_value}
use Rattle.fr_shape.specs.Look.{IsIn}
use Rattle.fr_store.specs.Below.{Body, Cell, Closes, ClosingKeepsCompletion, ClosingKeepsFailures, ClosingKeepsFailuresOff, ClosingKeepsFinish, ContentKind, Conversion, FillsAt, FrameOwner, HasATurn, HasPlace, Heap, IfInUse, IsChecked, IsClosed, IsInUse, IsOffTheWay, IsPlanFor, Kid, LookupPathsAgree, LookupsAgree, MayComplete, MayHave, Meanings, Node, NodesAreReached, Place, Plan, ReachedHaveNodes, ReflectErrorKind, Shows, Slot, Table, Tracker, Tree, Val, WhyNotDefault, as_content, at, begun, begun_body, branch, cell_at, cell_of, cells_in, change_at, child_owner, child_tree, closed_at, complete, deferred_column, failures_off, finished, gives, heap_of, held_by, is_begun_conversion, is_conversion, is_conversion_body, no_trees, own_lack, own_tree, placed, shape_below, shape_in, shape_of, stored_in, there, tree_at, tree_of, trees_in, up, value_of, whole, whole_body, whole_plot, with_body, with_cell, with_slot, without}
use Rattle.fr_frame.specs.Converting.{conversion_above, conversion_in, conversion_of, conversion_over, raised, IsConverted, IsConvertible, IsRefused, IsSource, OfSource}
use Rattle.fr_model.specs.Conversions.{refusal_through}
use Rattle.fr_values.specs.Cells.{given}
use Rattle.fr_store.proofs.ClosingLaws.{closes_with, completes_still, shape_append, tree_append}
use Rattle.fr_store.proofs.MadeConversions.{converted_makes, none_converted, one_cell, some_converted, target_of, unconverted_lacks}
use Rattle.fr_store.proofs.DoneKids.{converts_is, up_is}
use Rattle.fr_store.proofs.FailTurns.{Converts, converts_of, turn_itself, turn_source}
use Rattle.fr_store.proofs.PlainLaws.{plain_at, plot_plain}
use Rattle.fr_store.specs.LeaveLaws.{cell_of_child}
use Rattle.fr_store.specs.MoveLaws.{open_at_from, open_reach}
use Rattle.fr_store.specs.StackMoves.{IsOpenAt, cursor_in, tree_in_slots}
use Rattle.fr_store.proofs.OffLaws.{reach_place}
use Rattle.fr_store.specs.ShapeLaws.{Along}
use Rattle.fr_store.specs.StandLaws.{kid_is}
use Rattle.fr_store.specs.Stands.{IsOpen, Stands}
use Rattle.fr_store.specs.Suited.{IsSuited}
use Rattle.fr_store.specs.TopLaws.{body_here, body_other, closed_tree, closed_uses, slot_here, slot_other}
use Rattle.fr_store.proofs.TurnLaws.{IsHandedUp, Over, above_turn, asked_still, due_alone, due_apart, due_found, due_node, due_off, due_over, handed_up, over_found, over_may_have, over_node, stands_converted, stands_turned}
use Rattle.fr_store.specs.Turning.{HasTurned, IsLackingAt, KeepsTheRest, MayTurn, kid_done, kid_here, made_whole}
use Rattle.fr_store.specs.Turns.{CompletesAsBefore, done_at, root_shape}
use Rattle.fr_store.specs.Walks.{IsStoredAt}
use Rattle.fr_store.specs.Ways.{count_kids, kid_at, kid_nth, put_at, put_nth, uses, Reaches}
use Rattle.fr_store.specs.WayLaws.{counts_other, same_or_other, tree_of_at, tree_put_at, uses_put_at}
use Rattle.fr_store.specs.TurnedLaws.{along_open, is_there, may_complete, shape_along}

-- The slot of a place whose turn it is.
module _ {plan : Plan} {before : List Slot} {stack : List ℕ} {n : ℕ} (open_now : IsOpen plan before stack)
    (due : MayTurn before stack n) where
  pub below : Node
  below = due_node plan due.place (kid_here before stack) due.plot

  pub found : heap_of before n ≡ Some below
  unfolding below
  found = due_found open_now.stands due.place due.reaches due.is

  pub due_in_use : IsInUse before n
  due_in_use = ap is_some found

  pub over : Over due.place (kid_here before stack) n due.plot
  over = due_over open_now.stands due.place due.reaches due.is

  -- what is said of the place in it
  said : (So : Node → Type 0) → IfInUse before n So → So below
  said So so = subst (λ (x : Option Node). IsSomeAnd x So) found so

  so_said : (So : Node → Type 0) → So below → IfInUse before n So
  so_said So so = subst (λ (x : Option Node). IsSomeAnd x So) (sym found) so

  owner : below.owner ≡ child_owner over.slot over.i
  unfolding below
  owner = over.owner

  own : own_tree below.body ≡ tree_at due.place (tree_in_slots before stack)
  unfolding below
  own = sym (closed_tree due.plot due.closed) ∙ ap tree_of (sym due.is) ∙ tree_of_at due.place (kid_here before stack)

  shut : IsClosed below.body
  unfolding below
  shut = due.closed

  module _ (agree : LookupsAgree) (paths : LookupPathsAgree) (reached : NodesAreReached) (nodes : ReachedHaveNodes) {table : Table}
      (checked : IsChecked table) (by : IsPlanFor table plan) (suits : IsSuited table (root_shape plan) (tree_in_slots before stack)) where
    -- the tree, and its root's shape
    abbrev tree : Tree
    tree = tree_in_slots before stack

    abbrev root : ℕ
    root = root_shape plan

    abbrev k : Kid
    k = kid_here before stack

    pub here : Along table plan below.node (shape_in table root due.place tree) (tree_at due.place tree)
    unfolding below
    here = along_open agree paths reached nodes checked by k suits due.place due.reaches

    -- it is no conversion
    plain : is_conversion_body below.body ≡ false
    unfolding below
    plain = plain_at table root due.place k suits.suits open_now.stands.left due.reaches due.is due.closed

    pub may_be_completed : IfInUse before n (MayComplete table plan)
    may_be_completed = so_said (λ (x : Node). MayComplete table plan x) (may_complete below here own shut plain)

    shape : shape_of plan below.node ≡ shape_in table root due.place tree
    shape = shape_along here

    stored : IsStoredAt k n due.place
    stored = record { plot = due.plot; reaches = due.reaches; is = due.is }

    not_converting : is_begun_conversion (tree_at due.place tree) ≡ false
    not_converting =
        ap is_begun_conversion (sym (tree_of_at due.place k) ∙ ap tree_of due.is) ∙ plot_plain due.plot
        ∙ plain_at table root due.place k suits.suits open_now.stands.left due.reaches due.is due.closed

    -- why it is refused
    pub refused : (means : Meanings) (kind : ReflectErrorKind)
        → IfInUse before n (λ (x : Node). WhyNotDefault means table (shape_of plan x.node) x.body kind)
        → (kind ≡ ReflectErrorKind.OutOfMemory) ⊎ IsLackingAt means table plan before stack n kind
    refused means kind why = go (said (λ (x : Node). WhyNotDefault means table (shape_of plan x.node) x.body kind) why)
      where
        go : WhyNotDefault means table (shape_of plan below.node) below.body kind
            → (kind ≡ ReflectErrorKind.OutOfMemory) ⊎ IsLackingAt means table plan before stack n kind
        go (inl lacking) = inr (record {
          place = due.place;
          stored = stored;
          here = due.place;
          turn = turn_itself due.place tree not_converting;
          incomplete =
              ap (λ (s : ℕ). complete deferred_column means table s (tree_at due.place tree)) (sym shape)
              ∙ ap (complete deferred_column means table (shape_of plan below.node)) (sym own) ∙ lacking.incomplete;
          lacks =
              ap (λ (s : ℕ). own_lack means table s (tree_at due.place tree)) (sym shape)
              ∙ ap (own_lack means table (shape_of plan below.node)) (sym own) ∙ lacking.lacks;
        })
        go (inr wants) = inl wants.memory

    converts_so : is_begun_conversion (tree_at (up due.place) tree) ≡ is_conversion over.tracker
    converts_so = converts_is over

    apart : n ≢ over.slot
    apart = due_apart open_now.stands due.place due.reaches due.is over

    above : Node
    above = over_node plan over

    above_found : heap_of before over.slot ≡ Some above
    unfolding above
    above_found = over_found open_now.stands due.place due.reaches due.is over

    above_begun : above.body ≡ begun_body over.tracker (cells_in over.kids)
    unfolding above
    above_begun = refl

    may : MayHave over.tracker (count_kids over.kids)
    may = over_may_have open_now.stands due.place due.reaches due.is over

    child : cell_of (kid_nth over.i over.kids) ≡ placed n
    child = ap cell_of over.child

    -- It is completed.
    module _ (means : Meanings) (first : List Slot)
        (filled : IfInUse before n (FillsAt deferred_column means table plan before first n)) where
      fills : FillsAt deferred_column means table plan before first n below
      fills = said (λ (x : Node). FillsAt deferred_column means table plan before first n x) filled

      abbrev now : Node
      now = record below { body = fills.body }

      first_found : heap_of first n ≡ Some now
      first_found = fills.becomes n ∙ slot_here (heap_of before) n (Some now)

      first_over : heap_of first over.slot ≡ Some above
      first_over =
          fills.becomes over.slot ∙ slot_other (heap_of before) n (Some now) over.slot (λ e. apart (sym e)) ∙ above_found

      -- what is said of what lies in its slot then
      said_first : (So : Node → Type 0) → IfInUse first n So → So now
      said_first So so = subst (λ (o : Option Node). IsSomeAnd o So) first_found so

      so_first : (So : Node → Type 0) → So now → IfInUse first n So
      so_first So so = subst (λ (o : Option Node). IsSomeAnd o So) (sym first_found) so

      -- the value that the place makes
      abbrev v : Val
      v = fills.filled.value

      makes : complete deferred_column means table (shape_in table root due.place tree) (tree_at due.place tree) ≡ Some v
      makes =
          ap (λ (s : ℕ). complete deferred_column means table s (tree_at due.place tree)) (sym shape)
          ∙ ap (complete deferred_column means table (shape_of plan below.node)) (sym own) ∙ fills.filled.meant

      -- the place above has it there
      pub owned_first : IfInUse first n (λ (x : Node). held_by (heap_of first) x.owner ≡ Some (placed n))
      owned_first =
          so_first (λ (x : Node). held_by (heap_of first) x.owner ≡ Some (placed n)) (ap (held_by (heap_of first)) owner
          ∙ ap (option_and_then (λ (x : Node). cell_at x.body over.i)) first_over
          ∙ ap (λ (b : Body). cell_at b over.i) above_begun
          ∙ cell_of_child over.tracker over.i over.kids may over.within ∙ ap (λ (c : Cell). Some c) child)

      -- the conversion whose source it is, if it is one's
      over_so : conversion_over (heap_of first) n ≡ conversion_of over.tracker
      over_so =
          ap (option_and_then (λ (x : Node). conversion_above (heap_of first) x.owner)) first_found
          ∙ ap (conversion_above (heap_of first)) owner
          ∙ ap (option_and_then (λ (x : Node). conversion_in x.body)) first_over ∙ ap conversion_in above_begun

      -- Something became whole by it: this place, or the conversion above.
      module _ (last : List Slot) (d : Place) (new : Kid) (w : Val) (body : Body) (tree_is : tree_of new ≡ whole w)
          (done_is : done_at due.place tree ≡ d) (kid_is_done : kid_done due.place tree w k ≡ new) (reach : Reaches d k)
          (value : complete deferred_column means table (shape_in table root d tree) (tree_at d tree) ≡ Some w)
          (turn : HasATurn (cursor_in before stack) d tree)
          (up_to : IsHandedUp (heap_of before) (heap_of last) n over.slot above body)
          (stands : Stands plan (heap_of last) stack (cursor_in before stack) (put_at d new k))
          (serves : (m : ℕ) → m ≢ n → uses k m ≤ uses (put_at d new k) m) where
        -- each slot in use is that of a place
        all_after : (m : ℕ) → IsSome (heap_of last m) → 0 < uses (put_at d new k) m
        all_after m used = go (same_or_other m n)
          where
            go : (m ≡ n) ⊎ (m ≢ n) → 0 < uses (put_at d new k) m
            go (inl e) =
                let none : false ≡ true = sym (ap (λ (x : ℕ). is_some (heap_of last x)) e ∙ ap is_some up_to.free) ∙ used in
                absurd (cc)
            go (inr ne) =
                let served = open_now.all m (sym (asked_still up_to is_some refl m ne) ∙ used) in
                omega (arith, serves m ne)

        tree_after : tree_of (put_at d new k) ≡ closed_at d w tree
        tree_after = tree_put_at d new k ∙ ap (λ (t : Tree). change_at d (λ old. t) tree) tree_is

        kid_after : kid_here last stack ≡ put_at d new k
        kid_after = kid_is stands

        open_after : IsOpenAt plan last stack (cursor_in before stack) (closed_at d w tree)
        open_after = open_at_from last stands all_after tree_after

        turned_so : HasTurned means table plan before stack last n
        turned_so = record {
          place = due.place;
          stored = stored;
          value = w;
          meant =
              ap (λ (p : Place). complete deferred_column means table (shape_in table root p tree) (tree_at p tree)) done_is ∙ value;
          stands =
              subst (λ (p : Place). IsOpenAt plan last stack (cursor_in before stack) (change_at p (λ old. whole w) tree))
              (sym done_is) open_after;
          here = kid_after ∙ ap₂ (λ (p : Place) (x : Kid). put_at p x k) (sym done_is) (sym kid_is_done);
          free = up_to.free;
          others = asked_still up_to is_some refl;
          marks = asked_still up_to stored_in refl;
        }

        closing : Closes means table root d w tree
        closing = closes_with means table root d tree (reach_place d k reach) value

        rest_so : ClosingKeepsCompletion → ClosingKeepsFailures → ClosingKeepsFinish → ClosingKeepsFailuresOff
            → KeepsTheRest means table plan before stack last
        rest_so completion failing finish failing_off = record {
          still = λ slot place lies. as_before place lies.reaches;
          cursor =
              as_before (cursor_in before stack) (subst (λ (p : Place). Reaches p (kid_here last stack)) open_after.cursor
              (open_reach open_after.open_still));
          finish =
              ap (finished means table root (cursor_in before stack)) open_after.built
              ∙ finish means table root (cursor_in before stack) d w tree closing turn;
          failing = λ path. ap (failures_off means table root path (cursor_in before stack)) open_after.built
              ∙ failing_off means table root path (cursor_in before stack) d w tree closing turn;
        }
          where
            as_before : (place : Place) → Reaches place (kid_here last stack)
                → CompletesAsBefore means table root tree (tree_in_slots last stack) place
            as_before place lies =
                let reaches : Reaches place (put_at d new k) = subst (λ (x : Kid). Reaches place x) kid_after lies in
                let has : HasPlace place (closed_at d w tree)
                = subst (λ (t : Tree). HasPlace place t) tree_after (reach_place place (put_at d new k) reaches) in
                subst (λ (t : Tree). CompletesAsBefore means table root tree t place) (sym open_after.built)
                (completes_still completion failing place closing has)

      -- Its value is handed up, where the place above is no conversion.
      module _ (last : List Slot) (no_conversion : conversion_over (heap_of first) n ≡ None)
          (handed : IfInUse first n (λ (x : Node). (w : Val) → value_of x.body ≡ Some w
          → Shows last (gives x.owner w (without (heap_of first) n x.owner)))) where
        unconverted : is_conversion over.tracker ≡ false
        unconverted = none_converted over.tracker (sym over_so ∙ no_conversion)

        converting : is_begun_conversion (tree_at (up due.place) tree) ≡ false
        converting = converts_so ∙ unconverted

        -- all slots once its own is free and the place above hasn't it any more
        abbrev mid : Heap
        mid = without (heap_of first) n below.owner

        ends : (m : ℕ) → heap_of last m ≡ with_body mid over.slot (λ old. with_cell old over.i (given v)) m
        ends m =
            said_first (λ (x : Node). (w : Val) → value_of x.body ≡ Some w
            → Shows last (gives x.owner w (without (heap_of first) n x.owner))) handed v fills.filled.held m
            ∙ ap (λ (o : FrameOwner). gives o v mid m) owner

        handed_over : IsHandedUp (heap_of before) (heap_of last) n over.slot above
            (begun_body over.tracker (cells_in (put_nth over.i (there v) over.kids)))
        handed_over =
            handed_up (heap_of before) (heap_of first) mid (heap_of last) n over.slot over.i fills.body over.kids v apart found
            above_found above_begun may over.within child owner fills.becomes (λ m. refl) ends

        stands_after : Stands plan (heap_of last) stack (cursor_in before stack) (put_at due.place (there v) k)
        unfolding above
        stands_after =
            stands_turned open_now.stands due.place due.reaches due.is over v unconverted due.closed handed_over

        serves_still : (m : ℕ) → m ≢ n → uses k m ≤ uses (put_at due.place (there v) k) m
        serves_still m ne =
            let replaced = uses_put_at due.place (there v) k m due.reaches in
            let is = ap (λ (x : Kid). uses x m) due.is in
            let other = counts_other n m (λ e. ne (sym e)) in
            omega (arith, replaced, is, other, closed_uses due.plot m due.closed)

        done_is : done_at due.place tree ≡ due.place
        done_is = ap (λ (b : Bool). if b then up due.place else due.place) converting

        kid_is_done : kid_done due.place tree v k ≡ there v
        kid_is_done = ap (λ (b : Bool). if b then made_whole v (kid_at (up due.place) k) else there v) converting

        pub has_turned : HasTurned means table plan before stack last n
        has_turned =
            turned_so last due.place (there v) v (begun_body over.tracker (cells_in (put_nth over.i (there v) over.kids))) refl done_is
            kid_is_done due.reaches makes (inl (due_off open_now.stands due.place due.reaches due.is)) handed_over stands_after serves_still

        pub keeps_the_rest : ClosingKeepsCompletion → ClosingKeepsFailures → ClosingKeepsFinish → ClosingKeepsFailuresOff
            → KeepsTheRest means table plan before stack last
        keeps_the_rest =
            rest_so last due.place (there v) v (begun_body over.tracker (cells_in (put_nth over.i (there v) over.kids))) refl done_is
            kid_is_done due.reaches makes (inl (due_off open_now.stands due.place due.reaches due.is)) handed_over stands_after serves_still

      -- It is converted, where that is one.
      module _ (is_some_conversion : is_some (conversion_over (heap_of first) n) ≡ true) where
        converted : (c : Conversion) × (over.tracker ≡ as_content (ContentKind.Source c))
        converted = some_converted over.tracker (ap is_some (sym over_so) ∙ is_some_conversion)

        abbrev c : Conversion
        c = converted.0

        is_one : is_conversion over.tracker ≡ true
        is_one = ap is_conversion converted.1

        converting_up : is_begun_conversion (tree_at (up due.place) tree) ≡ true
        converting_up = converts_so ∙ is_one

        alone : count_kids over.kids ≤ 1
        alone = subst (λ (f : Tracker). MayHave f (count_kids over.kids)) converted.1 may

        first_child : over.i ≡ 0
        first_child = omega (arith, over.within, alone)

        cells_are : cells_in over.kids ≡ placed n ∷ []
        cells_are =
            one_cell over.kids alone (omega (arith, over.within)) (ap (λ (j : ℕ). kid_nth j over.kids) (sym first_child) ∙ over.child)

        -- the source, in slots
        source_now : IsSource (heap_of first) n now above c
        source_now = record {
          parent = record { 0 = over.slot };
          owner = owner ∙ ap (child_owner over.slot) first_child;
          here = first_over;
          begun =
              above_begun ∙ ap (λ (f : Tracker). begun_body f (cells_in over.kids)) converted.1
              ∙ ap (begun_body (as_content (ContentKind.Source c))) cells_are;
        }

        -- where the conversion stands
        here_above : Along table plan above.node (shape_in table root over.above tree) (tree_at over.above tree)
        unfolding above
        here_above = along_open agree paths reached nodes checked by k suits over.above over.reach

        abbrev s : ℕ
        s = shape_in table root over.above tree

        converting_above : is_begun_conversion (tree_at over.above tree) ≡ true
        converting_above = ap (λ (p : Place). is_begun_conversion (tree_at p tree)) (sym (up_is over)) ∙ converting_up

        begun_above : tree_at over.above tree ≡ begun over.tracker (trees_in over.kids)
        begun_above = sym (tree_of_at over.above k) ∙ ap tree_of over.is

        -- with its source, which makes the value
        stands_above : Converts (tree_at over.above tree)
        stands_above = converts_of table s (tree_at over.above tree) here_above.suits converting_above

        same_conversion : stands_above.conversion ≡ c
        same_conversion =
            let both : begun (as_content (ContentKind.Source stands_above.conversion)) (branch stands_above.source no_trees)
            ≡ begun (as_content (ContentKind.Source c)) (trees_in over.kids)
            = sym stands_above.is ∙ begun_above ∙ ap (λ (f : Tracker). begun f (trees_in over.kids)) converted.1 in
            cc

        way : due.place ≡ over.above ++ 0 ∷ []
        way = over.is_below ∙ ap (λ (j : ℕ). over.above ++ j ∷ []) first_child

        source_value : complete deferred_column means table stands_above.conversion.source stands_above.source ≡ Some v
        source_value =
            sym (ap (λ (t : Tree). complete deferred_column means table (shape_below table s 0 t) (child_tree 0 t)) stands_above.is)
            ∙ sym (ap₂ (complete deferred_column means table) (shape_append table root over.above (0 ∷ []) tree)
            (tree_append over.above (0 ∷ []) tree))
            ∙ ap (λ (p : Place). complete deferred_column means table (shape_in table root p tree) (tree_at p tree)) (sym way) ∙ makes

        shape_above : shape_of plan above.node ≡ s
        shape_above = shape_along here_above

        target : IsIn table (shape_of plan above.node)
        target = subst (IsIn table) (sym shape_above) (target_of table s (tree_at over.above tree) here_above.suits converting_above)

        pub convertible : IfInUse first n (IsConvertible table plan (heap_of first) n)
        convertible = so_first (IsConvertible table plan (heap_of first) n) (record {
          above = above;
          conversion = c;
          source = source_now;
          planned = is_there plan.nodes above.node.0 here_above.node_is.there;
          target = target;
        })

        -- why it isn't converted
        pub unconverted_why : (kind : ReflectErrorKind) → (kind ≡ ReflectErrorKind.OutOfMemory)
            ⊎ IfInUse first n (λ (x : Node). OfSource (heap_of first) n x
            (λ up conversion value. IsRefused means table (shape_of plan up.node) conversion value kind))
            → (kind ≡ ReflectErrorKind.OutOfMemory) ⊎ IsLackingAt means table plan before stack n kind
        unconverted_why kind (inl memory) = inl memory
        unconverted_why kind (inr why) =
            let so = said_first (λ (x : Node). OfSource (heap_of first) n x
            (λ up conversion value. IsRefused means table (shape_of plan up.node) conversion value kind)) why above c v source_now
            fills.filled.held in
            let refusal : refusal_through stands_above.conversion.through stands_above.conversion.source s
            (means.convert table stands_above.conversion.hook s v) ≡ Some kind
            = ap (λ (x : Conversion). refusal_through x.through x.source s (means.convert table x.hook s v)) same_conversion
            ∙ ap (λ (m : ℕ). refusal_through c.through c.source m (means.convert table c.hook m v)) (sym shape_above) ∙ so in
            let lacking = unconverted_lacks means table s stands_above source_value refusal in
            inr (record {
              place = due.place;
              stored = stored;
              here = over.above;
              turn = turn_source over.above tree converting_above ∙ sym way;
              incomplete = lacking.0;
              lacks = lacking.1;
            })

        module _ (last : List Slot) (result : IfInUse first n (λ (x : Node). OfSource (heap_of first) n x
            (λ up. IsConverted means table first last n x.owner (shape_of plan up.node)))) where
          is_converted : IsConverted means table first last n now.owner (shape_of plan above.node) c v
          is_converted =
              said_first (λ (x : Node). OfSource (heap_of first) n x
              (λ up. IsConverted means table first last n x.owner (shape_of plan up.node))) result above c v source_now
              fills.filled.held

          abbrev w : Val
          w = is_converted.result

          given_so : means.convert table stands_above.conversion.hook s v ≡ gives_value w
          given_so =
              ap (λ (x : Conversion). means.convert table x.hook s v) same_conversion
              ∙ ap (λ (m : ℕ). means.convert table c.hook m v) (sym shape_above) ∙ is_converted.meant

          value_above : complete deferred_column means table s (tree_at over.above tree) ≡ Some w
          value_above = converted_makes means table s stands_above source_value given_so

          ends_above : (m : ℕ) → heap_of last m ≡ with_body (with_slot (heap_of first) n None) over.slot (λ old. whole_body w) m
          ends_above m = is_converted.raised m ∙ ap (λ (o : FrameOwner). raised n o w (heap_of first) m) owner

          raised_over : IsHandedUp (heap_of before) (heap_of last) n over.slot above (whole_body w)
          raised_over = record {
            found = above_found;
            over =
                ends_above over.slot ∙ body_here (with_slot (heap_of first) n None) over.slot (λ old. whole_body w)
                (slot_other (heap_of first) n None over.slot (λ e. apart (sym e)) ∙ first_over);
            free =
                ends_above n ∙ body_other (with_slot (heap_of first) n None) over.slot (λ old. whole_body w) n apart
                ∙ slot_here (heap_of first) n None;
            other = λ m a b. ends_above m ∙ body_other (with_slot (heap_of first) n None) over.slot (λ old. whole_body w) m a
                ∙ slot_other (heap_of first) n None m b ∙ fills.becomes m ∙ slot_other (heap_of before) n (Some now) m b;
          }

          abbrev new : Kid
          new = at over.slot over.mark (whole_plot w)

          stands_whole : Stands plan (heap_of last) stack (cursor_in before stack) (put_at over.above new k)
          unfolding above
          stands_whole =
              stands_converted open_now.stands due.place due.reaches due.is over alone w due.closed raised_over

          serves_whole : (m : ℕ) → m ≢ n → uses k m ≤ uses (put_at over.above new k) m
          serves_whole m ne =
              let replaced = uses_put_at over.above new k m over.reach in
              let is = ap (λ (x : Kid). uses x m) over.is in
              let other = counts_other n m (λ e. ne (sym e)) in
              omega (arith, replaced, is, other, due_alone open_now.stands due.place due.reaches due.is over alone m due.closed)

          done_is_above : done_at due.place tree ≡ over.above
          done_is_above = ap (λ (b : Bool). if b then up due.place else due.place) converting_up ∙ up_is over

          kid_is_above : kid_done due.place tree w k ≡ new
          kid_is_above =
              ap (λ (b : Bool). if b then made_whole w (kid_at (up due.place) k) else there w) converting_up
              ∙ ap (λ (p : Place). made_whole w (kid_at p k)) (up_is over) ∙ ap (made_whole w) over.is

          turn_above : HasATurn (cursor_in before stack) over.above tree
          turn_above = go (above_turn open_now.stands due.place due.reaches due.is over alone)
            where
              go : IsOffTheWay (cursor_in before stack) over.above ⊎ (cursor_in before stack ≡ over.above)
                  → HasATurn (cursor_in before stack) over.above tree
              go (inl off) = inl off
              go (inr e) = inr (e, converting_above)

          pub turned_above : HasTurned means table plan before stack last n
          turned_above =
              turned_so last over.above new w (whole_body w) refl done_is_above kid_is_above over.reach value_above turn_above raised_over
              stands_whole serves_whole

          pub rest_above : ClosingKeepsCompletion → ClosingKeepsFailures → ClosingKeepsFinish → ClosingKeepsFailuresOff
              → KeepsTheRest means table plan before stack last
          rest_above =
              rest_so last over.above new w (whole_body w) refl done_is_above kid_is_above over.reach value_above turn_above raised_over
              stands_whole serves_whole
