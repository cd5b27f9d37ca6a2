-- Laws of the end of a source on top, for proofs: its value is converted, and the place above is whole with what the hook makes of it.
use Rattle.std.proofs.Common.{◌≡◌, ◌≢◌, ◌⊎◌, ℕ, ◌+◌, ◌≤◌, true, false, List, [], ◌∷◌, ◌++◌, Some, length, inl, inr, refl, sym, ◌∙◌, ap, subst, arith}
use Rattle.std.specs.Prelude.{IsSome}
use Rattle.fr_shape.specs.Look.{IsIn}
use Rattle.fr_frame.specs.Converting.{IsConverted, IsConvertible, IsRefused, IsSource, OfSource}
use Rattle.fr_model.specs.Conversions.{refusal_through}
use Rattle.fr_store.specs.Common.{AreUnplaced, AtTop, ContentKind, Conversion, HasTracker, IfInUse, IsChecked, IsClosed, IsOpen, IsOpenAt, IsPlaced, IsSuited, Kid, Kids, MayHave, Meanings, Node, Place, Plan, ReflectErrorKind, SameMarks, Slot, StayPutBut, Table, Tracker, Tree, Val, as_content, at, begun, begun_body, begun_plot, body_in, cells_in, change_at, child_owner, count_kids, cursor_in, gone, heap_of, is_begun_conversion, is_conversion, is_root, kid, kid_at, kid_here, kid_nth, may_have_at, no_kids, node_along, owner_along, placed, put_nth, root_shape, shape_in, shape_of, slot_at, tree_at, tree_in_slots, tree_of, tree_of_at, tree_put_at, trees_in, up, up_append, uses, uses_among, value_of, whole, whole_body, whole_plot}
use Rattle.fr_frame.specs.Completing.{IsPlanFor}
use Rattle.fr_plan.specs.LookupLaws.{LookupPathsAgree, LookupsAgree}
use Rattle.fr_plan.specs.ReachLaws.{NodesAreReached, ReachedHaveNodes}
use Rattle.fr_frame.specs.declared.places.FrameOwner.{FrameOwner}
use Rattle.fr_store.specs.ConvertingSources.{shape_above, tree_above, IsConvertedUp, IsRefusedUp}
use Rattle.fr_store.specs.HereLaws.{value_closed}
use Rattle.fr_store.specs.MoveLaws.{same_last}
use Rattle.fr_store.specs.ShapeLaws.{Along}
use Rattle.fr_store.specs.TurnedLaws.{along_open, is_there, shape_along}
use Rattle.fr_store.proofs.MadeConversions.{one_cell, target_of}
use Rattle.fr_store.proofs.ValuesHandedOver.{Ending, Outcome, above_holds, child, child_uses, ending, found, goes_up, kid_then, node_now, now_so, place, reach, slot_now, so_now, some_value, top, way}
use Rattle.fr_store.proofs.SetKidLaws.{only_placed}
use Rattle.fr_store.proofs.PlacesBeside.{stay_at}

-- the tracker of a conversion
conversion_is : (tracker : Tracker) → is_conversion tracker ≡ true → (c : Conversion) × (tracker ≡ as_content (ContentKind.Source c))
conversion_is (as_content (ContentKind.Source conversion)) e = (conversion, refl)
conversion_is _ e = absurd (cc)

-- one child
alone_uses : (ks : Kids) (m : ℕ) → count_kids ks ≤ 1 → uses_among ks m ≡ uses (kid_nth 0 ks) m
alone_uses no_kids m alone = refl
alone_uses (kid x no_kids) m alone = omega arith
alone_uses (kid x (kid y ks)) m alone = absurd (omega (arith, alone))

alone_rest : (ks : Kids) → count_kids ks ≤ 1 → AreUnplaced (cells_in (put_nth 0 gone ks))
alone_rest no_kids alone = tt
alone_rest (kid x no_kids) alone = (tt, tt)
alone_rest (kid x (kid y ks)) alone = absurd (omega (arith, alone))

-- The value of a source on top goes up.
module _ (e : Ending) (alone : count_kids (found e).kids ≤ 1) (shut : IsClosed (body_in (top e).plot)) (w : Val) where
  first : e.i ≡ 0
  first = omega (arith, (found e).within, alone)

  goes_through : Outcome e (whole_plot w) (λ old. whole_body w)
  goes_through = record {
    cells = refl;
    fewer = λ m. let nth : uses (kid_nth 0 (found e).kids) m ≡ uses (kid_nth e.i (found e).kids) m
        = ap (λ (j : ℕ). uses (kid_nth j (found e).kids) m) (sym first) in
        omega (arith, alone_uses (found e).kids m alone, nth, child_uses e shut m);
    holds = λ other elsewhere node depth was. tt;
    left = λ all. tt;
    marks = tt;
  }

  -- no place but the source leaves its slot
  stays_through : StayPutBut (e.above ++ e.i ∷ []) e.kid (kid_then e (whole_plot w))
  stays_through place ne =
      stay_at e.above (at (found e).slot false (whole_plot w)) e.kid (reach e) place
      (λ r is lies. go r (λ f. ne (is ∙ ap (λ (l : Place). e.above ++ l) f)) (subst (λ (x : Kid). IsPlaced x r) (found e).is lies))
    where
      rest : AreUnplaced (cells_in (put_nth e.i gone (found e).kids))
      rest = subst (λ (j : ℕ). AreUnplaced (cells_in (put_nth j gone (found e).kids))) (sym first) (alone_rest (found e).kids alone)

      go : (r : Place) → r ≢ e.i ∷ [] → IsPlaced (at (found e).slot false (begun_plot (found e).tracker (found e).kids)) r
          → IsPlaced (at (found e).slot false (whole_plot w)) r
          × (slot_at (at (found e).slot false (whole_plot w)) r ≡ slot_at (kid_at e.above e.kid) r)
      go [] other lies = (record { reaches = tt; here = tt }, ap (λ (x : Kid). slot_at x []) (sym (found e).is))
      go (j ∷ r) other lies =
          absurd (other (only_placed e.i j (found e).kids r rest (top e).slot false (top e).plot (child e) shut
          (record { reaches = lies.reaches.1; here = lies.here })))

module _ {plan : Plan} {slots : List Slot} {stack : List ℕ} (open_now : IsOpen plan slots stack)
    (below : is_root (cursor_in slots stack) ≡ false) (next : List ℕ) (n : ℕ) (last : stack ≡ next ++ n ∷ [])
    (agree : LookupsAgree) (paths : LookupPathsAgree) (reached : NodesAreReached) (nodes : ReachedHaveNodes) {table : Table}
    (checked : IsChecked table) (by : IsPlanFor table plan) (suits : IsSuited table (root_shape plan) (tree_in_slots slots stack))
    (converting : is_begun_conversion (tree_above slots stack) ≡ true) where
  abbrev e : Ending
  e = ending open_now below next n last

  abbrev tree : Tree
  tree = tree_in_slots slots stack

  up_is : up (cursor_in slots stack) ≡ e.above
  up_is = ap up (way open_now below next n last) ∙ up_append e.above e.i

  begun_above : tree_at e.above tree ≡ begun (found e).tracker (trees_in (found e).kids)
  begun_above = sym (tree_of_at e.above (kid_here slots stack)) ∙ ap tree_of (found e).is

  at_above : is_begun_conversion (tree_at e.above tree) ≡ true
  at_above = ap (λ (p : Place). is_begun_conversion (tree_at p tree)) (sym up_is) ∙ converting

  which : (c : Conversion) × ((found e).tracker ≡ as_content (ContentKind.Source c))
  which = conversion_is (found e).tracker (ap is_begun_conversion (sym begun_above) ∙ at_above)

  abbrev c : Conversion
  c = which.0

  tells : HasTracker (as_content (ContentKind.Source c)) (tree_above slots stack)
  tells =
      subst (HasTracker (as_content (ContentKind.Source c))) (sym (ap (λ (p : Place). tree_at p tree) up_is ∙ begun_above)) which.1

  alone : count_kids (found e).kids ≤ 1
  alone =
      subst (λ (f : Tracker). MayHave f (count_kids (found e).kids)) which.1
      (may_have_at plan (heap_of slots) plan.root FrameOwner.Root 0 e.above (kid_here slots stack) (found e).slot false (found e).tracker
      (found e).kids open_now.stands.holds (reach e) (found e).is)

  first_child : e.i ≡ 0
  first_child = omega (arith, (found e).within, alone)

  -- what is in the slot above
  abbrev above : Node
  above = record {
    node = node_along plan plan.root e.above (kid_here slots stack);
    owner = owner_along FrameOwner.Root e.above (kid_here slots stack);
    stored = false;
    depth = 0 + length e.above;
    body = begun_body (found e).tracker (cells_in (found e).kids);
  }

  -- the source, in slots
  source_now : IsSource (heap_of slots) n (node_now e) above c
  source_now = record {
    parent = record { 0 = (found e).slot };
    owner = ap (child_owner (found e).slot) first_child;
    here = (above_holds e).0;
    begun =
        ap (λ (f : Tracker). begun_body f (cells_in (found e).kids)) which.1 ∙ ap (begun_body (as_content (ContentKind.Source c)))
        (one_cell (found e).kids alone (omega (arith, (found e).within))
        (ap (λ (j : ℕ). kid_nth j (found e).kids) (sym first_child) ∙ child e) ∙ ap (λ (m : ℕ). placed m ∷ []) (slot_now e));
  }

  here_above : Along table plan above.node (shape_in table (root_shape plan) e.above tree) (tree_at e.above tree)
  here_above = along_open agree paths reached nodes checked by (kid_here slots stack) suits e.above (reach e)

  shape_is : shape_of plan above.node ≡ shape_above table plan slots stack
  shape_is = shape_along here_above ∙ ap (λ (p : Place). shape_in table (root_shape plan) p tree) (sym up_is)

  pub convertible : IfInUse slots n (IsConvertible table plan (heap_of slots) n)
  convertible = so_now open_now below next n last (IsConvertible table plan (heap_of slots) n) (record {
    above = above;
    conversion = c;
    source = source_now;
    planned = is_there plan.nodes above.node.0 here_above.node_is.there;
    target =
        subst (IsIn table) (sym (shape_along here_above))
        (target_of table (shape_in table (root_shape plan) e.above tree) (tree_at e.above tree) here_above.suits at_above);
  })

  -- what is said of the place in this slot is said of the top
  of_top : (So : Node → Type 0) → So (node_now e) → AtTop slots stack So
  of_top So so p ends =
      subst (λ (m : ℕ). IfInUse slots m So) (same_last next ends.0 n p (sym last ∙ ends.1)) (so_now open_now below next n last So so)

  module _ (means : Meanings) where
    pub unconverted : (kind : ReflectErrorKind) → (kind ≡ ReflectErrorKind.OutOfMemory)
        ⊎ IfInUse slots n (λ (x : Node). OfSource (heap_of slots) n x
        (λ over conversion value. IsRefused means table (shape_of plan over.node) conversion value kind))
        → (kind ≡ ReflectErrorKind.OutOfMemory) ⊎ AtTop slots stack (λ (x : Node). (v : Val) → value_of x.body ≡ Some v
        → IsRefusedUp means table plan slots stack v kind)
    unconverted kind (inl memory) = inl memory
    unconverted kind (inr why) = inr (of_top (λ (x : Node). (v : Val) → value_of x.body ≡ Some v
        → IsRefusedUp means table plan slots stack v kind) (λ v valued.
        let so = now_so open_now below next n last (λ (x : Node). OfSource (heap_of slots) n x
        (λ over conversion value. IsRefused means table (shape_of plan over.node) conversion value kind)) why above c v source_now
        valued in
        record {
          conversion = c;
          above = tells;
          refused =
              ap (λ (m : ℕ). refusal_through c.through c.source m (means.convert table c.hook m v)) (sym shape_is) ∙ so;
        }))

    -- it was converted
    module _ (after : List Slot) (result : IfInUse slots n (λ (x : Node). OfSource (heap_of slots) n x
        (λ over. IsConverted means table slots after n x.owner (shape_of plan over.node)))) where
      module _ {v : Val} (valued : value_of (node_now e).body ≡ Some v) where
        is_converted : IsConverted means table slots after n (node_now e).owner (shape_of plan above.node) c v
        is_converted =
            now_so open_now below next n last (λ (x : Node). OfSource (heap_of slots) n x
            (λ over. IsConverted means table slots after n x.owner (shape_of plan over.node))) result above c v source_now valued

        abbrev w : Val
        w = is_converted.result

        shut : IsClosed (body_in (top e).plot)
        shut = value_closed (body_in (top e).plot) valued

        went : IsOpenAt plan after next (up (place open_now below next n last)) (change_at e.above (λ old. whole w) tree)
            × StayPutBut (place open_now below next n last) (kid_here slots stack) (kid_here after next) × SameMarks slots after
        went =
            goes_up open_now below next n last (goes_through e alone shut w) shut after is_converted.raised
            (tree_put_at e.above (at (found e).slot false (whole_plot w)) (kid_here slots stack)) (stays_through e alone shut w)

        up_there : IsConvertedUp means table plan slots stack after next v
        up_there = record {
          conversion = c;
          above = tells;
          result = w;
          meant = ap (λ (m : ℕ). means.convert table c.hook m v) (sym shape_is) ∙ is_converted.meant;
          stands =
              subst (λ (p : Place). IsOpenAt plan after next (up p) (change_at (up p) (λ old. whole w) tree))
              (sym (way open_now below next n last))
              (subst (λ (p : Place). IsOpenAt plan after next (up (place open_now below next n last)) (change_at p (λ old. whole w) tree))
              (sym (up_append e.above e.i)) went.0);
        }

      pub converted_up : AtTop slots stack (λ (x : Node). (v : Val) → value_of x.body ≡ Some v
          → IsConvertedUp means table plan slots stack after next v)
      converted_up =
          of_top (λ (x : Node). (v : Val) → value_of x.body ≡ Some v → IsConvertedUp means table plan slots stack after next v)
          (λ v valued. up_there valued)

      -- and no other place left its slot
      pub stays_converted : AtTop slots stack (λ (x : Node). IsSome (value_of x.body))
          → StayPutBut (cursor_in slots stack) (kid_here slots stack) (kid_here after next) × SameMarks slots after
      stays_converted complete =
          let some = some_value (value_of (node_now e).body)
          (now_so open_now below next n last (λ (x : Node). IsSome (value_of x.body)) (complete n (next, last))) in
          subst (λ (p : Place). StayPutBut p (kid_here slots stack) (kid_here after next) × SameMarks slots after)
          (sym (way open_now below next n last)) ((went some.1).1, (went some.1).2)
