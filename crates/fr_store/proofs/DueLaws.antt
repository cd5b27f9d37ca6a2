-- The first place of a walk over what is stored in an open builder, or in a part of it that lies on the way to where it works:
-- it may have its turn, and once it had it the others are a walk.
use Rattle.std.proofs.Common.{◌≡◌, ◌≢◌, ℕ, List, [], ◌∷◌, ◌++◌, sym, ◌∙◌, ap, ap₂, subst}
use Rattle.fr_store.specs.Common.{FrameOwner, HasPlace, HasTurned, IsChecked, IsClosed, IsLawful, IsOpen, IsPlaced, IsStoredAt, IsSuited, IsWalk, Kid, LeadsUnstored, MayHave, MayTurn, Meanings, Place, Plan, Reaches, Slot, Table, Val, body_in, count_kids, cursor_in, deferred_column, done_at, heap_of, kid_at, kid_at_append, kid_done, leads_at, may_have_at, put_append, put_at, root_shape, shape_in, tree_at, tree_in_slots, tree_of}
use Rattle.fr_model.specs.Laws.{CompletingFits}
use Rattle.fr_store.proofs.ClosingLaws.{suited_closed, suits_at}
use Rattle.fr_store.proofs.DoneKids.{IsDone, done_of, done_within, kid_within}
use Rattle.fr_store.specs.Turning.{kid_here}
use Rattle.fr_store.specs.WayLaws.{kid_put_at}
use Rattle.fr_store.proofs.HeadLaws.{Head, head_closed, head_of, walk_on}
use Rattle.fr_store.proofs.PlacesInSlots.{open_placed, placed_below}
use Rattle.fr_store.proofs.TurnLaws.{Over, over_of}
use Rattle.fr_store.proofs.WalkLaws.{one_stored, placed_stored}
use Rattle.fr_store.proofs.OffLaws.{off_stored, reach_place, reaches_append, reaches_both}

module _ {plan : Plan} {now : List Slot} {stack : List ℕ} (still : IsOpen plan now stack) (c way : Place)
    (on : cursor_in now stack ≡ c ++ way) {n : ℕ} {rest : List ℕ} (left : IsWalk (kid_at c (kid_here now stack)) (n ∷ rest)) where
  on_way : LeadsUnstored (c ++ way) (kid_here now stack)
  on_way = subst (λ (p : Place). LeadsUnstored p (kid_here now stack)) on still.stands.leads

  leads : LeadsUnstored way (kid_at c (kid_here now stack))
  leads = leads_at c way (kid_here now stack) on_way

  placed : IsPlaced (kid_here now stack) c
  placed = open_placed c way on_way

  pub head : Head (kid_at c (kid_here now stack)) n rest left.places
  head = head_of (kid_at c (kid_here now stack)) n rest left

  pub closed : IsClosed (body_in head.stored.plot)
  closed = head_closed (kid_at c (kid_here now stack)) n rest left head way leads

  -- where it lies
  pub stored : IsStoredAt (kid_here now stack) n (c ++ head.place)
  stored = record {
    plot = head.stored.plot;
    reaches = (placed_below placed (placed_stored head.stored)).reaches;
    is = kid_at_append c head.place (kid_here now stack) ∙ head.stored.is;
  }

  pub due : MayTurn now stack n
  unfolding stored
  due = record { place = c ++ head.place; plot = head.stored.plot; reaches = stored.reaches; is = stored.is; closed = closed }

  -- there is no other place in its slot
  pub only_here : (place : Place) → IsStoredAt (kid_here now stack) n place → place ≡ c ++ head.place
  only_here place other = one_stored still.stands.once other stored

  -- The place that is done at its turn.

  abbrev part : Kid
  part = kid_at c (kid_here now stack)

  low : head.place ≢ []
  low e = off_stored way head.place part leads head.stored.is way (ap (λ (p : Place). p ++ way) (sym e))

  over : Over head.place part n head.stored.plot
  over = over_of head.place part low head.stored.reaches head.stored.is

  may : MayHave over.tracker (count_kids over.kids)
  may =
      let parts = reaches_append over.above (over.i ∷ []) part
      (subst (λ (p : Place). Reaches p part) over.is_below head.stored.reaches) in
      may_have_at plan (heap_of now) plan.root FrameOwner.Root 0 (c ++ over.above) (kid_here now stack) over.slot over.mark
      over.tracker over.kids still.stands.holds (reaches_both c over.above (kid_here now stack) placed.reaches parts.0)
      (kid_at_append c over.above (kid_here now stack) ∙ over.is)

  -- where it lies
  abbrev pub due_at : Place
  due_at = done_at head.place (tree_of part)

  abbrev pub due_kid : Val → Kid
  due_kid v = kid_done head.place (tree_of part) v part

  pub is_done : (v : Val) → IsDone part head.place due_at v (due_kid v)
  is_done v = done_of over v may head.stored.reaches head.stored.is closed

  -- It had its turn.
  module _ {means : Meanings} {table : Table} {next : List Slot} (turned : HasTurned means table plan now stack next n) where
    pub same : turned.place ≡ c ++ head.place
    same = only_here turned.place turned.stored

    pub done_same : done_at turned.place (tree_in_slots now stack) ≡ c ++ due_at
    done_same =
        ap (λ (p : Place). done_at p (tree_in_slots now stack)) same ∙ done_within c head.place (kid_here now stack) low

    pub kid_next : kid_here next stack ≡ put_at c (put_at due_at (due_kid turned.value) part) (kid_here now stack)
    kid_next =
        turned.here ∙ ap (λ (p : Place). put_at (done_at p (tree_in_slots now stack))
        (kid_done p (tree_in_slots now stack) turned.value (kid_here now stack)) (kid_here now stack)) same
        ∙ ap₂ (λ (p : Place) (x : Kid). put_at p x (kid_here now stack)) (done_within c head.place (kid_here now stack) low)
        (kid_within c head.place (kid_here now stack) low turned.value)
        ∙ put_append c due_at (due_kid turned.value) (kid_here now stack)

    pub part_next : kid_at c (kid_here next stack) ≡ put_at due_at (due_kid turned.value) part
    part_next =
        ap (kid_at c) kid_next
        ∙ kid_put_at c (put_at due_at (due_kid turned.value) part) (kid_here now stack) placed.reaches

    pub left_next : (walk : IsWalk (kid_at c (kid_here next stack)) rest) × (walk.places ≡ head.places)
    left_next =
        subst (λ (x : Kid). (walk : IsWalk x rest) × (walk.places ≡ head.places)) (sym part_next)
        (walk_on part n rest left head (is_done turned.value))

    pub done_has : HasPlace (done_at turned.place (tree_in_slots now stack)) (tree_in_slots now stack)
    done_has =
        subst (λ (p : Place). HasPlace p (tree_in_slots now stack)) (sym done_same) (reach_place (c ++ due_at) (kid_here now stack)
        (reaches_both c due_at (kid_here now stack) placed.reaches (is_done turned.value).reach))

    pub suits_next : CompletingFits → IsLawful means → IsChecked table → IsSuited table (root_shape plan) (tree_in_slots now stack)
        → IsSuited table (root_shape plan) (tree_in_slots next stack)
    suits_next fitting lawful checked suited =
        let at_place : Place = done_at turned.place (tree_in_slots now stack) in
        subst (IsSuited table (root_shape plan)) (sym turned.stands.built)
        (suited_closed table (root_shape plan) at_place turned.value (tree_in_slots now stack) done_has suited
        (fitting deferred_column means table (shape_in table (root_shape plan) at_place (tree_in_slots now stack))
        (tree_at at_place (tree_in_slots now stack)) turned.value lawful checked
        (suits_at table (root_shape plan) at_place (tree_in_slots now stack) done_has suited.suits) turned.meant))
