-- Handing over the value that the place on top holds: whether it may be, what comes of it, and the path and the state then.
use Rattle.std.proofs.Common.{◌≡◌, ℕ, Bool, true, false, List, [], ◌∷◌, ◌++◌, Result, Ok, Err, OnOk, Some, None, Option, IsErr, IsSome, IsOk, inl, inr, refl, sym, ◌∙◌, ap, subst}
use Rattle.fr_moves.specs.Common.{AreOpen, AtTop, Became, Body, Frames, HoldsItsValue, IsOpen, IsOpenAt, IsSomeAnd, MayReceive, Meanings, Node, PathStep, Place, Plan, ReflectErrorKind, Rules, SameMarks, Slot, State, Table, Tree, Val, body_in, change_at, complete, cursor_tree, heap_of, is_root, is_set, is_some, needs_none_by, one_more_call, open_top, path_of, strict_column, takes_memory, takes_no_memory, top_place, top_shape, top_tree, tree_at, up, value_of, whole, whole_tree, is_begun_conversion}
use Rattle.fr_model.specs.Collections.{number_in, with_ended_item}
use Rattle.fr_model.specs.PathLaws.{ChangingKeepsThePath, LeadAbove, LeavingDropsAStep, PathIsAsDeep}
use Rattle.fr_model.specs.Paths.{steps_in}
use Rattle.fr_model.specs.Step.{cause}
use Rattle.fr_frame.specs.Completing.{IsOfValidator}
use Rattle.fr_store.specs.LeaveLaws.{below_root}
use Rattle.fr_frame.specs.declared.places.Taker.{Taker}
use Rattle.fr_store.specs.StackMoves.{place_then, tree_then}
use Rattle.fr_moves.specs.CompletedPlaces.{column_by, Handed, IsCompleted, IsHandedOver, IsPathThen, IsUncompleted, PassesValidators}
use Rattle.fr_moves.specs.Moving.{after_completing, received, received_if, is_late_by, TakerServes}
use Rattle.fr_moves.proofs.TopBodyLaws.{top_body}
use Rattle.fr_moves.proofs.KeepLaws.{became_after, became_marked}
use Rattle.fr_moves.specs.LackLaws.{only_wants}
use Rattle.fr_moves.specs.TreeLaws.{changed_twice, item_over, set_stays, source_stays}
use Rattle.fr_moves.proofs.KeptPathLaws.{Ends, below_root as path_below}

-- what is said of what was found
pub some_then : {A : Type 0} {P Q : A → Type 0} (found : Option A) → ((a : A) → P a → Q a) → IsSomeAnd found P → IsSomeAnd found Q
some_then (Some a) then holds = then a holds
some_then None then holds = holds

-- a value was handed over, by slots in which the same places are stored
pub handed_over : {A E : Type 0} (result : Result A E) (taker : Taker) (frames : Frames) (slots : List Slot) (stack : List ℕ)
    → SameMarks frames.slots slots → OnOk result ((plan : Plan) → IsOpen plan frames.slots frames.stack → AtTop frames.slots frames.stack (λ at. (v : Val) → value_of at.body ≡ Some v
    → IsOpenAt plan slots stack (place_then taker (top_place frames)) (tree_then taker (top_place frames) v (whole_tree frames))))
    → OnOk result ((plan : Plan) → AreOpen plan frames → IsHandedOver taker plan frames (record frames { slots = slots; stack = stack }))
handed_over (Err e) taker frames slots stack marks over = over
handed_over (Ok done) taker frames slots stack marks over = λ plan open_now n last.
    some_then (heap_of frames.slots n) (λ (at : Node) ended v held. became_marked open_now marks (ended v held))
    (over plan open_now.shown n last)

-- what stood there before doesn't matter
handed_twice : (taker : Taker) (now : Tree) (v : Val) (frames : Frames) → MayReceive taker frames
    → tree_then taker (top_place frames) v (change_at (top_place frames) (λ old. now) (whole_tree frames))
    ≡ tree_then taker (top_place frames) v (whole_tree frames)
handed_twice Taker.Set now v frames may = item_over (top_place frames) v (λ old. now) (whole_tree frames) may.0
handed_twice _ now v frames may = changed_twice (top_place frames) (λ old. whole v) (λ old. now) (whole_tree frames)

false_by : (b : Bool) → (b ≡ true → ⊥) → b ≡ false
false_by false not = refl
false_by true not = absurd (not refl)

module _ {rules : Rules} {means : Meanings} {plan : Plan} {before between : Frames}
    (holds : HoldsItsValue rules means plan before between) where
  -- it may go there still, once the place is completed
  pub may_receive : (taker : Taker) → MayReceive taker before → MayReceive taker between
  may_receive Taker.Above may = (
    ap is_root holds.changed.stands.cursor ∙ may.0,
    ap (λ (p : Place). is_begun_conversion (tree_at (up p) (whole_tree between))) holds.changed.stands.cursor
        ∙ ap (λ (t : Tree). is_begun_conversion (tree_at (up (top_place before)) t)) holds.changed.stands.built
        ∙ source_stays (top_place before) (λ old. holds.now) (whole_tree before) may.0 ∙ may.1,
  )
  may_receive Taker.Set may = (
    ap is_root holds.changed.stands.cursor ∙ may.0,
    ap (λ (p : Place). is_set (tree_at (up p) (whole_tree between))) holds.changed.stands.cursor
        ∙ ap (λ (t : Tree). is_set (tree_at (up (top_place before)) t)) holds.changed.stands.built
        ∙ set_stays (top_place before) (λ old. holds.now) (whole_tree before) may.0 ∙ may.1,
  )
  may_receive Taker.Itself may = tt

  at_top : (So : Body → Type 0) → AtTop between.slots between.stack (λ at. So at.body)
      → So (body_in (open_top holds.changed.stands.open_still).plot)
  at_top So so = top_body plan between.slots between.stack holds.changed.stands.open_still So so

  -- what is said of each value that is held on top is said of this one
  pub said_of_it : (So : Val → Type 0)
      → AtTop between.slots between.stack (λ at. (v : Val) → value_of at.body ≡ Some v → So v) → So holds.value
  said_of_it So so =
      at_top (λ (body : Body). (v : Val) → value_of body ≡ Some v → So v) so holds.value
      (at_top (λ (body : Body). value_of body ≡ Some holds.value) holds.held)

  -- it was handed over
  pub completed : (taker : Taker) {after : Frames} → MayReceive taker before → IsHandedOver taker plan between after
      → IsCompleted rules taker means plan before after
  completed taker {after} may over = record {
    value = holds.value;
    meant = holds.meant;
    handed =
        subst (λ (t : Tree). Became plan (place_then taker (top_place before)) t before after)
        (handed_twice taker holds.now holds.value before may)
        (became_after (place_then taker) (λ p t. tree_then taker p holds.value t) holds.changed
        (said_of_it (λ (v : Val). Handed taker plan v between after) over));
  }

  -- or there was no memory for it
  pub not_handed : {A E : Type 0} {result : Result A E} {e : E} → result ≡ Err e
      → AtTop between.slots between.stack (λ at. takes_memory at.body ≡ false → IsOk result)
      → IsUncompleted rules means before.table.now (top_shape before) (top_tree before) ReflectErrorKind.OutOfMemory
  not_handed {A} {E} {result} {e} is memory =
      go rules holds.meant (λ none.
      let ok : IsOk result = at_top (λ (body : Body). takes_memory body ≡ false → IsOk result) memory
      (at_top (λ (body : Body). takes_memory body ≡ false) (holds.unboxed none)) in
      let no = rw is at ok in
      cc)
    where
      go : (by : Rules) → complete (column_by by) means before.table.now (top_shape before) (top_tree before) ≡ Some holds.value
          → (needs_none_by by (top_tree before) ≡ true → ⊥)
          → IsUncompleted by means before.table.now (top_shape before) (top_tree before) ReflectErrorKind.OutOfMemory
      go Rules.Strict meant never =
          inr
          (record {
            memory = refl;
            needed =
                inl (ap (λ (v : Option Val). is_some v) meant, false_by (takes_no_memory (top_tree before)) never);
          })
      go Rules.Deferred meant never = inl refl

-- The state and the path then.

received_is : (taker : Taker) (state : State) (v : Val) → received taker state v ≡ record state {
  tree = tree_then taker state.cursor v state.tree;
  cursor = place_then taker state.cursor;
  calls = one_more_call state.calls;
}
received_is Taker.Above state v = refl
received_is _ state v = refl

-- where it makes this value, that state is meant
pub is_meant : (rules : Rules) (taker : Taker) (hooks : Meanings) (table : Table) (s : ℕ) (state : State) (v : Val)
    → complete (column_by rules) hooks table s (cursor_tree state) ≡ Some v → after_completing rules taker hooks table s state
    ≡ Ok (record state {
      tree = tree_then taker state.cursor v state.tree;
      cursor = place_then taker state.cursor;
      calls = one_more_call state.calls;
    })
is_meant rules taker hooks table s state v made =
    ap (received_if rules taker hooks table s state) made ∙ ap (λ (next : State). Ok next) (received_is taker state v)

module _ (state : State) {steps : List PathStep} (path : steps ≡ path_of state) where
  -- one step back leads to the place above
  above : LeavingDropsAStep → PathIsAsDeep → is_root state.cursor ≡ false → {left : List PathStep}
      → ((front : List PathStep) (last : PathStep) → steps ≡ front ++ last ∷ [] → left ≡ front) → LeadAbove state left
  above leave deep below {left} back =
      let cursor = below_root state.cursor below in
      let way : Ends (path_of state) = path_below deep state cursor.0 cursor.1 cursor.2 in
      subst (LeadAbove state) (sym (back way.before way.last (path ∙ way.split))) (leave state way.before way.last way.split)

  pub path_left : LeavingDropsAStep → PathIsAsDeep → is_root state.cursor ≡ false → {left : List PathStep}
      → ((front : List PathStep) (last : PathStep) → steps ≡ front ++ last ∷ [] → left ≡ front)
      → left ≡ steps_in (up state.cursor) state.tree
  path_left leave deep below back = sym (above leave deep below back).as_it_is

  pub path_then : ChangingKeepsThePath → LeavingDropsAStep → PathIsAsDeep → (taker : Taker) (v : Val) → TakerServes taker state
      → {left : List PathStep} → IsPathThen taker steps left
      → left ≡ steps_in (place_then taker state.cursor) (tree_then taker state.cursor v state.tree)
  path_then change leave deep Taker.Above v may back = sym ((above leave deep may.0 back).changed (λ old. whole v))
  path_then change leave deep Taker.Set v may back =
      sym ((above leave deep may.0 back).changed_above (with_ended_item (number_in state.cursor) v))
  path_then change leave deep Taker.Itself v may back = back ∙ path ∙ sym (change state (λ old. whole v))

  -- the place above is whole with this value
  pub path_raised : LeavingDropsAStep → PathIsAsDeep → (v : Val) → is_root state.cursor ≡ false → {left : List PathStep}
      → ((front : List PathStep) (last : PathStep) → steps ≡ front ++ last ∷ [] → left ≡ front)
      → left ≡ steps_in (up state.cursor) (change_at (up state.cursor) (λ old. whole v) state.tree)
  path_raised leave deep v below back = sym ((above leave deep below back).changed_above (λ old. whole v))

-- Memory.

module _ (hooks : Meanings) (table : Table) (s : ℕ) (state : State) {kind : ReflectErrorKind}
    (wanted : kind ≡ ReflectErrorKind.OutOfMemory) where
  -- what is meant says no validator, nor does the cause
  no_message : (taker : Taker) → PassesValidators (after_completing Rules.Strict taker hooks table s state)
      → complete strict_column hooks table s (cursor_tree state) ≡ None → IsOfValidator (cause hooks table s (cursor_tree state)) → ⊥
  no_message taker passes none =
      λ said. subst (λ (made : Option Val). PassesValidators (received_if Rules.Strict taker hooks table s state made)) none passes (inl said)

  -- by the rules of strict mode a place that makes no value is refused for that, and never out of memory
  pub refused_first : (rules : Rules) (taker : Taker) → PassesValidators (after_completing rules taker hooks table s state)
      → IsUncompleted rules hooks table s (cursor_tree state) kind
      → is_late_by rules ≡ false → IsErr (after_completing rules taker hooks table s state) → ⊥
  refused_first Rules.Deferred taker passes why late refused = cc
  refused_first Rules.Strict taker passes why late refused =
      go (complete strict_column hooks table s (cursor_tree state)) refl
      (only_wants hooks table s (cursor_tree state) kind why wanted (no_message taker passes)).0
    where
      go : (made : Option Val) → complete strict_column hooks table s (cursor_tree state) ≡ made → IsSome made → ⊥
      go (Some v) is some =
          let no : false ≡ true
          = subst (λ (x : Option Val). IsErr (received_if Rules.Strict taker hooks table s state x)) is refused in
          cc
      go None is some = cc

  -- and one that takes none isn't either
  pub needed_none : (rules : Rules) (taker : Taker) → PassesValidators (after_completing rules taker hooks table s state)
      → IsUncompleted rules hooks table s (cursor_tree state) kind
      → needs_none_by rules (cursor_tree state) ≡ true → ⊥
  needed_none Rules.Strict taker passes why none =
      let no : false ≡ true = sym (only_wants hooks table s (cursor_tree state) kind why wanted (no_message taker passes)).1 ∙ none in
      cc
  needed_none Rules.Deferred taker passes why none = cc
