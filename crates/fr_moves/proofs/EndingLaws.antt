-- Completing the place on top of the stack: whether it may be, and the value that it comes to hold.
use Rattle.std.proofs.Common.{◌≡◌, ℕ, ◌+◌, true, false, List, [], Option, Some, None, option_map, Result, Ok, Err, OnErr, OnOk, IfErr, refl, sym, ◌∙◌, ap, subst, arith}
use Rattle.fr_moves.specs.Common.{Along, AtTop, Body, Conserved, Conserved_same, Frames, HoldsItsValue, IsAtWork, IsLast, IsOpen, IsOpenAt, IsSome, IsSomeAnd, KeepsTracker, LookupPathsAgree, LookupsAgree, MayHaveIts, Meanings, Node, Place, Plan, Plot, ReflectErrorKind, Room, Room_same, RoseBy, RoseBy_same, Rules, SameMarks, Shows, Slot, Tree, Val, WhyNot, body_in, change_at, complete, heap_of, held_in, is_some, mode_of, needs_none_by, occurs, open_top, own_tree, shape_of, slots_tokens, strict, takes_memory, top_place, top_shape, top_tree, tree_at, tree_occurs, value_of, whole_tree, Kid, Suits, kid_shown}
use Rattle.fr_frame.specs.Bodies.{body_occurs, IsClosed, is_conversion_body}
use Rattle.fr_frame.specs.Changes.{IfInUse, IsInUse}
use Rattle.fr_frame.specs.Completing.{FillsAt, MayComplete, WhyNot as WhyNotAt}
use Rattle.fr_frame.specs.Heap.{slots_occur, stored_in, with_body, with_slot}
use Rattle.fr_store.specs.HereLaws.{body_back, closed_plot, tree_back, value_closed}
use Rattle.fr_store.specs.MoveLaws.{closed_open, same_last, so_top, top_changed, top_node, top_so, top_tokens}
use Rattle.fr_store.specs.StackMoves.{node_here as node_on_top}
use Rattle.fr_store.specs.TopLaws.{closed_tree, held_may_have, keeps_closed, loses_none, marked_body, slot_here}
use Rattle.fr_store.specs.TurnedLaws.{may_complete as node_may_complete, shape_along}
use Rattle.fr_moves.specs.CompletedPlaces.{column_by}
use Rattle.fr_moves.proofs.BodyLaws.{keeps_may, unboxed, why_of}
use Rattle.fr_moves.proofs.KeepLaws.{are_open, became_marked}
use Rattle.fr_moves.proofs.TopBodyLaws.{top_body}
use Rattle.fr_moves.proofs.KeepsBaseLaws.{held_left}
use Rattle.fr_moves.specs.PlaceLaws.{here_along, here_found, node_here, plot_here}
use Rattle.fr_moves.specs.StateLaws.{strict_stores}
use Rattle.fr_plan.specs.ReachLaws.{NodesAreReached, ReachedHaveNodes}
use Rattle.fr_frame.specs.Kids.{AreLeftIn, AreLeftRightly}
use Rattle.fr_store.specs.LeftLaws.{closed_plain, left_at}

-- what follows of an answer, and what of a refusal
pub on_both : {A E P Q R : Type 0} (result : Result A E) → (P → Q → R) → OnOk result P → OnOk result Q → OnOk result R
on_both (Ok done) then first second = then first second
on_both (Err refused) then first second = first

pub on_err : {A E P Q : Type 0} (result : Result A E) → (P → Q) → OnErr result P → OnErr result Q
on_err (Ok done) then holds = holds
on_err (Err refused) then holds = then holds

pub if_err : {A E : Type 0} {P Q : E → Type 0} (result : Result A E) → ((e : E) → P e → Q e) → IfErr result P → IfErr result Q
if_err (Ok done) then holds = holds
if_err (Err refused) then holds = then refused holds

-- what holds of the last slot holds on top
pub on_top : (slots : List Slot) {stack : List ℕ} {n : ℕ} → IsLast stack n → (So : Node → Type 0) → IfInUse slots n So
    → AtTop slots stack So
on_top slots {stack} {n} last So so m other =
    subst (λ (x : ℕ). IfInUse slots x So) (same_last last.0 other.0 n m (sym last.1 ∙ other.1)) so

-- The place on top is in this slot, and may be completed: none of its children is in a slot.
pub record IsTop (plan : Plan) (frames : Frames) (n : ℕ) : Type 0 where
  pub at_work : IsAtWork plan frames
  pub last : IsLast frames.stack n
  pub shut : IsClosed (body_in (open_top at_work.ready.shown).plot)
  pub along : Along frames.table.now plan (node_on_top plan frames.slots frames.stack) (top_shape frames) (top_tree frames)

-- so it is in strict mode
pub strict_top : LookupsAgree → LookupPathsAgree → NodesAreReached → ReachedHaveNodes → {plan : Plan} {frames : Frames} {n : ℕ} → IsAtWork plan frames
    → mode_of frames.mode ≡ strict → IsLast frames.stack n → IsTop plan frames n
strict_top agree paths reached nodes {plan} {frames} {n} at_work mode last = record {
  at_work = at_work;
  last = last;
  shut =
      closed_open at_work.ready.shown
      (strict_stores (mode_of frames.mode) frames.store frames.slots mode at_work.stores at_work.kept);
  along = here_along agree paths reached nodes frames.table.now frames.root plan frames.slots frames.stack at_work.ready;
}

module _ {plan : Plan} {frames : Frames} {n : ℕ} (top : IsTop plan frames n) where
  -- what is in its slot
  abbrev pub here : Node
  here = node_here plan frames.slots frames.stack top.at_work.ready.shown

  found : heap_of frames.slots n ≡ Some here
  found = here_found plan frames.slots frames.stack top.at_work.ready.shown n top.last

  pub here_so : (So : Node → Type 0) → IfInUse frames.slots n So → So here
  here_so So so = subst (λ (node : Option Node). IsSomeAnd node So) found so

  -- what was put there is what stands there, and its node has the shape of the place
  pub own_is : own_tree here.body ≡ top_tree frames
  own_is =
      sym (closed_tree (open_top top.at_work.ready.shown).plot top.shut)
      ∙ plot_here plan frames.slots frames.stack top.at_work.ready.shown

  pub shape_is : shape_of plan here.node ≡ top_shape frames
  shape_is = shape_along top.along

  -- it is no conversion: the source of one is in a slot
  left_here : AreLeftIn (open_top top.at_work.ready.shown).plot
  left_here =
      subst (λ (k : Kid). AreLeftRightly k) (open_top top.at_work.ready.shown).is
      (left_at (top_place frames) (kid_shown (heap_of frames.slots) frames.stack) top.at_work.ready.shown.stands.left)

  pub plain : is_conversion_body here.body ≡ false
  plain =
      closed_plain frames.table.now (top_shape frames) (open_top top.at_work.ready.shown).plot
      (subst (λ (t : Tree). Suits frames.table.now (top_shape frames) t)
      (sym (plot_here plan frames.slots frames.stack top.at_work.ready.shown)) top.along.suits) left_here top.shut

  -- the slot is in use, and the place may be completed
  pub in_use : IsInUse frames.slots n
  in_use = ap is_some found

  pub may_complete : IfInUse frames.slots n (MayComplete frames.table.now plan)
  may_complete =
      subst (λ (node : Option Node). IsSomeAnd node (MayComplete frames.table.now plan)) (sym found)
      (node_may_complete here top.along own_is top.shut plain)

  -- why it makes no value
  pub why_here : (means : Meanings) (kind : ReflectErrorKind)
      → IfInUse frames.slots n (λ (at : Node). WhyNotAt means frames.table.now (shape_of plan at.node) at.body kind)
      → WhyNot means frames.table.now (top_shape frames) (top_tree frames) kind
  why_here means kind why =
      subst (λ (s : ℕ). WhyNot means frames.table.now s (top_tree frames) kind) shape_is
      (subst (λ (t : Tree). WhyNot means frames.table.now (shape_of plan here.node) t kind) own_is
      (why_of means frames.table.now (shape_of plan here.node) here.body kind
      (here_so (λ (at : Node). WhyNotAt means frames.table.now (shape_of plan at.node) at.body kind) why)))

  -- It was completed by these rules.
  module _ (rules : Rules) (means : Meanings) (after : List Slot)
      (filled : IfInUse frames.slots n (FillsAt (column_by rules) means frames.table.now plan frames.slots after n))
      (tracker : IfInUse frames.slots n (λ (at : Node). IfInUse after n (λ (now : Node). KeepsTracker at.body now.body))) where
    unfoldable fills : FillsAt (column_by rules) means frames.table.now plan frames.slots after n here
    fills = here_so (FillsAt (column_by rules) means frames.table.now plan frames.slots after n) filled

    found_after : heap_of after n ≡ Some (record here { body = fills.body })
    found_after = fills.becomes n ∙ slot_here (heap_of frames.slots) n (Some (record here { body = fills.body }))

    keeps : KeepsTracker here.body fills.body
    keeps =
        subst (λ (node : Option Node). IsSomeAnd node (λ (now : Node). KeepsTracker here.body now.body)) found_after
        (here_so (λ (at : Node). IfInUse after n (λ (now : Node). KeepsTracker at.body now.body)) tracker)

    at_top : (So : Node → Type 0) → So (record here { body = fills.body }) → AtTop after frames.stack So
    at_top So so = on_top after top.last So (subst (λ (node : Option Node). IsSomeAnd node So) (sym found_after) so)

    shows : Shows after (with_body (heap_of frames.slots) n (λ old. fills.body))
    shows m =
        fills.becomes m ∙ ap (λ (node : Option Node). with_slot (heap_of frames.slots) n
        (option_map (λ (x : Node). record x { body = fills.body }) node) m) (sym found)

    marks : SameMarks frames.slots after
    marks m = ap stored_in (shows m) ∙ marked_body (heap_of frames.slots) n (λ old. fills.body) m

    stands : IsOpenAt plan after frames.stack (top_place frames)
        (change_at (top_place frames) (λ old. own_tree fills.body) (whole_tree frames))
    stands =
        let above = open_top top.at_work.ready.shown in
        let new : Plot = closed_plot fills.body in
        let closed : IsClosed fills.body = value_closed fills.body fills.filled.held in
        let is : body_in new ≡ fills.body = body_back fills.body closed in
        let may : MayHaveIts fills.body = keeps_may here.body fills.body keeps
        (held_may_have plan (heap_of frames.slots) _ above.slot _ above.plot above.children) in
        subst (λ (t : Tree). IsOpenAt plan after frames.stack (top_place frames) (change_at (top_place frames)
        (λ old. t) (whole_tree frames))) (tree_back fills.body) (top_changed after top.at_work.ready.shown top.last
        (λ old. fills.body) is (keeps_closed above.plot new (subst MayHaveIts (sym is) may) (subst IsClosed (sym is) closed)
        (held_left above.plot fills.body fills.filled.value keeps fills.filled.held)) (loses_none above.plot new top.shut) shows)

    -- it holds its value then
    pub holds : HoldsItsValue rules means plan frames (record frames { slots = after })
    holds = record {
      value = fills.filled.value;
      meant =
          ap (λ (s : ℕ). complete (column_by rules) means frames.table.now s (top_tree frames)) (sym shape_is)
          ∙ ap (complete (column_by rules) means frames.table.now (shape_of plan here.node)) (sym own_is) ∙ fills.filled.meant;
      now = own_tree fills.body;
      changed = became_marked (are_open top.at_work) marks stands;
      held = at_top (λ (at : Node). value_of at.body ≡ Some fills.filled.value) fills.filled.held;
      unboxed = λ none. at_top (λ (at : Node). takes_memory at.body ≡ false) (unboxed rules here.body fills.body keeps
          (subst (λ (t : Tree). needs_none_by rules t ≡ true) (sym own_is) none));
    }

-- The value of the root is held on top.
module _ {plan : Plan} (frames : Frames) (shown : IsOpen plan frames.slots frames.stack) (at_root : top_place frames ≡ [])
    (held : AtTop frames.slots frames.stack (λ at. IsSome (value_of at.body))) (n : ℕ) (last : IsLast frames.stack n) where
  root_so : (So : Node → Type 0) → IfInUse frames.slots n So → So (top_node shown last)
  root_so So so = top_so shown last So so

  -- it holds all that is held
  all_there : (t : ℕ) → body_occurs (top_node shown last).body t ≡ held_in frames t
  all_there t =
      let body = (open_top shown).plot in
      top_tokens shown last
      (go (value_of (body_in body)) refl (top_body plan frames.slots frames.stack shown (λ (b : Body). IsSome (value_of b)) held))
      t ∙ ap (λ (p : Place). tree_occurs (tree_at p (whole_tree frames)) t) at_root ∙ sym (slots_tokens shown t)
    where
      go : (value : Option Val) → value_of (body_in (open_top shown).plot) ≡ value → IsSome value
          → IsClosed (body_in (open_top shown).plot)
      go (Some v) is some = value_closed _ is
      go None is some = cc

  -- so there is room for it
  pub room_there : (ledger : List ℕ) → Room (held_in frames) ledger
      → IfInUse frames.slots n (λ (at : Node). Room (body_occurs at.body) ledger)
  room_there ledger room =
      so_top shown last (λ (at : Node). Room (body_occurs at.body) ledger)
      (Room_same (held_in frames) _ ledger (λ t. sym (all_there t)) room)

  -- and what released it released all
  pub rose_there : (old new : List ℕ) → IfInUse frames.slots n (λ (at : Node). RoseBy (body_occurs at.body) old new)
      → RoseBy (held_in frames) old new
  rose_there old new rose =
      RoseBy_same _ (held_in frames) old new all_there (root_so (λ (at : Node). RoseBy (body_occurs at.body) old new) rose)

  -- without it nothing is left
  pub kept_there : (after : List Slot) (v : Val) (old new : List ℕ)
      → IfInUse frames.slots n (λ (at : Node). (t : ℕ) → slots_occur frames.slots t ≡ slots_occur after t + body_occurs at.body t)
      → Conserved (held_in frames) old (λ t. slots_occur after t + occurs v t) new → Conserved (held_in frames) old (occurs v) new
  kept_there after v old new taken kept =
      let out = root_so
      (λ (at : Node). (t : ℕ) → slots_occur frames.slots t ≡ slots_occur after t + body_occurs at.body t) taken in
      Conserved_same (held_in frames) _ old _ (occurs v) new (λ t. refl) (λ t. omega (arith, out t, all_there t)) kept
