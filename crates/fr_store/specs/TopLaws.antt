-- Laws of the place on top of the stack, for proofs: what it is, and what a change of it does.
use Rattle.std.proofs.Common.{◌≡◌, ◌≢◌, ◌⊎◌, ℕ, suc, ◌+◌, ◌<◌, ◌≤◌, Bool, true, false, List, [], ◌∷◌, ◌++◌, append-nil, length, nat_eq, option_map, Option, Some, None, inl, inr, refl, sym, ◌∙◌, ap, subst, arith}
use Rattle.std.specs.Prelude.{IsSome, is_some, if◌then◌else◌}
use Rattle.std.proofs.lemmas.Grind.{common_steps}
use Rattle.std.proofs.lemmas.Bool.Decides.{nat_tests}
use Rattle.fr_store.specs.Below.{AreLeftIn, AreLeftRightly, AreUnplaced, Body, Def, FrameOwner, Heap, Holds, HoldsAll, HoldsIn, IsClosed, Kid, Kids, MayHave, Node, NodeId, Place, Plan, Plot, SlotId, Tracker, Trees, at, begun, begun_body, begun_plot, body_in, body_occurs, branch, cell_of, cells_in, cells_occur, entered_body, entered_node, gone, kid, kids_occur, linked, links, marked, no_kids, own_tree, plot_occurs, stored_in, there, tree_in, tree_of, trees_in, trees_of, whole_body, with_body, with_entered, with_slot}
use Rattle.fr_frame.specs.Heap.{depth_limit}
use Rattle.fr_store.specs.HoldLaws.{Replaces, holds_at, holds_frame_in, may_have}
use Rattle.fr_store.specs.LeftLaws.{at_for_at}
use Rattle.fr_store.specs.StandLaws.{stands_change}
use Rattle.fr_store.specs.Stands.{Stands}
use Rattle.fr_store.specs.Ways.{count_kids, kid_at, put_at, slots_along, slots_above, counts_if, uses, uses_in, uses_among, AllMarked, AllMarkedIn, AllMarkedAmong, NoneStored, LeadsUnstored, node_along, owner_along}
use Rattle.fr_store.specs.WayLaws.{counts_own, counts_same, same_or_other, leads_reach, leads_at, along_at, marked_at, uses_at}

-- Heaps.

pub slot_here : (heap : Heap) (n : ℕ) (x : Option Node) → with_slot heap n x n ≡ x
slot_here heap n x =
    let e : nat_eq n n ≡ true = grind (arith, common_steps, nat_tests) in
    ap (λ (b : Bool). if b then x else heap n) e

pub slot_other : (heap : Heap) (n : ℕ) (x : Option Node) (m : ℕ) → m ≢ n → with_slot heap n x m ≡ heap m
slot_other heap n x m ne =
    let e : nat_eq m n ≡ false = grind (arith, common_steps, nat_tests) in
    ap (λ (b : Bool). if b then x else heap m) e

-- where what is put in a slot answers a question as what was there did, each slot answers it as before
pub asked_same : {A : Type 0} (ask : Option Node → A) (heap : Heap) (n : ℕ) (x : Option Node) → ask x ≡ ask (heap n) → (m : ℕ)
    → ask (with_slot heap n x m) ≡ ask (heap m)
asked_same ask heap n x same m = go (same_or_other m n)
  where
    go : (m ≡ n) ⊎ (m ≢ n) → ask (with_slot heap n x m) ≡ ask (heap m)
    go (inl e) =
        ap (λ (y : ℕ). ask (with_slot heap n x y)) e ∙ ap ask (slot_here heap n x) ∙ same ∙ ap (λ (y : ℕ). ask (heap y)) (sym e)
    go (inr ne) = ap ask (slot_other heap n x m ne)

pub body_here : (heap : Heap) (n : ℕ) (change : Body → Body) {found : Node} → heap n ≡ Some found
    → with_body heap n change n ≡ Some (record found { body = change found.body })
body_here heap n change is =
    slot_here heap n (option_map (λ (x : Node). record x { body = change x.body }) (heap n))
    ∙ ap (option_map (λ (x : Node). record x { body = change x.body })) is

pub body_other : (heap : Heap) (n : ℕ) (change : Body → Body) (m : ℕ) → m ≢ n → with_body heap n change m ≡ heap m
body_other heap n change m ne = slot_other heap n (option_map (λ (x : Node). record x { body = change x.body }) (heap n)) m ne

-- a free slot isn't in use
pub free_unused : (heap : Heap) (n : ℕ) → heap n ≡ None → IsSome (heap n) → ⊥
free_unused heap n free used = let wrong : false ≡ true = sym (ap is_some free) ∙ used in cc

-- where what stands in a slot was changed, the slots in use are those that were
pub used_mapped : (heap : Heap) (n : ℕ) (change : Node → Node) (m : ℕ)
    → IsSome (with_slot heap n (option_map change (heap n)) m) → IsSome (heap m)
used_mapped heap n change m used = sym (asked_same is_some heap n (option_map change (heap n)) (still (heap n)) m) ∙ used
  where
    still : (found : Option Node) → is_some (option_map change found) ≡ is_some found
    still (Some found) = refl
    still None = refl

-- where a child of the place in slot p entered slot n, that slot alone came into use
pub used_entered : (def : Def) (heap : Heap) (node : NodeId) (p : SlotId) (step n m : ℕ)
    → IsSome (with_entered def heap node (FrameOwner.Child p step) n m) → (m ≡ n) ⊎ IsSome (heap m)
used_entered def heap node p step n m used = go (same_or_other m n)
  where
    owner : FrameOwner
    owner = FrameOwner.Child p step

    go : (m ≡ n) ⊎ (m ≢ n) → (m ≡ n) ⊎ IsSome (heap m)
    go (inl e) = inl e
    go (inr ne) =
        inr (used_mapped heap p.0 (λ (x : Node). record x { body = linked n step x.body }) m
        (subst (λ (o : Option Node). IsSome o)
        (slot_other (links owner n heap) n (Some (entered_node def heap node owner)) m ne) used))

-- Marks.

pub marked_body : (heap : Heap) (n : ℕ) (change : Body → Body) (m : ℕ) → marked (with_body heap n change) m ≡ marked heap m
marked_body heap n change m =
    asked_same stored_in heap n (option_map (λ (x : Node). record x { body = change x.body }) (heap n)) (still (heap n)) m
  where
    still : (found : Option Node) → stored_in (option_map (λ (x : Node). record x { body = change x.body }) found) ≡ stored_in
        found
    still (Some found) = refl
    still None = refl

marked_links : (heap : Heap) (n : ℕ) (owner : FrameOwner) (m : ℕ) → marked (links owner n heap) m ≡ marked heap m
marked_links heap n FrameOwner.Root m = refl
marked_links heap n (FrameOwner.Child parent step) m = marked_body heap parent.0 (linked n step) m

-- a place that enters a free slot isn't stored
pub marked_entered : (def : Def) (heap : Heap) (node : NodeId) (owner : FrameOwner) (n m : ℕ) → heap n ≡ None
    → marked (with_entered def heap node owner n) m ≡ marked heap m
marked_entered def heap node owner n m free =
    asked_same stored_in (links owner n heap) n (Some (entered_node def heap node owner))
    (sym (marked_links heap n owner n ∙ ap stored_in free)) m ∙ marked_links heap n owner m

-- Places none of whose children is in a slot.

pub unplaced_uses : (ks : Kids) (n : ℕ) → AreUnplaced (cells_in ks) → uses_among ks n ≡ 0
unplaced_uses no_kids n closed = refl
unplaced_uses (kid gone ks) n closed = omega (arith, unplaced_uses ks n closed.1)
unplaced_uses (kid (there v) ks) n closed = omega (arith, unplaced_uses ks n closed.1)
unplaced_uses (kid (at slot stored plot) ks) n closed = absurd closed.0

pub closed_uses : (plot : Plot) (n : ℕ) → IsClosed (body_in plot) → uses_in plot n ≡ 0
closed_uses (begun_plot tracker kids) n closed = unplaced_uses kids n closed
closed_uses _ n closed = refl

pub unplaced_occur : (ks : Kids) (t : ℕ) → AreUnplaced (cells_in ks) → kids_occur ks t ≡ cells_occur (cells_in ks) t
unplaced_occur no_kids t closed = refl
unplaced_occur (kid gone ks) t closed = omega (arith, unplaced_occur ks t closed.1)
unplaced_occur (kid (there v) ks) t closed = omega (arith, unplaced_occur ks t closed.1)
unplaced_occur (kid (at slot stored plot) ks) t closed = absurd closed.0

-- its tokens are its own
pub closed_occur : (plot : Plot) (t : ℕ) → IsClosed (body_in plot) → plot_occurs plot t ≡ body_occurs (body_in plot) t
closed_occur (begun_plot tracker kids) t closed = unplaced_occur kids t closed
closed_occur _ t closed = refl

unplaced_trees : (ks : Kids) → AreUnplaced (cells_in ks) → trees_in ks ≡ trees_of (cells_in ks)
unplaced_trees no_kids closed = refl
unplaced_trees (kid gone ks) closed = ap (λ (ts : Trees). branch (tree_of gone) ts) (unplaced_trees ks closed.1)
unplaced_trees (kid (there v) ks) closed = ap (λ (ts : Trees). branch (tree_of (there v)) ts) (unplaced_trees ks closed.1)
unplaced_trees (kid (at slot stored plot) ks) closed = absurd closed.0

-- its tree is its own
pub closed_tree : (plot : Plot) → IsClosed (body_in plot) → tree_in plot ≡ own_tree (body_in plot)
closed_tree (begun_plot tracker kids) closed = ap (λ (ts : Trees). begun tracker ts) (unplaced_trees kids closed)
closed_tree _ closed = refl

pub unplaced_marked : (mark : Bool) (ks : Kids) → AreUnplaced (cells_in ks) → AllMarkedAmong mark ks
unplaced_marked mark no_kids closed = tt
unplaced_marked mark (kid gone ks) closed = (tt, unplaced_marked mark ks closed.1)
unplaced_marked mark (kid (there v) ks) closed = (tt, unplaced_marked mark ks closed.1)
unplaced_marked mark (kid (at slot stored plot) ks) closed = absurd closed.0

pub closed_marked : (mark : Bool) (plot : Plot) → IsClosed (body_in plot) → AllMarkedIn mark plot
closed_marked mark (begun_plot tracker kids) closed = unplaced_marked mark kids closed
closed_marked mark _ closed = tt

pub unplaced_holds : (plan : Plan) (heap : Heap) (node : NodeId) (slot : ℕ) (tracker : Tracker) (i depth : ℕ)
    (ks : Kids) {count : ℕ} → count ≡ i + count_kids ks → MayHave tracker count → AreUnplaced (cells_in ks)
    → HoldsAll plan heap node slot tracker i depth ks
unplaced_holds plan heap node slot tracker i depth no_kids {count} e may closed =
    let same : count ≡ i = omega arith in
    subst (λ (n : ℕ). MayHave tracker n) same may
unplaced_holds plan heap node slot tracker i depth (kid gone ks) {count} e may closed =
    (tt, unplaced_holds plan heap node slot tracker (suc i) depth ks {count = count} (omega arith) may closed.1)
unplaced_holds plan heap node slot tracker i depth (kid (there v) ks) {count} e may closed =
    (tt, unplaced_holds plan heap node slot tracker (suc i) depth ks {count = count} (omega arith) may closed.1)
unplaced_holds plan heap node slot tracker i depth (kid (at m stored plot) ks) e may closed = absurd closed.0

-- it has no more children than it may
abbrev pub MayHaveIts : Body → Type 0
MayHaveIts entered_body = Unit {0}
MayHaveIts (whole_body v) = Unit {0}
MayHaveIts (begun_body tracker cells) = MayHave tracker (length cells)

pub cells_count : (ks : Kids) → length (cells_in ks) ≡ count_kids ks
cells_count no_kids = refl
cells_count (kid k ks) = ap suc (cells_count ks)

pub closed_holds : (plan : Plan) (heap : Heap) (node : NodeId) (slot depth : ℕ) (plot : Plot) → MayHaveIts (body_in plot)
    → IsClosed (body_in plot) → HoldsIn plan heap node slot depth plot
closed_holds plan heap node slot depth (begun_plot tracker kids) may closed =
    unplaced_holds plan heap node slot tracker 0 depth kids {count = length (cells_in kids)} (omega (arith, cells_count kids)) may closed
closed_holds plan heap node slot depth _ may closed = tt

-- what is held has no more than it may
pub held_may_have : (plan : Plan) (heap : Heap) (node : NodeId) (slot depth : ℕ) (plot : Plot)
    → HoldsIn plan heap node slot depth plot → MayHaveIts (body_in plot)
held_may_have plan heap node slot depth (begun_plot tracker kids) holds =
    may_have plan heap node slot tracker 0 depth kids (length (cells_in kids)) (omega (arith, cells_count kids)) holds
held_may_have plan heap node slot depth _ holds = tt

-- nothing is both stored and not stored
pub unplaced_by_marks : (ks : Kids) → AllMarkedAmong true ks → AllMarkedAmong false ks → AreUnplaced (cells_in ks)
unplaced_by_marks no_kids marked unmarked = tt
unplaced_by_marks (kid gone ks) marked unmarked = (tt, unplaced_by_marks ks marked.1 unmarked.1)
unplaced_by_marks (kid (there v) ks) marked unmarked = (tt, unplaced_by_marks ks marked.1 unmarked.1)
unplaced_by_marks (kid (at slot stored plot) ks) marked unmarked =
    let apart : true ≡ false = sym marked.0.0 ∙ unmarked.0.0 in
    cc

pub closed_by_marks : (plot : Plot) → AllMarkedIn true plot → AllMarkedIn false plot → IsClosed (body_in plot)
closed_by_marks (begun_plot tracker kids) marked unmarked = unplaced_by_marks kids marked unmarked
closed_by_marks _ marked unmarked = tt

-- The top.

-- what is known of an open place, to which this way leads, and at which this was put
abbrev pub open_node : Plan → Place → Kid → Body → Node
open_node plan place k body = record {
  node = node_along plan plan.root place k;
  owner = owner_along FrameOwner.Root place k;
  stored = false;
  depth = length place;
  body = body;
}

-- The place at which a builder works: it is in the last slot of the stack, and its children that are in slots are stored.
pub record Top (plan : Plan) (heap : Heap) (stack : List ℕ) (place : Place) (k : Kid) : Type 0 where
  pub slot : ℕ
  pub plot : Plot
  pub is : kid_at place k ≡ at slot false plot
  pub last : stack ≡ slots_above place k ++ slot ∷ []
  pub stored : AllMarkedIn true plot
  pub here : heap slot ≡ Some (open_node plan place k (body_in plot))
  pub limit : length place < depth_limit
  pub children : HoldsIn plan heap (node_along plan plan.root place k) slot (suc (length place)) plot

pub top_of : {plan : Plan} {heap : Heap} {stack : List ℕ} {place : Place} {k : Kid} → Stands plan heap stack place k
    → Top plan heap stack place k
top_of {plan} {heap} {stack} {place} {k} stands =
    let leads : LeadsUnstored (place ++ []) k = subst (λ (p : Place). LeadsUnstored p k) (sym (append-nil place)) stands.leads in
    let reach = leads_reach place [] k leads in
    let along : stack ≡ slots_above place k ++ slots_along [] (kid_at place k)
    = stands.along ∙ ap (λ (p : Place). slots_along p k) (sym (append-nil place)) ∙ along_at place [] k reach in
    go along (kid_at place k) refl (leads_at place [] k leads)
    (holds_at plan heap plan.root FrameOwner.Root 0 place k stands.holds reach)
  where
    go : stack ≡ slots_above place k ++ slots_along [] (kid_at place k) → (x : Kid) → kid_at place k ≡ x → LeadsUnstored [] x
        → Holds plan heap (node_along plan plan.root place k) (owner_along FrameOwner.Root place k) (0 + length place)
        (kid_at place k) → Top plan heap stack place k
    go along gone e l holds = absurd l
    go along (there v) e l holds = absurd l
    go along (at slot stored plot) e l holds =
        let same : 0 + length place ≡ length place = omega arith in
        let found : Holds plan heap (node_along plan plan.root place k) (owner_along FrameOwner.Root place k) (length place)
        (at slot false plot)
        = subst (λ (x : Kid). Holds plan heap (node_along plan plan.root place k) (owner_along FrameOwner.Root place k)
        (length place) x) (e ∙ ap (λ (b : Bool). at slot b plot) l.0) (subst
        (λ (d : ℕ). Holds plan heap (node_along plan plan.root place k) (owner_along FrameOwner.Root place k) d
        (kid_at place k)) same holds) in
        record {
          slot = slot;
          plot = plot;
          is = e ∙ ap (λ (b : Bool). at slot b plot) l.0;
          last = along ∙ ap (λ (x : Kid). slots_above place k ++ slots_along [] x) e;
          stored = l.1;
          here = found.0;
          limit = found.1;
          children = found.2;
        }

-- where nothing is stored it has no child in a slot
pub closed_top : {plan : Plan} {heap : Heap} {stack : List ℕ} {place : Place} {k : Kid} (top : Top plan heap stack place k)
    → NoneStored k → IsClosed (body_in top.plot)
closed_top {place} {k} top strict =
    let here : AllMarked false (at top.slot false top.plot)
    = subst (λ (x : Kid). AllMarked false x) top.is (marked_at false place k strict) in
    closed_by_marks top.plot top.stored here.1

-- Something else in a slot: of its children those that are in slots were there before, and stay as they are.
pub record KeepsChildren (old new : Plot) : Type 0 where
  pub marked : AllMarkedIn true old → AllMarkedIn true new
  pub once : (n : ℕ) → uses_in new n ≤ uses_in old n
  pub holds : (plan : Plan) (heap : Heap) (node : NodeId) (slot depth : ℕ) → HoldsIn plan heap node slot depth old
      → HoldsIn plan heap node slot depth new
  pub left : AreLeftIn old → AreLeftIn new

-- none of its children is in a slot
pub keeps_closed : (old new : Plot) → MayHaveIts (body_in new) → IsClosed (body_in new) → (AreLeftIn old → AreLeftIn new)
    → KeepsChildren old new
keeps_closed old new may closed left = record {
  marked = λ h. closed_marked true new closed;
  once = λ n. omega (arith, closed_uses new n closed);
  holds = λ plan heap node slot depth h. closed_holds plan heap node slot depth new may closed;
  left = left;
}

-- each child that was in a slot is in it still
abbrev pub LosesNone : (old new : Plot) → Type 0
LosesNone old new = (n : ℕ) → uses_in old n ≤ uses_in new n

-- none was in one
pub loses_none : (old new : Plot) → IsClosed (body_in old) → LosesNone old new
loses_none old new closed n = omega (arith, closed_uses old n closed)

pub keeps_same : (plot : Plot) → KeepsChildren plot plot
keeps_same plot = record { marked = λ h. h; once = λ n. omega arith; holds = λ plan heap node slot depth h. h; left = λ h. h }

module _ {plan : Plan} {heap : Heap} {stack : List ℕ} {place : Place} {k : Kid} (stands : Stands plan heap stack place k)
    (top : Top plan heap stack place k) where
  -- the slots of the top: its own, and those beneath it
  pub top_uses : (n : ℕ) → uses (kid_at place k) n ≡ counts_if (nat_eq top.slot n) + uses_in top.plot n
  top_uses n = ap (λ (x : Kid). uses x n) top.is

  -- its own isn't beneath it, nor beside it
  pub top_once : uses_in top.plot top.slot ≡ 0
  top_once = omega (arith, top_uses top.slot, counts_same top.slot, uses_at place k top.slot, stands.once top.slot)

  pub not_beside : (n : ℕ) → uses (kid_at place k) n < uses k n → n ≢ top.slot
  not_beside n h e = absurd (omega (arith, counts_own e, top_uses n, stands.once n))

  pub not_beneath : (n : ℕ) → 0 < uses_in top.plot n → n ≢ top.slot
  not_beneath n h e =
      let none : uses_in top.plot n ≡ 0 = ap (uses_in top.plot) e ∙ top_once in
      absurd (omega arith)

  -- of whatever owner and depth it is held, these are they
  pub top_held : (node : NodeId) (owner : FrameOwner) (depth : ℕ) → Holds plan heap node owner depth (kid_at place k)
      → ◌≡◌ {A = Node} (record { node = node; owner = owner; stored = false; depth = depth; body = body_in top.plot })
      (open_node plan place k (body_in top.plot))
  top_held node owner depth holds =
      let was = subst (λ (x : Kid). Holds plan heap node owner depth x) top.is holds in
      let both = sym was.0 ∙ top.here in
      cc

-- Something else is put at the top: the slots of all that stays are as they were.
pub top_replaced : {plan : Plan} {heap : Heap} (other : Heap) {stack : List ℕ} {place : Place} {k : Kid} {new : Plot}
    (stands : Stands plan heap stack place k) (top : Top plan heap stack place k) → KeepsChildren top.plot new
    → other top.slot ≡ Some (open_node plan place k (body_in new))
    → ((m : ℕ) → m ≢ top.slot → (uses (kid_at place k) m < uses k m) ⊎ (0 < uses_in new m) → other m ≡ heap m)
    → Stands plan other stack place (put_at place (at top.slot false new) k)
top_replaced {plan} {heap} other {stack} {place} {k} {new} stands top keeps here beside =
    let longer : Stands plan heap stack (place ++ []) k
    = subst (λ (p : Place). Stands plan heap stack p k) (sym (append-nil place)) stands in
    subst (λ (p : Place). Stands plan other stack p (put_at place (at top.slot false new) k)) (append-nil place) (stands_change
    other place [] [] longer (ap cell_of (sym top.is)) (λ n h. beside n (not_beside stands top n h) (inl h)) replaces once (
      refl,
      keeps.marked top.stored,
    ) (at_for_at top.slot new top.is) (λ all. keeps.left (subst AreLeftRightly top.is all)) top.last)
  where
    replaces : Replaces plan heap other (kid_at place k) (at top.slot false new)
    replaces node owner depth holds =
        let was = subst (λ (x : Kid). Holds plan heap node owner depth x) top.is holds in
        let same = top_held stands top node owner depth holds in (
          here ∙ sym (ap (λ (x : Node). Some (record x { body = body_in new })) same),
          was.1,
          holds_frame_in plan heap other node top.slot (suc depth) new (keeps.holds plan heap node top.slot (suc depth) was.2)
              (λ n h. beside n (not_beneath stands top n (omega (arith, keeps.once n))) (inr h)),
        )

    once : (n : ℕ) → uses k n + uses (at top.slot false new) n ≤ 1 + uses (kid_at place k) n
    once n = omega (arith, stands.once n, top_uses stands top n, keeps.once n)
