-- Laws of what heaps hold, for proofs: other heaps that hold the same, or the same with something else at one place.
use Rattle.std.proofs.Common.{◌≡◌, ℕ, zero, suc, ◌+◌, ◌<◌, ◌≤◌, Bool, true, false, List, [], ◌∷◌, ◌++◌, length, Option, Some, refl, sym, ◌∙◌, ap, subst, arith}
use Rattle.fr_model.specs.Places.{Place}
use Rattle.fr_model.specs.Trackers.{Tracker}
use Rattle.fr_plan.specs.declared.nodes.NodeId.{NodeId}
use Rattle.fr_plan.specs.TypePlan.{Plan}
use Rattle.fr_frame.specs.declared.places.FrameOwner.{FrameOwner}
use Rattle.fr_frame.specs.Bodies.{begun_body}
use Rattle.fr_values.specs.Cells.{Cell}
use Rattle.fr_frame.specs.Heap.{Node, Heap, depth_limit, marked, stored_in}
use Rattle.fr_frame.specs.Kids.{Kid, gone, at, Plot, begun_plot, Kids, no_kids, kid, MayHave, cell_of, cells_in, body_in, kid_in, kids_in, plot_in, kid_by, kid_from, child_node, child_owner, Holds, HoldsIn, HoldsAll}
use Rattle.fr_store.specs.Stands.{cursor_shown, number_of_owner, number_to}
use Rattle.fr_store.specs.Walks.{IsStoredAt}
use Rattle.fr_store.specs.Ways.{count_kids, kid_nth, kid_at, put_nth, put_at, slots_along, uses, uses_in, uses_among, AllMarkedIn, AllMarkedAmong, NoneStored, LeadsUnstored, Reaches, node_along, owner_along}
use Rattle.fr_store.specs.WayLaws.{counts_same, leads_reach, leads_at, uses_nth, uses_at}

-- the other heap has the same under each number that serves in it
abbrev pub AgreeOn : Heap → Heap → Kid → Type 0
AgreeOn heap other k = (n : ℕ) → 0 < uses k n → other n ≡ heap n

mutual
  -- a heap that agrees on the slots that serve holds the same
  pub holds_frame : (plan : Plan) (heap other : Heap) (node : NodeId) (owner : FrameOwner) (depth : ℕ) (k : Kid)
      → Holds plan heap node owner depth k → AgreeOn heap other k → Holds plan other node owner depth k
  holds_frame plan heap other node owner depth (at slot stored plot) holds agree = (
    agree slot (omega (arith, counts_same slot)) ∙ holds.0,
    holds.1,
    holds_frame_in plan heap other node slot (suc depth) plot holds.2 (λ n h. agree n (omega arith)),
  )
  holds_frame plan heap other node owner depth _ holds agree = tt

  pub holds_frame_in : (plan : Plan) (heap other : Heap) (node : NodeId) (slot depth : ℕ) (plot : Plot)
      → HoldsIn plan heap node slot depth plot → ((n : ℕ) → 0 < uses_in plot n → other n ≡ heap n)
      → HoldsIn plan other node slot depth plot
  holds_frame_in plan heap other node slot depth (begun_plot tracker kids) holds agree =
      holds_frame_among plan heap other node slot tracker 0 depth kids holds agree
  holds_frame_in plan heap other node slot depth _ holds agree = tt

  pub holds_frame_among : (plan : Plan) (heap other : Heap) (node : NodeId) (slot : ℕ) (tracker : Tracker) (i depth : ℕ) (ks : Kids)
      → HoldsAll plan heap node slot tracker i depth ks → ((n : ℕ) → 0 < uses_among ks n → other n ≡ heap n)
      → HoldsAll plan other node slot tracker i depth ks
  holds_frame_among plan heap other node slot tracker i depth no_kids holds agree = holds
  holds_frame_among plan heap other node slot tracker i depth (kid k ks) holds agree = (
    holds_frame plan heap other (child_node plan node tracker i) (child_owner slot i) depth k holds.0
        (λ n h. agree n (omega arith)),
    holds_frame_among plan heap other node slot tracker (suc i) depth ks holds.1 (λ n h. agree n (omega arith)),
  )

-- One child of many, and one place.

pub holds_nth : (plan : Plan) (heap : Heap) (node : NodeId) (slot : ℕ) (tracker : Tracker) (first depth : ℕ) (ks : Kids) (i m : ℕ)
    → m ≡ first + i → i < count_kids ks → HoldsAll plan heap node slot tracker first depth ks
    → Holds plan heap (child_node plan node tracker m) (child_owner slot m) depth (kid_nth i ks)
holds_nth plan heap node slot tracker first depth no_kids i m e h holds = absurd (omega arith)
holds_nth plan heap node slot tracker first depth (kid k ks) zero m e h holds =
    let same : first ≡ m = omega arith in
    subst (λ (j : ℕ). Holds plan heap (child_node plan node tracker j) (child_owner slot j) depth k) same holds.0
holds_nth plan heap node slot tracker first depth (kid k ks) (suc i) m e h holds =
    holds_nth plan heap node slot tracker (suc first) depth ks i m (omega arith) (omega arith) holds.1

-- what lies at a place is held there: by the plan's node along the way, as a child of what lies above
pub holds_at : (plan : Plan) (heap : Heap) (node : NodeId) (owner : FrameOwner) (depth : ℕ) (place : Place) (k : Kid)
    → Holds plan heap node owner depth k → Reaches place k
    → Holds plan heap (node_along plan node place k) (owner_along owner place k) (depth + length place) (kid_at place k)
holds_at plan heap node owner depth [] k holds reach =
    let same : depth ≡ depth + 0 = omega arith in
    subst (λ (d : ℕ). Holds plan heap node owner d k) same holds
holds_at plan heap node owner depth (i ∷ place) (at slot stored (begun_plot tracker kids)) holds reach =
    let same : suc depth + length place ≡ depth + suc (length place) = omega arith in
    let child = holds_nth plan heap node slot tracker 0 (suc depth) kids i i (omega arith) reach.0 holds.2 in
    subst (λ (d : ℕ). Holds plan heap (node_along plan (child_node plan node tracker i) place (kid_nth i kids))
    (owner_along (child_owner slot i) place (kid_nth i kids)) d (kid_at place (kid_nth i kids))) same
    (holds_at plan heap (child_node plan node tracker i) (child_owner slot i) (suc depth) place (kid_nth i kids) child reach.1)
holds_at plan heap node owner depth (i ∷ place) _ holds reach = absurd reach

-- where no place is stored none is marked
mutual
  pub no_marks : (k : Kid) → ((slot : ℕ) (place : Place) → IsStoredAt k slot place → ⊥) → NoneStored k
  no_marks (at slot true plot) none = absurd (none slot [] (record { plot = plot; reaches = tt; is = refl }))
  no_marks (at slot false plot) none = (refl, no_marks_in slot plot none)
  no_marks _ none = tt

  no_marks_in : (own : ℕ) (plot : Plot) → ((slot : ℕ) (place : Place) → IsStoredAt (at own false plot) slot place → ⊥)
      → AllMarkedIn false plot
  no_marks_in own (begun_plot tracker kids) none =
      no_marks_among kids (λ i slot place h stored. none slot (i ∷ place)
      (record { plot = stored.plot; reaches = (h, stored.reaches); is = stored.is }))
  no_marks_in own _ none = tt

  no_marks_among : (ks : Kids) → ((i slot : ℕ) (place : Place) → i < count_kids ks → IsStoredAt (kid_nth i ks) slot place → ⊥)
      → AllMarkedAmong false ks
  no_marks_among no_kids none = tt
  no_marks_among (kid k ks) none = (
    no_marks k (λ slot place stored. none 0 slot place (omega arith) stored),
    no_marks_among ks (λ i slot place h stored. none (suc i) slot place (omega arith) stored),
  )

-- where nothing that the heap holds is stored
pub none_stored : (plan : Plan) (heap : Heap) (node : NodeId) (owner : FrameOwner) (depth : ℕ) (k : Kid)
    → Holds plan heap node owner depth k → ((n : ℕ) → marked heap n ≡ false) → NoneStored k
none_stored plan heap node owner depth k holds none =
    no_marks k (λ slot place stored.
    let held = subst
    (λ (x : Kid). Holds plan heap (node_along plan node place k) (owner_along owner place k) (depth + length place) x) stored.is
    (holds_at plan heap node owner depth place k holds stored.reaches) in
    let both : true ≡ false = sym (ap stored_in held.0) ∙ none slot in
    cc)

-- a place that is held has no more children than it may
pub may_have : (plan : Plan) (heap : Heap) (node : NodeId) (slot : ℕ) (tracker : Tracker) (first depth : ℕ) (ks : Kids) (count : ℕ)
    → count ≡ first + count_kids ks → HoldsAll plan heap node slot tracker first depth ks → MayHave tracker count
may_have plan heap node slot tracker first depth no_kids count e holds =
    let same : first ≡ count = omega arith in
    subst (λ (n : ℕ). MayHave tracker n) same holds
may_have plan heap node slot tracker first depth (kid k ks) count e holds =
    may_have plan heap node slot tracker (suc first) depth ks count (omega arith) holds.1

pub may_have_all : (plan : Plan) (heap : Heap) (node : NodeId) (slot : ℕ) (tracker : Tracker) (depth : ℕ) (ks : Kids)
    → HoldsAll plan heap node slot tracker 0 depth ks → MayHave tracker (count_kids ks)
may_have_all plan heap node slot tracker depth ks holds =
    may_have plan heap node slot tracker 0 depth ks (count_kids ks) (omega arith) holds

-- of a place that is reached
pub may_have_at : (plan : Plan) (heap : Heap) (node : NodeId) (owner : FrameOwner) (depth : ℕ) (place : Place) (k : Kid)
    (slot : ℕ) (stored : Bool) (tracker : Tracker) (kids : Kids) → Holds plan heap node owner depth k → Reaches place k
    → kid_at place k ≡ at slot stored (begun_plot tracker kids) → MayHave tracker (count_kids kids)
may_have_at plan heap node owner depth place k slot stored tracker kids holds reach is =
    let held = subst
    (λ (x : Kid). Holds plan heap (node_along plan node place k) (owner_along owner place k) (depth + length place) x) is
    (holds_at plan heap node owner depth place k holds reach) in
    may_have_all plan heap (node_along plan node place k) slot tracker (suc (depth + length place)) kids held.2

-- Something else at one place.

-- where one heap holds the old, the other holds the new
abbrev pub Replaces : Plan → (heap other : Heap) → (old new : Kid) → Type 0
Replaces plan heap other old new =
    (node : NodeId) (owner : FrameOwner) (depth : ℕ) → Holds plan heap node owner depth old
    → Holds plan other node owner depth new

-- the other heap has the same under each number that serves in it outside of this part
abbrev pub AgreeBeside : Heap → Heap → Kid → (part : Kid) → Type 0
AgreeBeside heap other k part = (n : ℕ) → uses part n < uses k n → other n ≡ heap n

-- another child in the stead of one, which is held where that was, the others as they were
pub replaced_nth : (plan : Plan) (heap other : Heap) (node : NodeId) (slot : ℕ) (tracker : Tracker) (first depth : ℕ) (ks : Kids)
    (i m : ℕ) (new : Kid) → m ≡ first + i
    → (Holds plan heap (child_node plan node tracker m) (child_owner slot m) depth (kid_nth i ks)
    → Holds plan other (child_node plan node tracker m) (child_owner slot m) depth new)
    → ((n : ℕ) → uses (kid_nth i ks) n < uses_among ks n → other n ≡ heap n)
    → HoldsAll plan heap node slot tracker first depth ks → HoldsAll plan other node slot tracker first depth (put_nth i new ks)
replaced_nth plan heap other node slot tracker first depth no_kids i m new e step agree holds = holds
replaced_nth plan heap other node slot tracker first depth (kid k ks) zero m new e step agree holds =
    let same : m ≡ first = omega arith in (
      subst (λ (j : ℕ). Holds plan heap (child_node plan node tracker j) (child_owner slot j) depth k
          → Holds plan other (child_node plan node tracker j) (child_owner slot j) depth new) same step holds.0,
      holds_frame_among plan heap other node slot tracker (suc first) depth ks holds.1 (λ n h. agree n (omega arith)),
    )
replaced_nth plan heap other node slot tracker first depth (kid k ks) (suc i) m new e step agree holds = (
  holds_frame plan heap other (child_node plan node tracker first) (child_owner slot first) depth k holds.0
      (λ n h. agree n (omega (arith, uses_nth i ks n))),
  replaced_nth plan heap other node slot tracker (suc first) depth ks i m new (omega arith) step (λ n h. agree n (omega arith))
      holds.1,
)

pub holds_put_nth : (plan : Plan) (heap other : Heap) (node : NodeId) (slot : ℕ) (tracker : Tracker) (first depth : ℕ) (ks : Kids)
    (i m : ℕ) (new : Kid) → m ≡ first + i → ((n : ℕ) → uses (kid_nth i ks) n < uses_among ks n → other n ≡ heap n)
    → HoldsAll plan heap node slot tracker first depth ks
    → Holds plan other (child_node plan node tracker m) (child_owner slot m) depth new
    → HoldsAll plan other node slot tracker first depth (put_nth i new ks)
holds_put_nth plan heap other node slot tracker first depth ks i m new e agree holds is =
    replaced_nth plan heap other node slot tracker first depth ks i m new e (λ was. is) agree holds

pub cells_put_nth : (i : ℕ) (new : Kid) (ks : Kids) → cell_of new ≡ cell_of (kid_nth i ks)
    → cells_in (put_nth i new ks) ≡ cells_in ks
cells_put_nth i new no_kids same = refl
cells_put_nth zero new (kid k ks) same = ap (λ (c : Cell). c ∷ cells_in ks) same
cells_put_nth (suc i) new (kid k ks) same = ap (λ (cs : List Cell). cell_of k ∷ cs) (cells_put_nth i new ks same)

pub cell_put_at : (place : Place) (new k : Kid) → cell_of new ≡ cell_of (kid_at place k)
    → cell_of (put_at place new k) ≡ cell_of k
cell_put_at [] new k same = same
cell_put_at (i ∷ place) new gone same = refl
cell_put_at (i ∷ place) new _ same = refl

-- what replaces a part replaces the whole, where the part stays in its slot and all beside it is as it was
pub replaces_at : (plan : Plan) (heap other : Heap) (place : Place) (new k : Kid)
    → cell_of new ≡ cell_of (kid_at place k) → AgreeBeside heap other k (kid_at place k)
    → Replaces plan heap other (kid_at place k) new → Replaces plan heap other k (put_at place new k)
replaces_at plan heap other [] new k same agree step node owner depth holds = step node owner depth holds
replaces_at plan heap other (i ∷ place) new (at slot stored (begun_plot tracker kids)) same agree step node owner depth holds =
    let child : Kid = kid_nth i kids in (
      agree slot (omega (arith, counts_same slot, uses_at place child slot, uses_nth i kids slot)) ∙ holds.0
          ∙ ap (λ (cells : List Cell). Some (record {
            node = node;
            owner = owner;
            stored = stored;
            depth = depth;
            body = begun_body tracker cells;
          })) (sym (cells_put_nth i (put_at place new child) kids (cell_put_at place new child same))),
      holds.1,
      replaced_nth plan heap other node slot tracker 0 (suc depth) kids i i (put_at place new child) (omega arith)
          (replaces_at plan heap other place new child same (λ n h. agree n (omega (arith, uses_nth i kids n))) step
          (child_node plan node tracker i) (child_owner slot i) (suc depth)) (λ n h. agree n (omega (arith, uses_at place child n)))
          holds.2,
    )
replaces_at plan heap other (i ∷ place) new (at slot stored plot) same agree step node owner depth holds =
    holds_frame plan heap other node owner depth (at slot stored plot) holds
    (λ n h. agree n (omega (arith, uses_at place gone n)))
replaces_at plan heap other (i ∷ place) new _ same agree step node owner depth holds = tt

-- Reading back.

pub level_below : (levels depth : ℕ) → depth_limit ≤ levels + depth → depth < depth_limit → (less : ℕ) × (levels ≡ suc less)
level_below zero depth e h = absurd (omega arith)
level_below (suc less) depth e h = (less, refl)

mutual
  -- what a heap holds is what is read off it, at more levels than need be
  pub read_back : (plan : Plan) (heap : Heap) (node : NodeId) (owner : FrameOwner) (depth levels : ℕ) (k : Kid)
      → depth_limit ≤ levels + depth → Holds plan heap node owner depth k → kid_in (kid_from levels heap) (cell_of k) ≡ k
  read_back plan heap node owner depth levels (at slot stored plot) e holds =
      go (level_below levels depth e holds.1) (λ less deep. read_back_in plan heap node slot (suc depth) less plot deep holds.2)
    where
      go : (less : ℕ) × (levels ≡ suc less)
          → ((less : ℕ) → depth_limit ≤ less + suc depth → plot_in (kid_from less heap) (body_in plot) ≡ plot)
          → kid_from levels heap slot ≡ at slot stored plot
      go l rest =
          ap (λ (n : ℕ). kid_from n heap slot) l.1 ∙ ap (kid_by (kid_from l.0 heap) slot) holds.0
          ∙ ap (λ (p : Plot). at slot stored p) (rest l.0 (omega (arith, l.1)))
  read_back plan heap node owner depth levels _ e holds = refl

  pub read_back_in : (plan : Plan) (heap : Heap) (node : NodeId) (slot depth levels : ℕ) (plot : Plot)
      → depth_limit ≤ levels + depth → HoldsIn plan heap node slot depth plot
      → plot_in (kid_from levels heap) (body_in plot) ≡ plot
  read_back_in plan heap node slot depth levels (begun_plot tracker kids) e holds =
      ap (λ (ks : Kids). begun_plot tracker ks) (read_back_among plan heap node slot tracker 0 depth levels kids e holds)
  read_back_in plan heap node slot depth levels _ e holds = refl

  read_back_among : (plan : Plan) (heap : Heap) (node : NodeId) (slot : ℕ) (tracker : Tracker) (i depth levels : ℕ) (ks : Kids)
      → depth_limit ≤ levels + depth → HoldsAll plan heap node slot tracker i depth ks
      → kids_in (kid_from levels heap) (cells_in ks) ≡ ks
  read_back_among plan heap node slot tracker i depth levels no_kids e holds = refl
  read_back_among plan heap node slot tracker i depth levels (kid k ks) e holds =
      ap (λ (x : Kid). kid x (kids_in (kid_from levels heap) (cells_in ks)))
      (read_back plan heap (child_node plan node tracker i) (child_owner slot i) depth levels k e holds.0)
      ∙ ap (λ (xs : Kids). kid k xs) (read_back_among plan heap node slot tracker (suc i) depth levels ks e holds.1)

-- the numbers that the owners tell are the place
pub numbers_read : (plan : Plan) (heap : Heap) (node : NodeId) (owner : FrameOwner) (depth : ℕ) (place : Place) (k : Kid)
    → Holds plan heap node owner depth k → LeadsUnstored place k
    → cursor_shown heap (slots_along place k) ≡ number_of_owner owner ++ place
numbers_read plan heap node owner depth [] (at slot stored plot) holds leads =
    ap (λ (found : Option Node). number_to found ++ []) holds.0
numbers_read plan heap node owner depth [] _ holds leads = absurd leads
numbers_read plan heap node owner depth (i ∷ place) (at slot stored (begun_plot tracker kids)) holds leads =
    let reach = leads_reach (i ∷ []) place (at slot stored (begun_plot tracker kids)) leads in
    let child = holds_nth plan heap node slot tracker 0 (suc depth) kids i i (omega arith) reach.0 holds.2 in
    ap (λ (found : Option Node). number_to found ++ cursor_shown heap (slots_along place (kid_nth i kids))) holds.0
    ∙ ap (λ (more : Place). number_of_owner owner ++ more)
    (numbers_read plan heap (child_node plan node tracker i) (child_owner slot i) (suc depth) place (kid_nth i kids) child
    (leads_at (i ∷ []) place (at slot stored (begun_plot tracker kids)) leads))
numbers_read plan heap node owner depth (i ∷ place) (at slot stored _) holds leads = absurd leads.1
numbers_read plan heap node owner depth (i ∷ place) _ holds leads = absurd leads
