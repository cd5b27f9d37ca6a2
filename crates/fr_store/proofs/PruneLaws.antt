-- Laws of pruning, for proofs: what lies beneath a place, and what is left of it once one of its children is released.
use Rattle.std.proofs.Common.{◌≡◌, ◌≢◌, ℕ, zero, suc, ◌+◌, ◌<◌, ◌≤◌, Bool, true, List, [], ◌∷◌, length, map, set, nat_eq, slice_get, Option, Some, None, refl, sym, ◌∙◌, ap, arith, if◌then◌else◌}
use Rattle.fr_store.specs.Common.{AllMarkedAmong, AreUnplaced, Body, Cell, Conserved, Heap, IsClosed, IsKept, IsRooted, Kid, Kids, Node, Plot, Slot, StoresNoMore, Tracker, absent, at, begun_body, begun_plot, beneath, body_in, body_occurs, cell_of, cells_found, cells_in, cells_in_body, count_kids, depth_limit, entered_plot, gone, heap_of, kid, kid_nth, kids_occur, no_kids, plot_occurs, pruned, put_nth, slots_occur, slotted_occur, unlinked, uses_among, uses_in, with_body}
use Rattle.std.proofs.lemmas.Grind.{common_steps}
use Rattle.std.proofs.lemmas.Bool.Decides.{nat_tests}
use Rattle.fr_frame.specs.Bodies.{unlinked_by, with_cell}
use Rattle.fr_values.specs.Cells.{cells_occur, placed, slot_in_cells}
use Rattle.fr_frame.specs.Kids.{kid_by, kid_from, plot_in}
use Rattle.fr_store.specs.HoldLaws.{level_below, read_back_in}
use Rattle.fr_store.specs.Prunes.{emptied, kids_below, kids_in_plot, slotted_occurs}

-- how deep the place lies that was found
abbrev pub depth_found : Option Node → ℕ
depth_found (Some node) = node.depth
depth_found None = 0

-- The place is as it was, but that some of its children that were in slots aren't there: once pruned it is the same. What served in
-- these children is free.
pub record IsLeft (before after : Heap) (n : ℕ) : Type 0 where
  pub here : with_body after n pruned n ≡ with_body before n pruned n
  pub depth : depth_found (after n) ≡ depth_found (before n)
  pub fewer : (m : ℕ) → uses_among (beneath after n) m ≤ uses_among (beneath before n) m
  pub free : (m : ℕ) → 0 < uses_among (beneath before n) m → uses_among (beneath after n) m ≡ 0 → after m ≡ None
  pub rest : (m : ℕ) → m ≢ n → uses_among (beneath before n) m ≡ 0 → after m ≡ before m

-- the first so many children of the place in slot n are released, and the others are still beneath it
pub record Pruning (i n : ℕ) (store : List ℕ) (before after : List Slot) (ledger now : List ℕ) : Type 0 where
  pub rooted : IsRooted (heap_of after) n
  pub left : IsLeft (heap_of before) (heap_of after) n
  pub released :
      Conserved (slotted_occur (beneath (heap_of before) n)) ledger (slotted_occur (beneath (heap_of after) n)) now
  pub tokens : (t : ℕ) → slots_occur before t + slotted_occur (beneath (heap_of after) n) t
      ≡ slots_occur after t + slotted_occur (beneath (heap_of before) n) t
  pub kept : IsKept store after
  pub marks : StoresNoMore before after
  pub none : (j : ℕ) → j < i → slot_in_cells (cells_found (heap_of after n)) j ≡ None
  pub count : length (cells_found (heap_of after n)) ≡ length (cells_found (heap_of before n))

-- what lies beneath the place is what is read off the heap
pub beneath_is : (heap : Heap) (n : ℕ) (rooted : IsRooted heap n) → beneath heap n ≡ kids_in_plot rooted.plot
beneath_is heap n rooted = go (level_below depth_limit 0 (omega arith) (omega (arith, rooted.limit)))
  where
    go : (less : ℕ) × (depth_limit ≡ suc less) → kids_below (kid_from depth_limit heap n) ≡ kids_in_plot rooted.plot
    go l =
        ap (λ (levels : ℕ). kids_below (kid_from levels heap n)) l.1
        ∙ ap (λ (o : Option Node). kids_below (kid_by (kid_from l.0 heap) n o)) rooted.here
        ∙ ap (λ (b : Body). kids_in_plot (plot_in (kid_from l.0 heap) b)) rooted.body ∙ ap kids_in_plot
        (read_back_in rooted.plan heap rooted.found.node n (suc rooted.found.depth) l.0 rooted.plot
        (omega (arith, l.1)) rooted.holds)

plot_uses : (plot : Plot) (m : ℕ) → uses_in plot m ≡ uses_among (kids_in_plot plot) m
plot_uses entered_plot m = refl
plot_uses _ m = refl

pub beneath_uses : (heap : Heap) (n : ℕ) (rooted : IsRooted heap n) (m : ℕ) → uses_among (beneath heap n) m ≡ uses_in rooted.plot m
beneath_uses heap n rooted m = ap (λ (ks : Kids). uses_among ks m) (beneath_is heap n rooted) ∙ sym (plot_uses rooted.plot m)

-- Children of one place.

pub plot_cells : (plot : Plot) → cells_in_body (body_in plot) ≡ cells_in (kids_in_plot plot)
plot_cells entered_plot = refl
plot_cells _ = refl

kids_tokens : (ks : Kids) (t : ℕ) → kids_occur ks t ≡ slotted_occur ks t + cells_occur (cells_in ks) t
kids_tokens no_kids t = omega arith
kids_tokens (kid gone ks) t = omega (arith, kids_tokens ks t)
kids_tokens (kid _ ks) t = omega (arith, kids_tokens ks t)

-- the tokens of a place are those in slots beneath it and its own
pub plot_tokens : (plot : Plot) (t : ℕ) → plot_occurs plot t ≡ slotted_occur (kids_in_plot plot) t + body_occurs (body_in plot) t
plot_tokens (begun_plot tracker kids) t = kids_tokens kids t
plot_tokens _ t = omega arith

emptied_tokens : (cs : List Cell) (t : ℕ) → cells_occur (map emptied cs) t ≡ cells_occur cs t
emptied_tokens [] t = refl
emptied_tokens (absent ∷ cs) t = omega (arith, emptied_tokens cs t)
emptied_tokens (_ ∷ cs) t = omega (arith, emptied_tokens cs t)

pub pruned_tokens : (body : Body) (t : ℕ) → body_occurs (pruned body) t ≡ body_occurs body t
pruned_tokens (begun_body tracker cells) t = emptied_tokens cells t
pruned_tokens _ t = refl

unplaced_emptied : (cs : List Cell) → AreUnplaced cs → map emptied cs ≡ cs
unplaced_emptied [] closed = refl
unplaced_emptied (placed n ∷ cs) closed = absurd closed.0
unplaced_emptied (c ∷ cs) closed = ap (λ (xs : List Cell). c ∷ xs) (unplaced_emptied cs closed.1)

-- a place none of whose children is in a slot stays as it is
pub closed_pruned : (body : Body) → IsClosed body → pruned body ≡ body
closed_pruned (begun_body tracker cells) closed = ap (begun_body tracker) (unplaced_emptied cells closed)
closed_pruned _ closed = refl

unplaced_by : (cs : List Cell) → ((j : ℕ) → j < length cs → slot_in_cells cs j ≡ None) → AreUnplaced cs
unplaced_by [] none = tt
unplaced_by (placed n ∷ cs) none = let slotless : Some n ≡ None = none 0 (omega arith) in absurd (cc)
unplaced_by (_ ∷ cs) none = (tt, unplaced_by cs (λ j h. none (suc j) (omega arith)))

pub closed_by : (body : Body) → ((j : ℕ) → j < length (cells_in_body body) → slot_in_cells (cells_in_body body) j ≡ None) → IsClosed body
closed_by (begun_body tracker cells) none = unplaced_by cells none
closed_by _ none = tt

-- The child of a number, which leaves its slot.

pub kid_in_slot : (i m : ℕ) (ks : Kids) → slot_in_cells (cells_in ks) i ≡ Some m → AllMarkedAmong true ks
    → (plot : Plot) × (kid_nth i ks ≡ at m true plot) × (i < count_kids ks)
kid_in_slot i m no_kids is all = absurd (cc)
kid_in_slot zero m (kid (at slot stored plot) ks) is all =
    let same : slot ≡ m = cc in
    (plot, ap (λ (b : Bool). at slot b plot) all.0.0 ∙ ap (λ (x : ℕ). at x true plot) same, omega arith)
kid_in_slot zero m _ is all = absurd (cc)
kid_in_slot (suc i) m (kid k ks) is all =
    let rest = kid_in_slot i m ks is all.1 in
    (rest.0, rest.1, omega (arith, rest.2))

cell_in_slot : (i m : ℕ) (ks : Kids) (plot : Plot) → kid_nth i ks ≡ at m true plot → slice_get (cells_in ks) i ≡ Some (placed m)
cell_in_slot i m no_kids plot is = absurd (cc)
cell_in_slot zero m (kid k ks) plot is = ap (λ (x : Kid). Some (cell_of x)) is
cell_in_slot (suc i) m (kid k ks) plot is = cell_in_slot i m ks plot is

pub cells_gone : (i : ℕ) (ks : Kids) → set (cells_in ks) i absent ≡ cells_in (put_nth i gone ks)
cells_gone i no_kids = refl
cells_gone zero (kid k ks) = refl
cells_gone (suc i) (kid k ks) = ap (λ (cs : List Cell). cell_of k ∷ cs) (cells_gone i ks)

pub unlinked_kid : (tracker : Tracker) (i m : ℕ) (ks : Kids) (plot : Plot) → kid_nth i ks ≡ at m true plot
    → unlinked m i (begun_body tracker (cells_in ks)) ≡ begun_body tracker (cells_in (put_nth i gone ks))
unlinked_kid tracker i m ks plot is =
    let e : nat_eq m m ≡ true = grind (arith, common_steps, nat_tests) in
    ap (unlinked_by m i (begun_body tracker (cells_in ks))) (cell_in_slot i m ks plot is)
    ∙ ap (λ (b : Bool). if b then with_cell (begun_body tracker (cells_in ks)) i absent else begun_body tracker (cells_in ks)) e
    ∙ ap (begun_body tracker) (cells_gone i ks)

pub emptied_put : (i m : ℕ) (ks : Kids) (plot : Plot) → kid_nth i ks ≡ at m true plot
    → map emptied (cells_in (put_nth i gone ks)) ≡ map emptied (cells_in ks)
emptied_put i m no_kids plot is = refl
emptied_put zero m (kid k ks) plot is = ap (λ (x : Kid). emptied (cell_of x) ∷ map emptied (cells_in ks)) (sym is)
emptied_put (suc i) m (kid k ks) plot is = ap (λ (cs : List Cell). emptied (cell_of k) ∷ cs) (emptied_put i m ks plot is)

pub slotted_put : (i : ℕ) (ks : Kids) (t : ℕ)
    → slotted_occur ks t ≡ slotted_occur (put_nth i gone ks) t + slotted_occurs (kid_nth i ks) t
slotted_put i no_kids t = refl
slotted_put zero (kid k ks) t = omega arith
slotted_put (suc i) (kid k ks) t = omega (arith, slotted_put i ks t)

-- of the children up to it none is in a slot
pub none_up_to : (i j : ℕ) (ks : Kids) → j < suc i → (j < i → slot_in_cells (cells_in ks) j ≡ None)
    → slot_in_cells (cells_in (put_nth i gone ks)) j ≡ None
none_up_to i j no_kids h none = refl
none_up_to zero zero (kid k ks) h none = refl
none_up_to zero (suc j) (kid k ks) h none = absurd (omega arith)
none_up_to (suc i) zero (kid k ks) h none = none (omega arith)
none_up_to (suc i) (suc j) (kid k ks) h none = none_up_to i j ks (omega arith) (λ less. none (omega arith))
