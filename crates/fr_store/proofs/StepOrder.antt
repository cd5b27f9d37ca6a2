-- Laws of the steps to places in slots, for proofs: they tell in which order the places come.
use Rattle.std.proofs.Common.{◌≡◌, ◌≢◌, ◌⊎◌, ℕ, zero, suc, ◌+◌, ◌-◌, ◌<◌, ◌≤◌, Bool, true, false, [], ◌∷◌, inl, inr, refl, sym, ◌∙◌, ap, subst, arith, if◌then◌else◌}
use Rattle.std.proofs.lemmas.Bool.{cases_lt}
use Rattle.fr_store.specs.Common.{AllMarked, AreLeftAll, AreLeftRightly, EntriesKind, FrameOwner, Heap, Holds, IsHere, IsLeftRightly, IsThere, ItemsKind, Kid, Kids, LeadsUnstored, Less, MayHave, NodeId, Ordering, PathStep, Place, Plan, Reaches, Tracker, Tree, as_content, as_entries, as_fields, as_items, at, base_of_tracker, begun_plot, child_node, child_owner, count_kids, entry_of, gone, holds_nth, is_key, is_stored, kid, kid_at, kid_nth, left_nth, marked_nth, may_have_all, no_kids, order_as, ordering_then, same_or_other, slice_cmp, step_as, step_itself, step_order, steps_in, takes_at_end_as, there, tree_nth, tree_of, tree_of_nth, trees_in}
use Rattle.std.specs.Ordering.{nat_cmp}
use Rattle.std.specs.declared.cmp.Ordering.TheVariants.{Equal}
use Rattle.fr_store.specs.PlaceOrder.{BranchesLater, IsAfter, IsLater}
use Rattle.fr_store.proofs.PathOrder.{number_less}
use Rattle.fr_store.proofs.OffLaws.{but_nth, leads_same}

-- Numbers.

-- the number of a child of a map by its entry
abbrev pub odd : (of_key : Bool) → ℕ
odd true = 0
odd false = 1

pub halves : (i : ℕ) → i ≡ entry_of i + entry_of i + odd (is_key i)
halves (suc (suc i)) = let rest = halves i in omega (arith, rest)
halves _ = refl

pub either_less : (i j : ℕ) → (i < j) ⊎ (j ≤ i)
either_less i j = cases_lt i j

-- What may be beside each other.

-- a child in a slot isn't one of a base
past_base : (tracker : Tracker) (i : ℕ) (k : Kid) → IsHere k → IsLeftRightly tracker i k → base_of_tracker tracker ≤ entry_of i
past_base (as_entries (EntriesKind.Map base)) i k here left = go (either_less (entry_of i) base)
  where
    not_there : (k : Kid) → IsHere k → IsThere k → ⊥
    not_there gone here is = is
    not_there (there v) here is = here
    not_there (at slot stored plot) here is = is

    go : (entry_of i < base) ⊎ (base ≤ entry_of i) → base ≤ entry_of i
    go (inl h) = absurd (not_there k here (left h))
    go (inr h) = h
past_base _ i k here left = omega arith

-- nor is it stored, where it is an item of a set or a part of a dynamic value
unstored_item : (tracker : Tracker) (i : ℕ) (k : Kid) → takes_at_end_as tracker ≡ true → IsLeftRightly tracker i k → is_stored k ≡ false
unstored_item (as_items ItemsKind.Set) i k takes left = left
unstored_item (as_items ItemsKind.Array) i k takes left = left
unstored_item (as_entries (EntriesKind.Object keys)) i k takes left = left
unstored_item _ i k takes left = absurd (cc)

left_of_nth : (tracker : Tracker) (first i m : ℕ) (ks : Kids) → m ≡ first + i → i < count_kids ks → AreLeftAll tracker first ks
    → IsLeftRightly tracker m (kid_nth i ks)
left_of_nth tracker first i m no_kids e h all = absurd (omega arith)
left_of_nth tracker first zero m (kid k ks) e h all =
    let same : first ≡ m = omega arith in
    subst (λ (n : ℕ). IsLeftRightly tracker n k) same all.0
left_of_nth tracker first (suc i) m (kid k ks) e h all = left_of_nth tracker (suc first) i m ks (omega arith) (omega arith) all.2

-- The way.

-- the way to the place at which the builder works leads on here, or all that is here in slots is stored
abbrev pub IsByTheWay : Kid → Type 0
IsByTheWay k = ((cursor : Place) × LeadsUnstored cursor k) ⊎ AllMarked true k

open_kid : (k : Kid) → IsHere k → is_stored k ≡ false → AllMarked true k → ⊥
open_kid (at slot stored plot) here open_now all = let apart : true ≡ false = sym all.0 ∙ open_now in cc
open_kid _ here open_now all = here

module _ (slot : ℕ) (stored : Bool) (tracker : Tracker) (kids : Kids) where
  by_child : (i : ℕ) → IsByTheWay (at slot stored (begun_plot tracker kids)) → IsByTheWay (kid_nth i kids)
  by_child i (inr all) = inr (marked_nth true i kids all.1)
  by_child i (inl way) = go way.0 way.1
    where
      go : (cursor : Place) → LeadsUnstored cursor (at slot stored (begun_plot tracker kids)) → IsByTheWay (kid_nth i kids)
      go [] leads = inr (marked_nth true i kids leads.1)
      go (c ∷ rest) leads = on (same_or_other i c)
        where
          on : (i ≡ c) ⊎ (i ≢ c) → IsByTheWay (kid_nth i kids)
          on (inl e) = inl (rest, leads_same rest kids e leads.1)
          on (inr ne) = inr (but_nth i c (λ below. LeadsUnstored rest below) kids leads.1 ne)

  -- of the children in slots at most one isn't stored
  one_open : (i j : ℕ) → IsByTheWay (at slot stored (begun_plot tracker kids)) → IsHere (kid_nth i kids)
      → is_stored (kid_nth i kids) ≡ false → IsHere (kid_nth j kids) → is_stored (kid_nth j kids) ≡ false → i ≡ j
  one_open i j (inr all) here open_i beside open_j = absurd (open_kid (kid_nth i kids) here open_i (marked_nth true i kids all.1))
  one_open i j (inl way) here open_i beside open_j = go way.0 way.1
    where
      go : (cursor : Place) → LeadsUnstored cursor (at slot stored (begun_plot tracker kids)) → i ≡ j
      go [] leads = absurd (open_kid (kid_nth i kids) here open_i (marked_nth true i kids leads.1))
      go (c ∷ rest) leads = on (same_or_other i c) (same_or_other j c)
        where
          on : (i ≡ c) ⊎ (i ≢ c) → (j ≡ c) ⊎ (j ≢ c) → i ≡ j
          on (inl e) (inl f) = e ∙ sym f
          on (inr ne) other =
              absurd (open_kid (kid_nth i kids) here open_i (but_nth i c (λ below. LeadsUnstored rest below) kids leads.1 ne))
          on (inl e) (inr ne) =
              absurd (open_kid (kid_nth j kids) beside open_j (but_nth j c (λ below. LeadsUnstored rest below) kids leads.1 ne))

-- Steps.

less_first : (i j : ℕ) → i < j → ordering_then (nat_cmp i j) Equal ≡ Less
less_first i j less = ap (λ (o : Ordering). ordering_then o Equal) (number_less i j less)

-- where the steps to two children in slots come in the walk
step_less : (tracker : Tracker) (count i j : ℕ) → MayHave tracker count → i < count → j < count
    → (takes_at_end_as tracker ≡ true → i ≡ j) → base_of_tracker tracker ≤ entry_of i → base_of_tracker tracker ≤ entry_of j
    → IsAfter tracker i j → step_order (step_as tracker j) (step_as tracker i) ≡ Less
step_less (as_fields selected) count i j may h g alone a b after = less_first j i after
step_less (as_content kind) count i j may h g alone a b after = absurd (omega arith)
step_less (as_items ItemsKind.Set) count i j may h g alone a b after = absurd (omega (arith, alone refl))
step_less (as_items ItemsKind.Array) count i j may h g alone a b after = absurd (omega (arith, alone refl))
step_less (as_entries (EntriesKind.Object keys)) count i j may h g alone a b after = absurd (omega (arith, alone refl))
step_less (as_entries (EntriesKind.Map base)) count i j may h g alone a b after = go (is_key i) (is_key j) refl refl after
  where
    go : (one other : Bool) → is_key i ≡ one → is_key j ≡ other → IsLater one other i j
        → step_order (if other then PathStep.MapKey (entry_of j - base) else PathStep.MapValue (entry_of j - base))
        (if one then PathStep.MapKey (entry_of i - base) else PathStep.MapValue (entry_of i - base)) ≡ Less
    go true true p q later =
        less_first (entry_of j - base) (entry_of i - base) (omega (arith, a, b, later, halves i, halves j, ap odd p, ap odd q))
    go false false p q later =
        less_first (entry_of j - base) (entry_of i - base) (omega (arith, a, b, later, halves i, halves j, ap odd p, ap odd q))
    go false true p q later = refl
    go true false p q later = absurd later
step_less _ count i j may h g alone a b after = less_first j i after

-- Places.

here_first : (place : Place) (k : Kid) → Reaches place k → IsHere (kid_at place k) → IsHere k
here_first [] k reach here = here
here_first (i ∷ place) (at slot stored plot) reach here = tt
here_first (i ∷ place) _ reach here = absurd reach

module _ (plan : Plan) (heap : Heap) where
  -- two children in slots
  module _ (node : NodeId) (owner : FrameOwner) (depth slot : ℕ) (stored : Bool) (tracker : Tracker) (kids : Kids)
      (holds : Holds plan heap node owner depth (at slot stored (begun_plot tracker kids)))
      (left : AreLeftRightly (at slot stored (begun_plot tracker kids))) (by : IsByTheWay (at slot stored (begun_plot tracker kids)))
      (i j : ℕ) (h : i < count_kids kids) (g : j < count_kids kids) (here : IsHere (kid_nth i kids)) (beside : IsHere (kid_nth j kids)) where
    may : MayHave tracker (count_kids kids)
    may = may_have_all plan heap node slot tracker (suc depth) kids holds.2

    left_i : IsLeftRightly tracker i (kid_nth i kids)
    left_i = left_of_nth tracker 0 i i kids (omega arith) h left

    left_j : IsLeftRightly tracker j (kid_nth j kids)
    left_j = left_of_nth tracker 0 j j kids (omega arith) g left

    alone : takes_at_end_as tracker ≡ true → i ≡ j
    alone takes =
        one_open slot stored tracker kids i j by here (unstored_item tracker i (kid_nth i kids) takes left_i) beside
        (unstored_item tracker j (kid_nth j kids) takes left_j)

    later_child : IsAfter tracker i j → step_order (step_as tracker j) (step_as tracker i) ≡ Less
    later_child =
        step_less tracker (count_kids kids) i j may h g alone (past_base tracker i (kid_nth i kids) here left_i)
        (past_base tracker j (kid_nth j kids) beside left_j)

  -- of two ways of one length that which is above comes later in the walk
  pub steps_less : (node : NodeId) (owner : FrameOwner) (depth : ℕ) (p q : Place) (k : Kid) → Holds plan heap node owner depth k
      → AreLeftRightly k → IsByTheWay k → Reaches p k → IsHere (kid_at p k) → Reaches q k → IsHere (kid_at q k)
      → BranchesLater k p q → slice_cmp step_order (steps_in q (tree_of k)) (steps_in p (tree_of k)) ≡ Less
  steps_less node owner depth [] q k holds left by reach here other beside above = absurd above
  steps_less node owner depth (i ∷ p) [] k holds left by reach here other beside above = absurd above
  steps_less node owner depth (i ∷ p) (j ∷ q) (at slot stored (begun_plot tracker kids)) holds left by reach here other beside (inl after) =
      ap (λ (o : Ordering). ordering_then o
      (slice_cmp step_order (steps_in q (tree_nth j (trees_in kids))) (steps_in p (tree_nth i (trees_in kids)))))
      (later_child node owner depth slot stored tracker kids holds left by i j reach.0 other.0
      (here_first p (kid_nth i kids) reach.1 here) (here_first q (kid_nth j kids) other.1 beside) after)
  steps_less node owner depth (i ∷ p) (j ∷ q) (at slot stored (begun_plot tracker kids)) holds left by reach here other beside (inr rest) =
      ap (λ (o : Ordering). ordering_then o
      (slice_cmp step_order (steps_in q (tree_nth j (trees_in kids))) (steps_in p (tree_nth i (trees_in kids)))))
      (step_itself (step_as tracker j) (step_as tracker i) (ap (step_as tracker) (sym rest.0)))
      ∙ ap (λ (m : ℕ). slice_cmp step_order (steps_in q (tree_nth m (trees_in kids))) (steps_in p (tree_nth i (trees_in kids)))) (sym rest.0)
      ∙ ap (λ (t : Tree). slice_cmp step_order (steps_in q t) (steps_in p t)) (sym (tree_of_nth i kids))
      ∙ steps_less (child_node plan node tracker i) (child_owner slot i) (suc depth) p q (kid_nth i kids)
      (holds_nth plan heap node slot tracker 0 (suc depth) kids i i (omega arith) reach.0 holds.2)
      (left_nth tracker 0 i i kids (omega arith) left) (by_child slot stored tracker kids i by) reach.1 here
      (subst (λ (n : ℕ). Reaches q (kid_nth n kids)) (sym rest.0) other.1)
      (subst (λ (n : ℕ). IsHere (kid_at q (kid_nth n kids))) (sym rest.0) beside) rest.1
  steps_less node owner depth (i ∷ p) (j ∷ q) _ holds left by reach here other beside above = absurd reach

-- Order.

-- children of one place are told by where they come, and come so, as long as their numbers fit
pub order_told : (tracker : Tracker) (i j : ℕ) → i < 4294967296 → j < 4294967296 → order_as tracker i ≡ order_as tracker j → i ≡ j
order_told (as_entries (EntriesKind.Map base)) i j h g e = go (is_key i) (is_key j) refl refl e
  where
    go : (one other : Bool) → is_key i ≡ one → is_key j ≡ other
        → (if one then entry_of i else entry_of i + 2147483648) ≡ (if other then entry_of j else entry_of j + 2147483648) → i ≡ j
    go true true p q e = omega (arith, e, halves i, halves j, ap odd p, ap odd q)
    go false false p q e = omega (arith, e, halves i, halves j, ap odd p, ap odd q)
    go true false p q e = absurd (omega (arith, e, h, g, halves i, halves j, ap odd p, ap odd q))
    go false true p q e = absurd (omega (arith, e, h, g, halves i, halves j, ap odd p, ap odd q))
order_told _ i j h g e = e

pub order_later : (tracker : Tracker) (i j : ℕ) → i < 4294967296 → j < 4294967296 → order_as tracker j < order_as tracker i → IsAfter tracker i j
order_later (as_entries (EntriesKind.Map base)) i j h g e = go (is_key i) (is_key j) refl refl e
  where
    go : (one other : Bool) → is_key i ≡ one → is_key j ≡ other
        → (if other then entry_of j else entry_of j + 2147483648) < (if one then entry_of i else entry_of i + 2147483648)
        → IsLater one other i j
    go true true p q e = omega (arith, e, halves i, halves j, ap odd p, ap odd q)
    go false false p q e = omega (arith, e, halves i, halves j, ap odd p, ap odd q)
    go false true p q e = tt
    go true false p q e = absurd (omega (arith, e, h, g, halves i, halves j, ap odd p, ap odd q))
order_later _ i j h g e = e

pub order_small : (tracker : Tracker) (i : ℕ) → i < 4294967296 → order_as tracker i < 4294967296
order_small (as_entries (EntriesKind.Map base)) i h = go (is_key i) refl
  where
    go : (one : Bool) → is_key i ≡ one → (if one then entry_of i else entry_of i + 2147483648) < 4294967296
    go true p = omega (arith, h, halves i, ap odd p)
    go false p = omega (arith, h, halves i, ap odd p)
order_small _ i h = h

pub after_differs : (tracker : Tracker) (i j : ℕ) → IsAfter tracker i j → i ≢ j
after_differs (as_entries (EntriesKind.Map base)) i j after e = go (is_key i) (is_key j) (ap is_key e) after
  where
    go : (one other : Bool) → one ≡ other → IsLater one other i j → ⊥
    go true true same later = omega (arith, later, e)
    go false false same later = omega (arith, later, e)
    go true false same later = later
    go false true same later = cc
after_differs _ i j after e = omega (arith, after, e)
