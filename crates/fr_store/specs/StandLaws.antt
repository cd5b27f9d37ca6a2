-- Laws of slots and stacks that stand for a tree, for proofs.
use Rattle.std.proofs.Common.{◌≡◌, ◌⊎◌, ℕ, ◌+◌, ◌<◌, ◌≤◌, List, [], ◌∷◌, ◌++◌, append-nil, inl, inr, refl, sym, ◌∙◌, ap, subst, arith}
use Rattle.std.specs.Prelude.{IsSome}
use Rattle.fr_store.specs.Below.{AreLeftRightly, FrameOwner, Heap, Kid, Place, Plan, Slot, at, cell_of, heap_of, kid_from, kid_in, tree_of}
use Rattle.fr_frame.specs.Heap.{depth_limit}
use Rattle.fr_store.specs.HoldLaws.{AgreeBeside, Replaces, numbers_read, replaces_at, read_back}
use Rattle.fr_store.specs.LeftLaws.{IsLeftAs, left_at, left_put_at}
use Rattle.fr_store.specs.Stands.{Stands, kid_shown, tree_shown, cursor_shown, IsOpen}
use Rattle.fr_store.specs.Ways.{kid_at, put_at, slots_along, slots_above, uses, LeadsUnstored, Reaches}
use Rattle.fr_store.specs.WayLaws.{leads_reach, leads_put_at, along_put_at, uses_at, uses_put_at}

-- the way leads to what lies at its end
pub stands_reach : {plan : Plan} {heap : Heap} {stack : List ℕ} {place : Place} {k : Kid} → Stands plan heap stack place k
    → Reaches place k
stands_reach {place} {k} stands = leads_reach place [] k (subst (λ (p : Place). LeadsUnstored p k) (sym (append-nil place)) stands.leads)

-- One change. What lies at a place on the way is replaced: it stays in its slot, all beside it is as it was, the new is held where
-- the old was, uses no slot twice and none that serves beside it, the way goes on in it, and nothing of it is stored that may not be.
pub stands_change : {plan : Plan} {heap : Heap} (other : Heap) {stack next : List ℕ} (place old below : Place) {new k : Kid}
    → Stands plan heap stack (place ++ old) k → cell_of new ≡ cell_of (kid_at place k) → AgreeBeside heap other k (kid_at place k)
    → Replaces plan heap other (kid_at place k) new → ((n : ℕ) → uses k n + uses new n ≤ 1 + uses (kid_at place k) n)
    → LeadsUnstored below new → IsLeftAs (kid_at place k) new → (AreLeftRightly (kid_at place k) → AreLeftRightly new)
    → next ≡ slots_above place k ++ slots_along below new → Stands plan other next (place ++ below) (put_at place new k)
stands_change {plan} {heap} other place old below {new} {k} stands same agree replaces once leads same_as left along =
    let reach = leads_reach place old k stands.leads in
    record {
      holds = replaces_at plan heap other place new k same agree replaces plan.root FrameOwner.Root 0 stands.holds;
      once = λ n. omega (arith, uses_put_at place new k n reach, once n);
      leads = leads_put_at place old below new k stands.leads leads;
      along = along ∙ sym (along_put_at place below new k reach);
      left = left_put_at place k same_as (left (left_at place k stands.left)) stands.left;
    }

-- Slots in use.

-- each of the heap serves in it
abbrev pub AllServe : Heap → Kid → Type 0
AllServe heap k = (n : ℕ) → IsSome (heap n) → 0 < uses k n

-- What lies at a place is replaced: each slot in use then serves in the new, or was in use before and didn't serve in the old.
pub all_changed : (heap other : Heap) (place : Place) (new k : Kid) → Reaches place k → AllServe heap k
    → ((n : ℕ) → IsSome (other n) → (0 < uses new n) ⊎ (IsSome (heap n) × (uses (kid_at place k) n ≤ uses new n)))
    → AllServe other (put_at place new k)
all_changed heap other place new k reach all from n used = go (from n used)
  where
    go : (0 < uses new n) ⊎ (IsSome (heap n) × (uses (kid_at place k) n ≤ uses new n)) → 0 < uses (put_at place new k) n
    go (inl here) = omega (arith, uses_put_at place new k n reach, uses_at place k n)
    go (inr still) = omega (arith, uses_put_at place new k n reach, uses_at place k n, all n still.0, still.1)

-- no slot comes into use, and each that still is and serves in the old serves in the new
pub all_kept_but : (heap other : Heap) (place : Place) (new k : Kid) → Reaches place k → AllServe heap k
    → ((n : ℕ) → IsSome (other n) → IsSome (heap n) × (uses (kid_at place k) n ≤ uses new n))
    → AllServe other (put_at place new k)
all_kept_but heap other place new k reach all from = all_changed heap other place new k reach all (λ n used. inr (from n used))

-- no slot comes into use, and each that serves in the old serves in the new
pub all_kept : (heap other : Heap) (place : Place) (new k : Kid) → Reaches place k → AllServe heap k
    → ((n : ℕ) → IsSome (other n) → IsSome (heap n)) → ((n : ℕ) → uses (kid_at place k) n ≤ uses new n)
    → AllServe other (put_at place new k)
all_kept heap other place new k reach all from serve =
    all_kept_but heap other place new k reach all (λ n used. (from n used, serve n))

-- What stands is what is read off slots and stack.

kid_first : (heap : Heap) (place : Place) (k : Kid) → LeadsUnstored place k
    → kid_shown heap (slots_along place k) ≡ kid_in (kid_from depth_limit heap) (cell_of k)
kid_first heap [] (at slot stored plot) leads = refl
kid_first heap [] _ leads = absurd leads
kid_first heap (i ∷ place) (at slot stored plot) leads = refl
kid_first heap (i ∷ place) _ leads = absurd leads

module _ {plan : Plan} {heap : Heap} {stack : List ℕ} {place : Place} {k : Kid} (stands : Stands plan heap stack place k) where
  pub kid_is : kid_shown heap stack ≡ k
  kid_is =
      let deep : depth_limit ≤ depth_limit + 0 = omega arith in
      ap (kid_shown heap) stands.along ∙ kid_first heap place k stands.leads
      ∙ read_back plan heap plan.root FrameOwner.Root 0 depth_limit k deep stands.holds

  pub tree_is : tree_shown heap stack ≡ tree_of k
  tree_is = ap tree_of kid_is

  -- the place that the owners tell is the cursor
  pub cursor_is : cursor_shown heap stack ≡ place
  cursor_is =
      ap (cursor_shown heap) stands.along ∙ numbers_read plan heap plan.root FrameOwner.Root 0 place k stands.holds stands.leads

-- what stands for something stands for what is shown
pub stands_shown : {plan : Plan} {heap : Heap} {stack : List ℕ} {place : Place} {k : Kid} → Stands plan heap stack place k
    → Stands plan heap stack (cursor_shown heap stack) (kid_shown heap stack)
stands_shown {plan} {heap} {stack} {place} {k} stands =
    subst (λ (p : Place). Stands plan heap stack p (kid_shown heap stack)) (sym (cursor_is stands))
    (subst (λ (x : Kid). Stands plan heap stack place x) (sym (kid_is stands)) stands)

-- a builder is open where its slots and its stack stand for something
pub open_from : {plan : Plan} (slots : List Slot) {stack : List ℕ} {place : Place} {k : Kid}
    → Stands plan (heap_of slots) stack place k → AllServe (heap_of slots) k → IsOpen plan slots stack
open_from {plan} slots {stack} {place} {k} stands all =
    let is = kid_is stands in
    record {
      stands = stands_shown stands;
      all = λ n used. subst (λ (x : Kid). 0 < uses x n) (sym is) (all n used);
    }
