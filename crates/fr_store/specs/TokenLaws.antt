-- Laws of tokens, for proofs: where each slot in use is that of one place, all slots together hold the tokens of these places.
use Rattle.std.proofs.Common.{◌≡◌, ◌≢◌, ◌⊎◌, ℕ, zero, suc, ◌+◌, ◌<◌, List, [], ◌∷◌, length, nat_eq, Option, Some, None, inl, inr, refl, sym, ◌∙◌, ap, subst, arith}
use Rattle.std.specs.Prelude.{IsSome}
use Rattle.fr_store.specs.Below.{FrameOwner, Heap, Holds, HoldsAll, HoldsIn, Kid, Kids, Node, NodeId, Place, Plan, Plot, Slot, Tracker, at, begun_plot, body_in, body_occurs, cell_occurs, cell_of, cells_in, cells_occur, child_node, child_owner, entered_plot, gone, heap_of, kid, kid_occurs, kids_occur, no_kids, node_in, plot_occurs, slot_occurs, slots_occur, there, whole_plot}
use Rattle.fr_store.specs.StandLaws.{AllServe}
use Rattle.fr_store.specs.Stands.{Stands}
use Rattle.fr_store.specs.Ways.{counts_if, uses, uses_in, uses_among, LeadsUnstored}
use Rattle.fr_store.specs.WayLaws.{counts_same, counts_other, same_or_other}

-- Sums.

-- a number so many times
abbrev scaled : ℕ → ℕ → ℕ
scaled zero c = 0
scaled (suc m) c = c + scaled m c

scaled_sum : (m n c : ℕ) → scaled (m + n) c ≡ scaled m c + scaled n c
scaled_sum zero n c = let same : 0 + n ≡ n = omega arith in omega (arith, ap (λ (x : ℕ). scaled x c) same)
scaled_sum (suc m) n c =
    let same : suc m + n ≡ suc (m + n) = omega arith in
    omega (arith, ap (λ (x : ℕ). scaled x c) same, scaled_sum m n c)

scaled_none : (m : ℕ) → scaled m 0 ≡ 0
scaled_none zero = refl
scaled_none (suc m) = omega (arith, scaled_none m)

scaled_one : {m : ℕ} (c : ℕ) → m ≡ 1 → scaled m c ≡ c
scaled_one c e = ap (λ (n : ℕ). scaled n c) e ∙ more c
  where
    more : (c : ℕ) → scaled 1 c ≡ c
    more c = omega arith

-- the first so many of some numbers, each as many times as it weighs, together
abbrev weighed : (w f : ℕ → ℕ) → (count : ℕ) → ℕ
weighed w f zero = 0
weighed w f (suc count) = scaled (w 0) (f 0) + weighed (λ n. w (suc n)) (λ n. f (suc n)) count

weighed_none : (w f : ℕ → ℕ) (count : ℕ) → ((n : ℕ) → w n ≡ 0) → weighed w f count ≡ 0
weighed_none w f zero none = refl
weighed_none w f (suc count) none =
    let first : scaled (w 0) (f 0) ≡ 0 = ap (λ (n : ℕ). scaled n (f 0)) (none 0) in
    omega (arith, first, weighed_none (λ n. w (suc n)) (λ n. f (suc n)) count (λ n. none (suc n)))

weighed_same : (v w f : ℕ → ℕ) (count : ℕ) → ((n : ℕ) → v n ≡ w n) → weighed v f count ≡ weighed w f count
weighed_same v w f zero same = refl
weighed_same v w f (suc count) same =
    let first : scaled (v 0) (f 0) ≡ scaled (w 0) (f 0) = ap (λ (n : ℕ). scaled n (f 0)) (same 0) in
    omega (arith, first, weighed_same (λ n. v (suc n)) (λ n. w (suc n)) (λ n. f (suc n)) count (λ n. same (suc n)))

weighed_sum : (v w f : ℕ → ℕ) (count : ℕ) → weighed (λ n. v n + w n) f count ≡ weighed v f count + weighed w f count
weighed_sum v w f zero = refl
weighed_sum v w f (suc count) =
    omega (arith, scaled_sum (v 0) (w 0) (f 0), weighed_sum (λ n. v (suc n)) (λ n. w (suc n)) (λ n. f (suc n)) count)

counts_next : (slot n : ℕ) → counts_if (nat_eq (suc slot) (suc n)) ≡ counts_if (nat_eq slot n)
counts_next slot n = go (same_or_other slot n)
  where
    go : (slot ≡ n) ⊎ (slot ≢ n) → counts_if (nat_eq (suc slot) (suc n)) ≡ counts_if (nat_eq slot n)
    go (inl e) =
        ap (λ (m : ℕ). counts_if (nat_eq (suc m) (suc n))) e ∙ counts_same (suc n) ∙ sym (counts_same n)
        ∙ ap (λ (m : ℕ). counts_if (nat_eq m n)) (sym e)
    go (inr ne) = counts_other (suc slot) (suc n) (λ e. ne (omega (arith, e))) ∙ sym (counts_other slot n ne)

weighed_one : (slot : ℕ) (f : ℕ → ℕ) (count : ℕ) → slot < count → weighed (λ n. counts_if (nat_eq slot n)) f count ≡ f slot
weighed_one slot f zero h = absurd (omega arith)
weighed_one zero f (suc count) h =
    omega
    (arith, scaled_one (f 0) (counts_same 0), weighed_none (λ n. counts_if (nat_eq 0 (suc n))) (λ n. f (suc n)) count (λ n. counts_other 0 (suc n) (λ e. absurd (omega (arith, e)))))
weighed_one (suc slot) f (suc count) h =
    let none : scaled (counts_if (nat_eq (suc slot) 0)) (f 0) ≡ 0
    = ap (λ (n : ℕ). scaled n (f 0)) (counts_other (suc slot) 0 (λ e. absurd (omega (arith, e)))) ∙ none_of (f 0) in
    omega
    (arith, none, weighed_same (λ n. counts_if (nat_eq (suc slot) (suc n))) (λ n. counts_if (nat_eq slot n)) (λ n. f (suc n)) count (counts_next slot), weighed_one slot (λ n. f (suc n)) count (omega arith))
  where
    none_of : (c : ℕ) → scaled 0 c ≡ 0
    none_of c = refl

-- What a heap holds.

abbrev found_occurs : Option Node → ℕ → ℕ
found_occurs (Some found) t = body_occurs found.body t
found_occurs None t = 0

module _ (plan : Plan) (heap : Heap) (count : ℕ) (within : (n : ℕ) → IsSome (heap n) → n < count) (t : ℕ) where
  abbrev f : ℕ → ℕ
  f n = found_occurs (heap n) t

  mutual
    held_tokens : (node : NodeId) (owner : FrameOwner) (depth : ℕ) (k : Kid) → Holds plan heap node owner depth k
        → kid_occurs k t ≡ cell_occurs (cell_of k) t + weighed (uses k) f count
    held_tokens node owner depth gone holds = omega (arith, weighed_none (uses gone) f count (λ n. refl))
    held_tokens node owner depth (there v) holds = omega (arith, weighed_none (uses (there v)) f count (λ n. refl))
    held_tokens node owner depth (at slot stored plot) holds =
        let here : f slot ≡ body_occurs (body_in plot) t = ap (λ (x : Option Node). found_occurs x t) holds.0 in
        omega
        (arith, here, weighed_sum (λ n. counts_if (nat_eq slot n)) (uses_in plot) f count, weighed_same (uses (at slot stored plot)) (λ n. counts_if (nat_eq slot n) + uses_in plot n) f count (λ n. refl), weighed_one slot f count (within slot (used slot _ holds.0)), plot_tokens node slot (suc depth) plot holds.2)
      where
        used : (slot : ℕ) (found : Node) → heap slot ≡ Some found → IsSome (heap slot)
        used slot found is = subst (λ (x : Option Node). IsSome x) (sym is) refl

    plot_tokens : (node : NodeId) (slot depth : ℕ) (plot : Plot) → HoldsIn plan heap node slot depth plot
        → plot_occurs plot t ≡ body_occurs (body_in plot) t + weighed (uses_in plot) f count
    plot_tokens node slot depth entered_plot holds = omega (arith, weighed_none (uses_in entered_plot) f count (λ n. refl))
    plot_tokens node slot depth (whole_plot v) holds = omega (arith, weighed_none (uses_in (whole_plot v)) f count (λ n. refl))
    plot_tokens node slot depth (begun_plot tracker kids) holds =
        omega
        (arith, weighed_same (uses_in (begun_plot tracker kids)) (uses_among kids) f count (λ n. refl), among_tokens node slot tracker 0 depth kids holds)

    among_tokens : (node : NodeId) (slot : ℕ) (tracker : Tracker) (i depth : ℕ) (ks : Kids)
        → HoldsAll plan heap node slot tracker i depth ks
        → kids_occur ks t ≡ cells_occur (cells_in ks) t + weighed (uses_among ks) f count
    among_tokens node slot tracker i depth no_kids holds = omega (arith, weighed_none (uses_among no_kids) f count (λ n. refl))
    among_tokens node slot tracker i depth (kid k ks) holds =
        omega
        (arith, weighed_sum (uses k) (uses_among ks) f count, weighed_same (uses_among (kid k ks)) (λ n. uses k n + uses_among ks n) f count (λ n. refl), held_tokens (child_node plan node tracker i) (child_owner slot i) depth k holds.0, among_tokens node slot tracker (suc i) depth ks holds.1)

-- All slots.

slot_found : (slot : Slot) (t : ℕ) → slot_occurs slot t ≡ found_occurs (node_in slot) t
slot_found (Slot.Free next) t = refl
slot_found _ t = refl

slots_weighed : (slots : List Slot) (w : ℕ → ℕ) (t : ℕ)
    → ((n : ℕ) → scaled (w n) (found_occurs (heap_of slots n) t) ≡ found_occurs (heap_of slots n) t)
    → slots_occur slots t ≡ weighed w (λ n. found_occurs (heap_of slots n) t) (length slots)
slots_weighed [] w t once = refl
slots_weighed (slot ∷ slots) w t once =
    omega (arith, slot_found slot t, once 0, slots_weighed slots (λ n. w (suc n)) t (λ n. once (suc n)))

-- what is in use has a slot
pub used_within : (slots : List Slot) (n : ℕ) → IsSome (heap_of slots n) → n < length slots
used_within [] n used = absurd (cc)
used_within (slot ∷ slots) zero used = omega arith
used_within (slot ∷ slots) (suc n) used = let rest = used_within slots n used in omega arith

top_cell : (place : Place) (k : Kid) (t : ℕ) → LeadsUnstored place k → cell_occurs (cell_of k) t ≡ 0
top_cell [] gone t leads = absurd leads
top_cell [] (there v) t leads = absurd leads
top_cell [] (at slot stored plot) t leads = refl
top_cell (i ∷ place) gone t leads = absurd leads
top_cell (i ∷ place) (there v) t leads = absurd leads
top_cell (i ∷ place) (at slot stored plot) t leads = refl

-- the slots that stand for something, each in use for one place of it, hold its tokens
pub tokens_held : {plan : Plan} (slots : List Slot) {stack : List ℕ} {place : Place} {k : Kid}
    → Stands plan (heap_of slots) stack place k → AllServe (heap_of slots) k → (t : ℕ) → slots_occur slots t ≡ kid_occurs k t
tokens_held {plan} slots {place} {k} stands all t = omega
    (arith, slots_weighed slots (uses k) t (λ n. once n (heap_of slots n) refl), held_tokens plan (heap_of slots) (length slots) (used_within slots) t plan.root FrameOwner.Root 0 k stands.holds, top_cell place k t stands.leads)
  where
    once : (n : ℕ) (found : Option Node) → heap_of slots n ≡ found → scaled (uses k n) (found_occurs found t) ≡ found_occurs found t
    once n (Some found) is =
        scaled_one {m = uses k n} (found_occurs (Some found) t)
        (omega (arith, stands.once n, all n (subst (λ (x : Option Node). IsSome x) (sym is) refl)))
    once n None is = scaled_none (uses k n)
