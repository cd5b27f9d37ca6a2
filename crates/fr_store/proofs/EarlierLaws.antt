-- The order of ways by their length and, among ways of one length, from the last to the first; and the order of the walk.
use Rattle.std.proofs.Common.{◌≡◌, ◌≢◌, ℕ, suc, List, [], ◌∷◌, ◌++◌, length, length-append, inl, inr, refl, ◌∙◌, ap, arith}
use Rattle.fr_store.specs.Common.{All, AreInWalkOrder, AreLeftRightly, ComesBefore, ComesEarlier, FrameOwner, Heap, Holds, IsPlaced, Kid, NodeId, Ordering, Pairs, Place, Plan, at, begun_plot, kid_at, kid_below, ordering_then, slice_cmp, step_order, steps_in, tree_of}
use Rattle.fr_store.specs.PlaceOrder.{BranchesLater, IsAfterBelow}
use Rattle.fr_store.proofs.HeadLaws.{steps_count}
use Rattle.fr_store.proofs.PairLaws.{pairs_weaker}
use Rattle.fr_store.proofs.PathOrder.{number_less, number_equal}
use Rattle.fr_store.proofs.StepOrder.{IsByTheWay, after_differs, steps_less}

after_below_differs : (k : Kid) (i j : ℕ) → IsAfterBelow k i j → i ≢ j
after_below_differs (at slot stored (begun_plot tracker kids)) i j after e = after_differs tracker i j after e
after_below_differs _ i j after e = omega (arith, after, e)

above_differs : (k : Kid) (p q : Place) → BranchesLater k p q → p ≢ q
above_differs k (i ∷ p) (j ∷ q) (inl after) e = after_below_differs k i j after (cc)
above_differs k (i ∷ p) (j ∷ q) (inr rest) e = above_differs (kid_below i k) p q rest.1 (cc)
above_differs k _ _ above e = absurd above

pub earlier_differs : (k : Kid) (p q : Place) → ComesEarlier k p q → p ≢ q
earlier_differs k p q (inl shorter) e = let lengths : length p ≡ length q = ap (λ (l : Place). length l) e in omega arith
earlier_differs k p q (inr above) e = above_differs k p q above.1 e

-- children of one place
last_above : (k : Kid) (p : Place) (i j : ℕ) → IsAfterBelow (kid_at p k) i j → BranchesLater k (p ++ i ∷ []) (p ++ j ∷ [])
last_above k [] i j after = inl after
last_above k (m ∷ p) i j after = inr (refl, last_above (kid_below m k) p i j after)

one_longer : (p : Place) (i : ℕ) → length (p ++ i ∷ []) ≡ suc (length p)
one_longer p i = omega (arith, length-append p (i ∷ []))

pub siblings : (k : Kid) (p : Place) (i j : ℕ) → IsAfterBelow (kid_at p k) i j → ComesEarlier k (p ++ i ∷ []) (p ++ j ∷ [])
siblings k p i j after = inr (omega (arith, one_longer p i, one_longer p j), last_above k p i j after)

-- children of two places
children_above : (k : Kid) (p q : Place) (i j : ℕ) → BranchesLater k p q → BranchesLater k (p ++ i ∷ []) (q ++ j ∷ [])
children_above k (m ∷ p) (n ∷ q) i j (inl after) = inl after
children_above k (m ∷ p) (n ∷ q) i j (inr rest) = inr (rest.0, children_above (kid_below m k) p q i j rest.1)
children_above k _ _ i j above = absurd above

pub children_earlier : (k : Kid) (p q : Place) (i j : ℕ) → ComesEarlier k p q → ComesEarlier k (p ++ i ∷ []) (q ++ j ∷ [])
children_earlier k p q i j (inl shorter) = inl (omega (arith, one_longer p i, one_longer q j))
children_earlier k p q i j (inr above) =
    inr (omega (arith, one_longer p i, one_longer q j, above.0), children_above k p q i j above.1)

pub root_earlier : (k : Kid) (p : Place) (i : ℕ) → ComesEarlier k [] (p ++ i ∷ [])
root_earlier k p i = inl (omega (arith, one_longer p i))

-- Paths.

module _ (plan : Plan) (heap : Heap) (node : NodeId) (owner : FrameOwner) (depth : ℕ) (k : Kid)
    (holds : Holds plan heap node owner depth k) (left : AreLeftRightly k) (by : IsByTheWay k) where
  before_earlier : {p q : Place} → IsPlaced k p → IsPlaced k q → ComesEarlier k p q → ComesBefore (tree_of k) q p
  before_earlier {p} {q} one other (inl shorter) =
      ap (λ (o : Ordering). ordering_then o (slice_cmp step_order (steps_in q (tree_of k)) (steps_in p (tree_of k))))
      (number_less (length (steps_in p (tree_of k))) (length (steps_in q (tree_of k)))
      (omega (arith, steps_count p (tree_of k), steps_count q (tree_of k))))
  before_earlier {p} {q} one other (inr above) =
      ap (λ (o : Ordering). ordering_then o (slice_cmp step_order (steps_in q (tree_of k)) (steps_in p (tree_of k))))
      (number_equal (length (steps_in p (tree_of k))) (length (steps_in q (tree_of k)))
      (omega (arith, steps_count p (tree_of k), steps_count q (tree_of k), above.0)))
      ∙ steps_less plan heap node owner depth p q k holds left by one.reaches one.here other.reaches other.here above.1

  pub in_walk_order : (places : List Place) → All (IsPlaced k) places → Pairs (λ p q. ComesEarlier k q p) places
      → AreInWalkOrder (tree_of k) places
  in_walk_order places placed order =
      pairs_weaker (λ p q. ComesEarlier k q p) (ComesBefore (tree_of k)) (IsPlaced k)
      (λ p q one other earlier. before_earlier other one earlier) places placed order
