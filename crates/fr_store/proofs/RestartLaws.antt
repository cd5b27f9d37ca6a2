-- The top is begun anew, after all that is stored beneath it was released.
use Rattle.std.proofs.Common.{◌≡◌, ℕ, List, sym, ◌∙◌, ap, subst}
use Rattle.fr_store.specs.Common.{Cell, IsLast, IsOpen, IsPruned, MayHave, Plan, Plot, Shows, Slot, Tracker, Trees, base_of_tracker, begun, begun_body, begun_plot, beneath, body_in, heap_of, holes, pruned, restarted, with_body}
use Rattle.fr_store.proofs.BeginningTops.{gones, gones_cells, gones_left, gones_may, gones_trees, gones_unplaced}
use Rattle.fr_store.proofs.WholeTops.{IsSetTo, is_set}

abbrev anew : Tracker → ℕ → Plot
anew tracker count = begun_plot tracker (gones count)

module _ {plan : Plan} {slots : List Slot} {stack : List ℕ} (open_now : IsOpen plan slots stack) {n : ℕ} (last : IsLast stack n)
    (mid : List Slot) (is : IsPruned (heap_of slots) (heap_of mid) n pruned (beneath (heap_of slots) n)) (tracker : Tracker)
    (count : ℕ) (may : MayHave tracker count) (none : base_of_tracker tracker ≡ 0) (after : List Slot)
    (shows : Shows after (with_body (heap_of mid) n (restarted tracker count))) where
  puts : Shows after (with_body (heap_of mid) n (λ old. body_in (anew tracker count)))
  puts m =
      shows m
      ∙ ap (λ (cells : List Cell). with_body (heap_of mid) n (λ old. begun_body tracker cells) m) (sym (gones_cells count))

  pub restarts : IsSetTo plan slots mid after stack (begun tracker (holes count))
  restarts =
      subst (λ (ts : Trees). IsSetTo plan slots mid after stack (begun tracker ts)) (gones_trees count)
      (is_set open_now last mid is after (anew tracker count) (gones_may tracker count may) (gones_unplaced count)
      (gones_left tracker 0 count none) puts)
