-- The first place: the root's, in a slot by itself.
use Rattle.std.proofs.Common.{◌≡◌, ◌≢◌, ◌⊎◌, ℕ, ◌<◌, ◌≤◌, Bool, true, false, List, [], ◌∷◌, nat_eq, Some, None, inl, inr, refl, sym, ◌∙◌, ap, arith, if◌then◌else◌}
use Rattle.fr_work.specs.Common.{Body, Def, FrameOwner, IsOpenAt, IsSome, MayHaveIts, NothingStored, Plan, Plot, Shows, Slot, at, body_in, entered_plot, fresh, heap_of, no_vals, whole_plot}
use Rattle.fr_shape.specs.Fills.{is_empty_struct}
use Rattle.fr_shape.specs.Val.{product}
use Rattle.fr_frame.specs.Heap.{entered_node, with_entered, depth_limit, stored_in}
use Rattle.fr_frame.specs.Kids.{AreLeftIn}
use Rattle.fr_store.specs.EnterLaws.{fresh_closed, fresh_plot, fresh_same, fresh_tree}
use Rattle.fr_store.specs.MoveLaws.{open_at_from}
use Rattle.fr_store.specs.TopLaws.{free_unused, slot_here, slot_other, closed_uses, closed_holds, closed_marked}
use Rattle.fr_store.specs.Ways.{counts_if}
use Rattle.fr_store.specs.WayLaws.{counts_same, same_or_other}

at_most_once : (same : Bool) → counts_if same ≤ 1
at_most_once true = omega arith
at_most_once false = omega arith

-- what is just entered is whole or entered
fresh_so : (So : Plot → Type 0) → So (whole_plot (product no_vals)) → So entered_plot → (def : Def) → So (fresh_plot def)
fresh_so So so_whole so_entered def = go (is_empty_struct def)
  where
    go : (b : Bool) → So (if b then whole_plot (product no_vals) else entered_plot)
    go true = so_whole
    go false = so_entered

-- The root is entered where no slot was in use.
module _ (plan : Plan) (def : Def) (before after : List Slot) (n : ℕ) (free : (m : ℕ) → heap_of before m ≡ None)
    (shows : Shows after (with_entered def (heap_of before) plan.root FrameOwner.Root n)) where
  -- it isn't stored, and nothing else is there
  pub first_unstored : NothingStored after
  first_unstored m = ap stored_in (shows m) ∙ go (nat_eq m n)
    where
      go : (same : Bool)
          → stored_in (if same then Some (entered_node def (heap_of before) plan.root FrameOwner.Root) else heap_of before m)
          ≡ false
      go true = refl
      go false = ap stored_in (free m)

  first_only : (m : ℕ) → IsSome (heap_of after m) → m ≡ n
  first_only m used = go (same_or_other m n)
    where
      go : (m ≡ n) ⊎ (m ≢ n) → m ≡ n
      go (inl e) = e
      go (inr ne) = absurd (free_unused (heap_of after) m (shows m ∙ slot_other (heap_of before) n _ m ne ∙ free m) used)

  -- the builder works there
  pub first_open : 0 < depth_limit → {stack : List ℕ} → stack ≡ n ∷ [] → IsOpenAt plan after stack [] (fresh def)
  first_open limit {stack} alone =
      let plot : Plot = fresh_plot def in
      open_at_from {plan = plan} after {stack = stack} {place = []} {k = at n false plot} {tree = fresh def}
      (record {
        holds = (
          shows n ∙ slot_here (heap_of before) n (Some (entered_node def (heap_of before) plan.root FrameOwner.Root)) ∙ ap
              (λ (body : Body).
              Some (record { node = plan.root; owner = FrameOwner.Root; stored = false; depth = 0; body = body }))
              (sym (fresh_same def)),
          limit,
          closed_holds plan (heap_of after) plan.root n 1 plot (fresh_so (λ (p : Plot). MayHaveIts (body_in p)) tt tt def)
              (fresh_closed def),
        );
        once = λ m. omega (arith, at_most_once (nat_eq n m), closed_uses plot m (fresh_closed def));
        leads = (refl, closed_marked true plot (fresh_closed def));
        along = alone;
        left = fresh_so AreLeftIn tt tt def;
      }) (λ m used.
      let one : counts_if (nat_eq n m) ≡ 1 = ap (λ (x : ℕ). counts_if (nat_eq n x)) (first_only m used) ∙ counts_same n in
      omega (arith, one)) (fresh_tree def)
