-- A change of the place on top, whichever it is, as it is met.
use Rattle.std.proofs.Common.{◌≡◌, ℕ, ◌+◌, true, List, sym, ◌∙◌, refl, ap, subst, arith}
use Rattle.fr_moves.specs.Common.{Change, Changed, Conserved, Conserved_same, Frames, MayStay, Plan, Tree, carried_by, changed, mode_of, top_shape, top_tree}
use Rattle.fr_moves.specs.Moving.{needs_none_for}

module _ {change told : Change} (is : change ≡ told) where
  -- it may be made
  pub may_be : (frames : Frames) → MayStay frames.table.now (top_shape frames) (top_tree frames) change
      → MayStay frames.table.now (top_shape frames) (top_tree frames) told
  may_be frames may = subst (λ (c : Change). MayStay frames.table.now (top_shape frames) (top_tree frames) c) is may

  -- the place becomes what is told of it
  pub as_told : {plan : Plan} {frames after : Frames}
      → Changed plan (changed frames.table.now (top_shape frames) (mode_of frames.mode) (top_tree frames) told) frames after
      → Changed plan (changed frames.table.now (top_shape frames) (mode_of frames.mode) (top_tree frames) change) frames after
  as_told {plan} {frames} {after} done =
      subst (λ (c : Change). Changed plan
      (changed frames.table.now (top_shape frames) (mode_of frames.mode) (top_tree frames) c) frames after) (sym is) done

  -- it takes no memory
  pub needs_none_so : (tree : Tree) → needs_none_for change tree ≡ true → needs_none_for told tree ≡ true
  needs_none_so tree none = ap (λ (c : Change). needs_none_for c tree) (sym is) ∙ none

  -- where it carries nothing, only what was there is kept or released
  pub none_carried : {held left : ℕ → ℕ} {old new : List ℕ} → ((t : ℕ) → carried_by told t ≡ 0) → Conserved held old left new
      → Conserved (λ t. held t + carried_by change t) old left new
  none_carried {held} {left} {old} {new} none kept =
      Conserved_same held (λ t. held t + carried_by change t) old left left new
      (λ t. let nothing : carried_by change t ≡ 0 = ap (λ (c : Change). carried_by c t) is ∙ none t in omega arith) (λ t. refl)
      kept
