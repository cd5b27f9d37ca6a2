-- What completing all beneath a place comes to: a turn of a place beneath it changes nothing of that, and in the end nothing is left.
use Rattle.std.proofs.Common.{◌≡◌, ◌≢◌, ◌⊎◌, ℕ, suc, zero, ◌+◌, ◌<◌, ◌≤◌, Bool, true, false, [], ◌∷◌, ◌++◌, Option, Some, inl, inr, refl, sym, ◌∙◌, ap, arith}
use Rattle.std.specs.Prelude.{if◌then◌else◌}
use Rattle.fr_store.specs.Common.{AtCursor, Meanings, Place, Table, Tracker, Tree, Trees, Val, begun, branch, closed_at, complete, deferred_column, finished, hole, is_begun_conversion, is_conversion, no_trees, option_map, shape_in, strict, tree_at, tree_nth, whole}
use Rattle.fr_model.specs.Finish.{closed, closed_all, closed_but, one_more_tree}
use Rattle.fr_model.specs.FinishLaws.{Closes, ClosingKeepsCompletion, ClosingKeepsFinish}
use Rattle.fr_model.specs.DueNotes.{IsOffTheWay}
use Rattle.fr_model.specs.Tree.{child_as, count_below, count_trees}
use Rattle.fr_model.specs.Well.{AllOff}
use Rattle.fr_store.specs.Beneath.{completed_beneath}
use Rattle.fr_store.proofs.ClosingLaws.{nth_changed}

past_off : (i past : ℕ) (here : Place) → i < past → IsOffTheWay (past ∷ []) (i ∷ here)
past_off i past here less way e = let same : past ≡ i = cc in omega (arith, less, same)

-- a place lies beneath the top, or is the top and a conversion
abbrev pub IsUnder : (here : Place) → Tree → Type 0
IsUnder here tree = (here ≢ []) ⊎ (is_begun_conversion tree ≡ true)

module _ (hooks : Meanings) (table : Table) where
  -- where none of the children is on the way, all of them are completed
  none_on_way : (s : ℕ) (tracker : Tracker) (on_way : ℕ) (becomes : ℕ → Tree → Option Tree) (i : ℕ) (ts : Trees)
      → count_trees ts ≤ on_way → closed_but hooks table s tracker on_way becomes i ts ≡ closed_all hooks table s tracker i ts
  none_on_way s tracker on_way becomes i no_trees past = refl
  none_on_way s tracker zero becomes i (branch t ts) past = absurd (omega arith)
  none_on_way s tracker (suc on_way) becomes i (branch t ts) past =
      ap (one_more_tree (closed hooks table (child_as table s tracker i) t))
      (none_on_way s tracker on_way becomes (suc i) ts (omega arith))

  -- so this is what the end of deferred mode comes to for a builder that works past the last child
  as_finished : (s past : ℕ) (tree : Tree) → is_begun_conversion tree ≡ false → count_below tree ≤ past
      → completed_beneath hooks table s tree ≡ finished hooks table s (past ∷ []) tree
  as_finished s past (begun tracker ts) plain h =
      ap (λ (b : Bool). if b then option_map whole (complete deferred_column hooks table s (begun tracker ts))
      else option_map (begun tracker) (closed_all hooks table s tracker 0 ts)) plain ∙ ap (option_map (begun tracker))
      (sym (none_on_way s tracker past (λ (shape : ℕ) (t : Tree). finished hooks table shape [] t) 0 ts h))
  as_finished s past _ plain h = refl

  -- and this of a conversion
  as_completed : (s : ℕ) (tree : Tree) → is_begun_conversion tree ≡ true
      → completed_beneath hooks table s tree ≡ option_map whole (complete deferred_column hooks table s tree)
  as_completed s (begun tracker ts) is =
      ap (λ (b : Bool). if b then option_map whole (complete deferred_column hooks table s (begun tracker ts))
      else option_map (begun tracker) (closed_all hooks table s tracker 0 ts)) is
  as_completed s _ is = absurd (cc)

  -- the same comes of a tree in which such a place is whole with the value that it makes
  same_beneath : ClosingKeepsFinish → ClosingKeepsCompletion → (s : ℕ) (here : Place) (v : Val) (tree : Tree) → IsUnder here tree
      → Closes hooks table s here v tree
      → completed_beneath hooks table s (closed_at here v tree) ≡ completed_beneath hooks table s tree
  same_beneath keeps completion s [] v tree (inl beneath) closes = absurd (beneath refl)
  same_beneath keeps completion s [] v tree (inr is) closes = sym (as_completed s tree is ∙ ap (option_map whole) closes.makes)
  same_beneath keeps completion s (i ∷ here) v (begun tracker ts) under closes = go (is_conversion tracker) refl
    where
      go : (b : Bool) → is_conversion tracker ≡ b → completed_beneath hooks table s (closed_at (i ∷ here) v (begun tracker ts))
          ≡ completed_beneath hooks table s (begun tracker ts)
      go true e =
          as_completed s (closed_at (i ∷ here) v (begun tracker ts)) e
          ∙ ap (option_map whole) (completion hooks table s (i ∷ here) v (begun tracker ts) closes)
          ∙ sym (as_completed s (begun tracker ts) e)
      go false e =
          let past : ℕ = count_trees ts + count_below (closed_at (i ∷ here) v (begun tracker ts)) in
          as_finished s past (closed_at (i ∷ here) v (begun tracker ts)) e (omega arith)
          ∙ keeps hooks table s (past ∷ []) (i ∷ here) v (begun tracker ts) closes
          (inl (past_off i past here (omega (arith, closes.place.0))))
          ∙ sym (as_finished s past (begun tracker ts) e (omega arith))
  same_beneath keeps completion s (i ∷ here) v _ under closes = absurd closes.place

  -- and of a tree within another
  pub same_within : ClosingKeepsFinish → ClosingKeepsCompletion → (s : ℕ) (top here : Place) (v : Val) (tree : Tree)
      → IsUnder here (tree_at top tree) → Closes hooks table s (top ++ here) v tree
      → completed_beneath hooks table (shape_in table s top (closed_at (top ++ here) v tree)) (tree_at top (closed_at (top ++ here) v tree))
      ≡ completed_beneath hooks table (shape_in table s top tree) (tree_at top tree)
  same_within keeps completion s [] here v tree under closes = same_beneath keeps completion s here v tree under closes
  same_within keeps completion s (i ∷ top) here v (begun tracker ts) under closes =
      ap (λ (t : Tree). completed_beneath hooks table (shape_in table (child_as table s tracker i) top t) (tree_at top t))
      (nth_changed i (λ child. closed_at (top ++ here) v child) ts closes.place.0)
      ∙ same_within keeps completion (child_as table s tracker i) top here v (tree_nth i ts) under
      (record { place = closes.place.1; there = closes.there; makes = closes.makes })
  same_within keeps completion s (i ∷ top) here v _ under closes = absurd closes.place

  all_are : (s : ℕ) (tracker : Tracker) (i : ℕ) (ts : Trees) → AllOff strict ts → closed_all hooks table s tracker i ts ≡ Some ts
  all_are s tracker i no_trees off = refl
  all_are s tracker i (branch hole ts) off = ap (one_more_tree (Some hole)) (all_are s tracker (suc i) ts off.1)
  all_are s tracker i (branch (whole v) ts) off = ap (one_more_tree (Some (whole v))) (all_are s tracker (suc i) ts off.1)
  all_are s tracker i (branch _ ts) off = absurd off.0

  -- where each child is whole, or isn't there, the tree is what comes of it
  pub nothing_left : (s : ℕ) (tree : Tree) → AtCursor strict tree → completed_beneath hooks table s tree ≡ Some tree
  nothing_left s (begun tracker ts) done =
      ap (λ (b : Bool). if b then option_map whole (complete deferred_column hooks table s (begun tracker ts))
      else option_map (begun tracker) (closed_all hooks table s tracker 0 ts)) done.0
      ∙ ap (option_map (begun tracker)) (all_are s tracker 0 ts done.1)
  nothing_left s _ done = refl
