-- Laws of what is never stored, for proofs: items of a set, parts of a dynamic value, and what a map had when it was begun; and of
-- sources, whose values are never there.
use Rattle.std.proofs.Common.{◌≡◌, ℕ, zero, suc, ◌+◌, ◌≤◌, Bool, true, false, ◌∷◌, [], refl, sym, ◌∙◌, ap, subst, arith}
use Rattle.fr_store.specs.Below.{AreLeftAll, AreLeftIn, AreLeftRightly, ContentKind, EntriesKind, IsClosed, IsLeftRightly, IsThere, ItemsKind, Kid, Kids, Place, Plot, Suits, Table, Tracker, Val, as_content, as_entries, as_items, at, base_of_tracker, begun_plot, body_in, entry_of, gone, is_conversion, is_conversion_body, is_map_tracker, is_stored, kid, no_kids, there, tree_in}
use Rattle.fr_store.specs.StackMoves.{takes_at_end_as}
use Rattle.fr_store.specs.Ways.{count_kids, kid_nth, kid_at, put_nth, put_at}

-- One child.

-- something else in its stead, by what is asked of it
pub left_as : (tracker : Tracker) (i : ℕ) (old new : Kid) → (takes_at_end_as tracker ≡ true → is_stored new ≡ false)
    → (is_map_tracker tracker ≡ true → IsThere old → IsThere new) → (is_conversion tracker ≡ true → IsThere new → ⊥)
    → IsLeftRightly tracker i old → IsLeftRightly tracker i new
left_as (as_items ItemsKind.Set) i old new unstored stays source left = unstored refl
left_as (as_entries (EntriesKind.Map base)) i old new unstored stays source left = λ h. stays refl (left h)
left_as (as_items ItemsKind.Array) i old new unstored stays source left = unstored refl
left_as (as_entries (EntriesKind.Object keys)) i old new unstored stays source left = unstored refl
left_as (as_content (ContentKind.Source conversion)) i old new unstored stays source left = source refl
left_as _ i old new unstored stays source left = tt

-- past the end there is none
pub left_nth : (tracker : Tracker) (first i m : ℕ) (ks : Kids) → m ≡ first + i → AreLeftAll tracker first ks → AreLeftRightly (kid_nth i ks)
left_nth tracker first i m no_kids e all = tt
left_nth tracker first zero m (kid k ks) e all = all.1
left_nth tracker first (suc i) m (kid k ks) e all = left_nth tracker (suc first) i m ks (omega arith) all.2

pub left_put_nth : (tracker : Tracker) (first i m : ℕ) (new : Kid) (ks : Kids) → m ≡ first + i
    → (IsLeftRightly tracker m (kid_nth i ks) → IsLeftRightly tracker m new) → AreLeftRightly new → AreLeftAll tracker first ks
    → AreLeftAll tracker first (put_nth i new ks)
left_put_nth tracker first i m new no_kids e step is all = all
left_put_nth tracker first zero m new (kid k ks) e step is all =
    let same : m ≡ first = omega arith in (
      subst (λ (n : ℕ). IsLeftRightly tracker n new) same (step (subst (λ (n : ℕ). IsLeftRightly tracker n k) (sym same) all.0)),
      is,
      all.2,
    )
left_put_nth tracker first (suc i) m new (kid k ks) e step is all =
    (all.0, all.1, left_put_nth tracker (suc first) i m new ks (omega arith) step is all.2)

-- Ways.

pub left_at : (place : Place) (k : Kid) → AreLeftRightly k → AreLeftRightly (kid_at place k)
left_at [] k left = left
left_at (i ∷ place) (at slot stored (begun_plot tracker kids)) left =
    left_at place (kid_nth i kids) (left_nth tracker 0 i i kids (omega arith) left)
left_at (i ∷ place) _ left = left_at place gone tt

-- what comes in the stead of something isn't stored where that wasn't, and is there just where that was
pub record IsLeftAs (old new : Kid) : Type 0 where
  pub stored : is_stored old ≡ false → is_stored new ≡ false
  pub there : IsThere old → IsThere new
  pub source : IsThere new → IsThere old

pub as_left : (tracker : Tracker) (i : ℕ) {old new : Kid} → IsLeftAs old new → IsLeftRightly tracker i old
    → IsLeftRightly tracker i new
as_left (as_items ItemsKind.Set) i same left = same.stored left
as_left (as_entries (EntriesKind.Map base)) i same left = λ h. same.there (left h)
as_left (as_items ItemsKind.Array) i same left = same.stored left
as_left (as_entries (EntriesKind.Object keys)) i same left = same.stored left
as_left (as_content (ContentKind.Source conversion)) i same left = λ h. left (same.source h)
as_left _ i same left = tt

-- above the place itself nothing changes
as_put_at : (place : Place) {new : Kid} (k : Kid) → IsLeftAs (kid_at place k) new → IsLeftAs k (put_at place new k)
as_put_at [] k same = same
as_put_at (i ∷ place) gone same = record { stored = λ h. h; there = λ h. h; source = λ h. h }
as_put_at (i ∷ place) (there v) same = record { stored = λ h. h; there = λ h. h; source = λ h. h }
as_put_at (i ∷ place) (at slot stored plot) same = record { stored = λ h. h; there = λ h. h; source = λ h. h }

pub left_put_at : (place : Place) {new : Kid} (k : Kid) → IsLeftAs (kid_at place k) new → AreLeftRightly new → AreLeftRightly k
    → AreLeftRightly (put_at place new k)
left_put_at [] k same is left = is
left_put_at (i ∷ place) {new} (at slot stored (begun_plot tracker kids)) same is left =
    left_put_nth tracker 0 i i (put_at place new (kid_nth i kids)) kids (omega arith) (as_left tracker i (as_put_at place
    (kid_nth i kids) same)) (left_put_at place (kid_nth i kids) same is (left_nth tracker 0 i i kids (omega arith) left)) left
left_put_at (i ∷ place) _ same is left = tt

-- what is in a slot and not stored may come in the stead of anything that is in a slot, and so may what is in the same slot
pub at_for_at : {old : Kid} {slot : ℕ} (n : ℕ) {stored : Bool} {plot : Plot} (other : Plot) → old ≡ at slot stored plot
    → IsLeftAs old (at n false other)
at_for_at n {stored} other e = record {
  stored = λ h. refl;
  there = λ h. absurd (subst IsThere e h);
  source = λ h. absurd h;
}

pub at_for_itself : {old : Kid} {slot : ℕ} {stored : Bool} {plot : Plot} (other : Plot) → old ≡ at slot stored plot
    → IsLeftAs old (at slot stored other)
at_for_itself {old} {slot} {stored} other e = record {
  stored = λ h. sym (ap is_stored e) ∙ h;
  there = λ h. absurd (subst IsThere e h);
  source = λ h. absurd h;
}

-- Children that are there, and children past the base.

-- but of a source
pub left_value : (tracker : Tracker) (i : ℕ) (v : Val) → is_conversion tracker ≡ false → IsLeftRightly tracker i (there v)
left_value (as_items ItemsKind.Set) i v plain = refl
left_value (as_entries (EntriesKind.Map base)) i v plain = λ h. tt
left_value (as_items ItemsKind.Array) i v plain = refl
left_value (as_entries (EntriesKind.Object keys)) i v plain = refl
left_value (as_content (ContentKind.Source conversion)) i v plain = absurd (cc)
left_value _ i v plain = tt

-- what isn't there may be a child past the base
pub left_gone : (tracker : Tracker) (i : ℕ) → base_of_tracker tracker ≤ entry_of i → IsLeftRightly tracker i gone
left_gone (as_items ItemsKind.Set) i past = refl
left_gone (as_entries (EntriesKind.Map base)) i past = λ h. absurd (omega (arith, past, h))
left_gone (as_items ItemsKind.Array) i past = refl
left_gone (as_entries (EntriesKind.Object keys)) i past = refl
left_gone (as_content (ContentKind.Source conversion)) i past = λ h. h
left_gone _ i past = tt

pub entry_next : (i : ℕ) → entry_of i ≤ entry_of (suc i)
entry_next zero = omega arith
entry_next (suc zero) = omega arith
entry_next (suc (suc i)) = let rest = entry_next i in omega (arith, rest)

-- a place without a base
pub no_base : (tracker : Tracker) (i : ℕ) → base_of_tracker tracker ≡ 0 → base_of_tracker tracker ≤ entry_of i
no_base tracker i none = omega (arith, none)

-- there are at least so many
pub left_end : (tracker : Tracker) (first : ℕ) (ks : Kids) (m : ℕ) → m ≡ first + count_kids ks → AreLeftAll tracker first ks
    → base_of_tracker tracker ≤ entry_of m
left_end tracker first no_kids m e all =
    let same : first ≡ m = omega arith in
    subst (λ (n : ℕ). base_of_tracker tracker ≤ entry_of n) same all
left_end tracker first (kid k ks) m e all = left_end tracker (suc first) ks m (omega arith) all.2

-- Conversions

-- A conversion has its source in a slot: that is neither missing nor there by itself. So a place none of whose children is in a slot is no
-- conversion.
pub closed_plain : (table : Table) (s : ℕ) (plot : Plot) → Suits table s (tree_in plot) → AreLeftIn plot → IsClosed (body_in plot)
    → is_conversion_body (body_in plot) ≡ false
closed_plain table s (begun_plot (as_content (ContentKind.Source conversion)) no_kids) suits left closed = absurd suits.2.0
closed_plain table s (begun_plot (as_content (ContentKind.Source conversion)) (kid gone ks)) suits left closed = absurd suits.2.0
closed_plain table s (begun_plot (as_content (ContentKind.Source conversion)) (kid (there v) ks)) suits left closed = absurd (left.0 tt)
closed_plain table s (begun_plot (as_content (ContentKind.Source conversion)) (kid (at slot stored plot) ks)) suits left closed =
    absurd closed.0
closed_plain table s _ suits left closed = refl
