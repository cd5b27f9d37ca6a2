-- What was released isn't held any more: tokens in slots and a ledger, taken together.
use Rattle.std.proofs.Common.{◌≡◌, ℕ, ◌+◌, ◌<◌, List, refl, sym, ◌∙◌, subst, arith}
use Rattle.fr_store.specs.Common.{Conserved, Room, RoseBy}

-- what was released is what isn't held any more
pub conserved_by : (held : ℕ → ℕ) {fell : ℕ → ℕ} (left : ℕ → ℕ) {before after : List ℕ} → ((t : ℕ) → held t ≡ left t + fell t)
    → RoseBy fell before after → Conserved held before left after
conserved_by held left fewer rose = record {
  same_length = rose.same_length;
  kept_or_released = λ t. omega (arith, fewer t, rose.each t);
  none_falls = λ t. omega (arith, rose.each t);
}

-- nothing was released
pub conserved_same : {held left : ℕ → ℕ} {before after : List ℕ} → ((t : ℕ) → left t ≡ held t) → after ≡ before
    → Conserved held before left after
conserved_same {held} {left} {before} same kept =
    subst (λ (ledger : List ℕ). Conserved held before left ledger) (sym kept) (record {
      same_length = refl;
      kept_or_released = λ t. omega (arith, same t);
      none_falls = λ t. omega arith;
    })

-- first here and then there
pub conserved_on : {held mid left : ℕ → ℕ} {before now after : List ℕ} → Conserved held before mid now → Conserved mid now left after
    → Conserved held before left after
conserved_on one two = record {
  same_length = two.same_length ∙ one.same_length;
  kept_or_released = λ t. omega (arith, one.kept_or_released t, two.kept_or_released t);
  none_falls = λ t. omega (arith, one.none_falls t, two.none_falls t);
}

-- there is room for what is left
pub room_left : {held left : ℕ → ℕ} {before after : List ℕ} → Conserved held before left after → Room held before
    → Room left after
room_left conserved room t some =
    let was = room t (omega (arith, conserved.kept_or_released t, conserved.none_falls t)) in (
      subst (λ (n : ℕ). t < n) (sym conserved.same_length) was.0,
      omega (arith, conserved.kept_or_released t, was.1),
    )

-- and once that is released, all is
pub rose_by_all : {held left : ℕ → ℕ} {before mid after : List ℕ} → Conserved held before left mid → RoseBy left mid after
    → RoseBy held before after
rose_by_all conserved rose = record {
  same_length = rose.same_length ∙ conserved.same_length;
  each = λ t. omega (arith, conserved.kept_or_released t, rose.each t);
}
