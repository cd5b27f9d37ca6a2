-- Items with one token each: what they need of a ledger, and what is held once they are put.
use Rattle.std.proofs.Common.{◌≡◌, ◌≢◌, ◌⊎◌, inl, inr, ℕ, ◌+◌, ◌<◌, ◌≤◌, ◌^◌, true, false, cond, List, [], ◌∷◌, length, slice_index, nat_eq, refl, ap, ◌∙◌, subst, arith}
use Rattle.std.specs.Prelude.{Result, Ok, Err, IfOk}
use Rattle.std.proofs.lemmas.Bool.Decides.{eqb_tells}
use Rattle.fr_shape.specs.Released.{Conserved, Room}
use Rattle.fr_shape.specs.Tokens.{occurs, tokens, times}
use Rattle.fr_shape.specs.TokenLaws.{Room_conserved, Room_same, occurs_times, times_append}
use Rattle.fr_shape.specs.Val.{Val}
use Rattle.fr_partial.specs.Builder.{Builder, holds, left}
use Rattle.fr_work.specs.declared.reflect_error.ReflectError.{ReflectError}

-- a call that brings nothing leaves nothing more than was held, and what is left has its room
module _ (held brought : ℕ → ℕ) (before : List ℕ) (left : ℕ → ℕ) (after : List ℕ) (kept : Conserved (λ t. held t + brought t) before left after) (none : (t : ℕ) → brought t ≡ 0) where
  pub fewer : (t : ℕ) → left t ≤ held t
  fewer t = omega (arith, kept.kept_or_released t, kept.none_falls t, none t)

  pub room_after : Room held before → Room left after
  room_after room =
      Room_conserved (λ t. held t + brought t) before left after kept
      (Room_same held (λ t. held t + brought t) before (λ t. omega (arith, none t)) room)

times_cons : (s : ℕ) (ts : List ℕ) (t : ℕ) → times (s ∷ ts) t ≡ cond (nat_eq s t) 1 0 + times ts t
times_cons s ts t = omega (arith, times_append (s ∷ []) ts t)

-- a value whose only token is k holds no other
module _ (v u : Val) (k : ℕ) (is : v ≡ u) (one : tokens u ≡ k ∷ []) where
  occurs_one : (t : ℕ) → occurs v t ≡ times (k ∷ []) t
  occurs_one t =
      ap (λ (w : Val). occurs w t) is ∙ occurs_times u t ∙ ap (λ (ts : List ℕ). times ts t) one

  occurs_so : (t : ℕ) → ((nat_eq k t ≡ true) × (k ≡ t)) ⊎ ((nat_eq k t ≡ false) × (k ≢ t))
      → ((occurs v t ≡ 1) × (k ≡ t)) ⊎ (occurs v t ≡ 0)
  occurs_so t (inl same) = inl (occurs_one t ∙ times_cons k [] t ∙ rw same.0 refl, same.1)
  occurs_so t (inr apart) = inr (occurs_one t ∙ times_cons k [] t ∙ rw apart.0 refl)

  pub at_most_one : (t : ℕ) → occurs v t ≤ 1
  at_most_one t = go (occurs_so t (eqb_tells k t))
    where
      go : ((occurs v t ≡ 1) × (k ≡ t)) ⊎ (occurs v t ≡ 0) → occurs v t ≤ 1
      go (inl so) = omega (arith, so.0)
      go (inr none) = omega (arith, none)

  -- it has room besides what is held
  pub room_with_one : (held : ℕ → ℕ) (ledger : List ℕ) → k < 2 → k < length ledger → slice_index ledger k ≡ 0
      → ((t : ℕ) → held t ≤ k) → Room held ledger → Room (λ t. held t + occurs v t) ledger
  room_with_one held ledger small known unused few room t some = go (occurs_so t (eqb_tells k t))
    where
      go : ((occurs v t ≡ 1) × (k ≡ t)) ⊎ (occurs v t ≡ 0)
          → (t < length ledger) × (slice_index ledger t + (held t + occurs v t) < 2 ^ 32)
      go (inl so) =
          let here : slice_index ledger t ≡ 0 = subst (λ (n : ℕ). slice_index ledger n ≡ 0) so.1 unused in
          let once = so.0 in (
            subst (λ (n : ℕ). n < length ledger) so.1 known,
            omega (arith, here, once, few t, small),
          )
      go (inr none) =
          let held_some : 0 < held t = omega (arith, some, none) in (
            (room t held_some).0,
            omega (arith, none, (room t held_some).1),
          )

-- told of the builder that is left
pub few_left : {H : Type 0} (result : Result (Builder H) ReflectError) (most : ℕ) → ((t : ℕ) → left result t ≤ most)
    → IfOk result (λ (after : Builder H). (t : ℕ) → holds after t ≤ most)
few_left (Ok after) most few = few
few_left (Err error) most few = tt

pub room_left : {H : Type 0} (result : Result (Builder H) ReflectError) (held brought : ℕ → ℕ) (before after : List ℕ)
    → Conserved (λ t. held t + brought t) before (left result) after → ((t : ℕ) → brought t ≡ 0) → Room held before
    → IfOk result (λ (next : Builder H). Room (holds next) after)
room_left (Ok next) held brought before after kept none room = room_after held brought before (holds next) after kept none room
room_left (Err error) held brought before after kept none room = tt
