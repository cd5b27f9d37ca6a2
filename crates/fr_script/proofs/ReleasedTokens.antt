-- The released tokens, by the ledger and by the script.
use Rattle.std.proofs.Common.{◌≡◌, ℕ, zero, suc, ◌+◌, ◌-◌, ◌<◌, ◌≤◌, Bool, true, false, cond, List, [], ◌∷◌, length, replicate, slice_index, nat_eq, refl, ap, ◌∙◌, subst, arith}
use Rattle.std.proofs.lemmas.Bool.{eq-eqb, ne_eqb}
use Rattle.std.proofs.Math.ListN.{length-replicate}
use Rattle.fr_shape.specs.TokenLaws.{times_append}
use Rattle.fr_shape.specs.Tokens.{times}
use Rattle.fr_model.specs.Commands.{Call}
use Rattle.fr_model.specs.Scripts.{IsValid, brought}
use Rattle.fr_model.specs.Settled.{IsSettled}
use Rattle.fr_shape.specs.Look.{Table}
use Rattle.fr_script.specs.Reports.{released_from}
use Rattle.fr_script.specs.Tokens.{counted_once, StandOnce}

times_cons : (s : ℕ) (ts : List ℕ) (t : ℕ) → times (s ∷ ts) t ≡ cond (nat_eq s t) 1 0 + times ts t
times_cons s ts t = omega (arith, times_append (s ∷ []) ts t)

get_zeros : (n t : ℕ) → slice_index (replicate n 0) t ≡ 0
get_zeros zero t = refl
get_zeros (suc n) zero = refl
get_zeros (suc n) (suc t) = get_zeros n t

-- the ledger's counts tell which tokens were brought and not answered
pub counts_tell : (b a : ℕ → ℕ) (t : ℕ) (counts : List ℕ)
    → ((k : ℕ) → k < length counts → slice_index counts k ≡ b (t + k) - a (t + k))
    → counted_once t counts ≡ released_from b a t (length counts)
counts_tell b a t [] tell = refl
counts_tell b a t (count ∷ counts) tell =
    let here : count ≡ b t - a t
    = subst (λ (n : ℕ). count ≡ b n - a n) (omega arith) (tell 0 (omega arith)) in
    let rest : counted_once (t + 1) counts ≡ released_from b a (t + 1) (length counts)
    = counts_tell b a (t + 1) counts
    (λ k h.
    let e : t + suc k ≡ t + 1 + k = omega arith in
    subst (λ (n : ℕ). slice_index counts k ≡ b n - a n) e (tell (suc k) (omega arith))) in
    rw (here, rest) refl

module _ (table : Table) (script : List Call) (n : ℕ) (after : List ℕ) (answered : ℕ → ℕ)
    (valid : IsValid table script (replicate n 0))
    (settled : IsSettled (brought script) (replicate n 0) answered after) where
  tells : (t : ℕ) → slice_index after t ≡ brought script t - answered t
  tells t = go (brought script t) refl
    where
      go : (b : ℕ) → brought script t ≡ b → slice_index after t ≡ brought script t - answered t
      go zero e =
          let same : slice_index after t ≡ slice_index (replicate n 0) t = settled.others t e in
          omega (arith, get_zeros n t)
      go (suc b) e =
          let some : 0 < brought script t = omega arith in
          let one : brought script t ≤ 1 = valid.once t in
          let sum : answered t + slice_index after t ≡ slice_index (replicate n 0) t + 1 = settled.each t some in
          omega (arith, get_zeros n t)

  pub same_count : length after ≡ n
  same_count = settled.same_length ∙ length-replicate n 0

  pub released_tokens : counted_once 0 after ≡ released_from (brought script) answered 0 n
  released_tokens =
      counts_tell (brought script) answered 0 after
      (λ k h. let e : k ≡ 0 + k = omega arith in
      subst (λ (m : ℕ). slice_index after k ≡ brought script m - answered m) e (tells k))
      ∙ ap (released_from (brought script) answered 0) same_count

  times_below : (ts : List ℕ) (i t : ℕ) → t < i → times (counted_once i ts) t ≡ 0
  times_below [] i t h = refl
  times_below (c ∷ ts) i t h = go (nat_eq c 1) refl (times_below ts (i + 1) t (omega arith))
    where
      go : (b : Bool) → nat_eq c 1 ≡ b → times (counted_once (i + 1) ts) t ≡ 0
          → times (counted_once i (c ∷ ts)) t ≡ 0
      go true e rest =
          let other : nat_eq i t ≡ false = ne_eqb i t (λ same. omega arith) in
          let split : times (i ∷ counted_once (i + 1) ts) t ≡ times (counted_once (i + 1) ts) t
          = times_cons i (counted_once (i + 1) ts) t ∙ rw other (omega arith) in
          rw e (split ∙ rest)
      go false e rest = rw e rest

  -- a token from i on stands among the released once where its count is 1
  times_counted : (ts : List ℕ) (i k : ℕ) → times (counted_once i ts) (i + k) ≡ cond (nat_eq (slice_index ts k) 1) 1 0
  times_counted [] i k = refl
  times_counted (c ∷ ts) i zero = go (nat_eq c 1) refl
    where
      none : times (counted_once (i + 1) ts) (i + 0) ≡ 0
      none = times_below ts (i + 1) (i + 0) (omega arith)

      go : (b : Bool) → nat_eq c 1 ≡ b
          → times (counted_once i (c ∷ ts)) (i + 0) ≡ cond (nat_eq c 1) 1 0
      go true e =
          let same : nat_eq i (i + 0) ≡ true = eq-eqb i (i + 0) (omega arith) in
          let split : times (i ∷ counted_once (i + 1) ts) (i + 0) ≡ 1 + times (counted_once (i + 1) ts) (i + 0)
          = times_cons i (counted_once (i + 1) ts) (i + 0) ∙ rw same refl in
          rw e (split ∙ ap (λ (n : ℕ). 1 + n) none)
      go false e = rw e none
  times_counted (c ∷ ts) i (suc k) = go (nat_eq c 1) refl (times_counted ts (i + 1) k)
    where
      go : (b : Bool) → nat_eq c 1 ≡ b
          → times (counted_once (i + 1) ts) (i + 1 + k) ≡ cond (nat_eq (slice_index ts k) 1) 1 0
          → times (counted_once i (c ∷ ts)) (i + suc k) ≡ cond (nat_eq (slice_index ts k) 1) 1 0
      go true e rest =
          let other : nat_eq i (i + suc k) ≡ false = ne_eqb i (i + suc k) (λ same. omega arith) in
          let place : i + 1 + k ≡ i + suc k = omega arith in
          let there : times (counted_once (i + 1) ts) (i + suc k) ≡ cond (nat_eq (slice_index ts k) 1) 1 0
          = rw place at rest in
          let split : times (i ∷ counted_once (i + 1) ts) (i + suc k) ≡ times (counted_once (i + 1) ts) (i + suc k)
          = times_cons i (counted_once (i + 1) ts) (i + suc k) ∙ rw other (omega arith) in
          rw e (split ∙ there)
      go false e rest =
          let place : i + 1 + k ≡ i + suc k = omega arith in
          rw e (rw place at rest)

  stand : (t : ℕ) → times (counted_once 0 after) t ≡ brought script t - answered t
  stand t =
      let e : 0 + t ≡ t = omega arith in
      let counted : times (counted_once 0 after) t ≡ cond (nat_eq (slice_index after t) 1) 1 0
      = subst (λ (m : ℕ). times (counted_once 0 after) m ≡ cond (nat_eq (slice_index after t) 1) 1 0) e
      (times_counted after 0 t) in
      counted ∙ go (slice_index after t) (tells t)
    where
      one : brought script t ≤ 1
      one = valid.once t

      go : (c : ℕ) → c ≡ brought script t - answered t → cond (nat_eq c 1) 1 0 ≡ brought script t - answered t
      go zero e = e
      go (suc zero) e = e
      go (suc (suc c)) e = absurd (omega (arith, one))

  pub stand_once : StandOnce (brought script) answered (counted_once 0 after)
  stand_once = record {
    each = λ t some.
        let sum : answered t + slice_index after t ≡ slice_index (replicate n 0) t + 1 = settled.each t some in
        omega (arith, stand t, get_zeros n t, tells t);
    others = λ t none.
        let no : answered t ≡ 0 = settled.none_from_elsewhere t none in
        omega (arith, stand t);
  }
