-- Zeros behind the bytes of a name don't change the number.
use Rattle.std.proofs.Common.{◌≡◌, ℕ, zero, suc, ◌-◌, length, min, take, drop, replicate, slice_index, List, [], ◌∷◌, ◌++◌, refl, ap, ◌∙◌, arith}
use Rattle.std.specs.Int.{w64, from_le_bytes, sum_through, byte_worth}
use Rattle.std.proofs.lemmas.List.{take_min, drop-replicate}
use Rattle.fr_rules.specs.Prefixes.{prefix_of}
use Rattle.fr_rules.proofs.prefixes.prefix_of.Goals as goal

zero_at : (n i : ℕ) → slice_index (replicate n 0) i ≡ 0
zero_at zero i = refl
zero_at (suc n) zero = refl
zero_at (suc n) (suc i) = zero_at n i

zeros_behind : (n : ℕ) (bytes : List ℕ) (i : ℕ) → slice_index (bytes ++ replicate n 0) i ≡ slice_index bytes i
zeros_behind n [] i = zero_at n i
zeros_behind n (byte ∷ bytes) zero = refl
zeros_behind n (byte ∷ bytes) (suc i) = zeros_behind n bytes i

-- `part` is what was copied into the front of eight zeros
number_is : (name part : List ℕ) (prefix_len len : ℕ) → part ≡ take len name → len ≡ min (length name) prefix_len
    → from_le_bytes w64 (part ++ drop len (replicate 8 0)) ≡ from_le_bytes w64 (take prefix_len name)
number_is name part prefix_len len copied short =
    let shorter : len ≡ min prefix_len (length name) = omega arith in
    let front : part ≡ take prefix_len name = copied ∙ ap (λ n. take n name) shorter ∙ take_min prefix_len name in
    ap (λ zeros. from_le_bytes w64 (part ++ zeros)) {y = replicate (8 - len) 0} (drop-replicate len 8 0)
    ∙ (λ t. sum_through (λ i. byte_worth i (zeros_behind (8 - len) part i t)) 7)
    ∙ ap (from_le_bytes w64) front

pub returns : goal.returns
unfolding prefix_of
returns c =
    c.from_le_bytes.ensures
    ∙ number_is c.as_bytes-name.result.now c.copy_from_slice.new.self c.args.prefix_len c.min-len.result
    c.copy_from_slice.ensures.after c.min-len.ensures
    ∙ ap (λ name. from_le_bytes w64 (take c.args.prefix_len name)) c.as_bytes-name.ensures.value
