-- Copying values one after the other, where no token stands in them.
use Rattle.std.proofs.Common.{◌≡◌, ℕ, zero, suc, ◌+◌, arith, Bool, true, false, List, [], ◌∷◌, ◌++◌, map, take, drop, Some, None, slice_get, if◌then◌else◌, ◌&&◌, refl, sym, ◌∙◌, ap, ap₂}
use Rattle.std.proofs.lemmas.List.{map_push}
use Rattle.fr_shape.specs.Lists.{is_nil}
use Rattle.fr_shape.specs.Tokens.{tokens, vals_tokens}
use Rattle.fr_shape.specs.Val.{Val}
use Rattle.fr_shape.specs.View.{vals_of, view}
use Rattle.fr_shape.specs.declared.value.Value.{Value}
use Rattle.fr_shape.proofs.Faults.{is_nil_append}
use Rattle.fr_partial.specs.ReadAs.{tokenless}

-- a value was copied: it is that value, and no token stands in it
pub record IsCopied (v w : Val) : Type 0 where
  pub same : w ≡ v
  pub light : is_nil (tokens v) ≡ true

pub is_copied : (v w : Val) → Some w ≡ tokenless v → IsCopied v w
is_copied v w e = go (is_nil (tokens v)) refl e
  where
    go : (light : Bool) → is_nil (tokens v) ≡ light → Some w ≡ (if light then Some v else None) → IsCopied v w
    go true light e = record { same = cc; light = light }
    go false light e = cc

-- one that wasn't: a token stands in it
pub is_held : (v : Val) → None ≡ tokenless v → is_nil (tokens v) ≡ false
is_held v e = go (is_nil (tokens v)) e
  where
    go : (light : Bool) → None ≡ (if light then Some v else None) → light ≡ false
    go true e = cc
    go false e = refl

-- One value after the other.

module _ (values : List Val) (i : ℕ) (v : Val) (at : Some v ≡ slice_get values i) where
  take_next : take i values ++ v ∷ [] ≡ take (i + 1) values
  take_next = let next : suc i ≡ i + 1 = omega arith in go values i at ∙ ap (λ (n : ℕ). take n values) next
    where
      go : (xs : List Val) (i : ℕ) → Some v ≡ slice_get xs i → take i xs ++ v ∷ [] ≡ take (suc i) xs
      go [] i e = cc
      go (x ∷ xs) zero e = let same : v ≡ x = cc in ap (λ (w : Val). w ∷ []) same
      go (x ∷ xs) (suc i) e = ap (λ (ws : List Val). x ∷ ws) (go xs i e)

  drop_next : drop i values ≡ v ∷ drop (i + 1) values
  drop_next = let next : suc i ≡ i + 1 = omega arith in go values i at ∙ ap (λ (n : ℕ). v ∷ drop n values) next
    where
      go : (xs : List Val) (i : ℕ) → Some v ≡ slice_get xs i → drop i xs ≡ v ∷ drop (suc i) xs
      go [] i e = cc
      go (x ∷ xs) zero e = let same : v ≡ x = cc in ap (λ (w : Val). w ∷ xs) (sym same)
      go (x ∷ xs) (suc i) e = go xs i e

  abbrev are_light : List Val → Bool
  are_light vs = is_nil (vals_tokens (vals_of vs))

  light_split : are_light (drop i values) ≡ (is_nil (tokens v) && are_light (drop (i + 1) values))
  light_split = ap are_light drop_next ∙ is_nil_append (tokens v) (vals_tokens (vals_of (drop (i + 1) values)))

  pub next_light : is_nil (tokens v) ≡ true → are_light (drop i values) ≡ are_light (drop (i + 1) values)
  next_light light = light_split ∙ ap (λ (b : Bool). b && are_light (drop (i + 1) values)) light

  pub held_here : is_nil (tokens v) ≡ false → are_light (drop i values) ≡ false
  held_here held = light_split ∙ ap (λ (b : Bool). b && are_light (drop (i + 1) values)) held

  pub copied_next : (copies now : List Value) (copy : Value) → now ≡ copies ++ copy ∷ [] → map view copies ≡ take i values → view copy ≡ v
      → map view now ≡ take (i + 1) values
  copied_next copies now copy is copied same =
      ap (map view) is ∙ map_push view copies copy ∙ ap₂ (λ (vs : List Val) (w : Val). vs ++ w ∷ []) copied same ∙ take_next
