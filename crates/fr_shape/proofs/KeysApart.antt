-- Values, keys of maps and members of objects, of which none comes twice.
use Rattle.std.proofs.Common.{◌≡◌, ℕ, Bool, true, false, not, ◌&&◌, ◌||◌, List, [], ◌∷◌, map, refl, ap, ◌∙◌}
use Rattle.std.specs.List.{list_any, list_all}
use Rattle.std.specs.Str.{bytes_eq}
use Rattle.fr_shape.specs.declared.value.Value.{Value}
use Rattle.fr_shape.specs.declared.value.Dyn.{Dyn}
use Rattle.fr_shape.specs.Val.{Val, first}
use Rattle.fr_shape.specs.View.{view, vals_of, entries_view, dyn_view, members_view}
use Rattle.fr_shape.specs.Same.{same, is_among, none_twice, keys}
use Rattle.fr_shape.specs.Fits.{lacks_key, keys_once, members_keys_once}
use Rattle.fr_shape.specs.Distinct.{distinct}

among_is : (v : Val) (vs : List Val) → is_among v (vals_of vs) ≡ list_any (same v) vs
among_is v [] = refl
among_is v (w ∷ vs) = ap (λ b. same v w || b) (among_is v vs)

pub none_twice_is : (vs : List Val) → none_twice (vals_of vs) ≡ distinct same vs
none_twice_is [] = refl
none_twice_is (v ∷ vs) = λ j. not (among_is v vs j) && none_twice_is vs j

pub keys_are : (es : List (Value × Value)) → keys (entries_view es) ≡ vals_of (map (λ (e : Value × Value). view e.0) es)
keys_are [] = refl
keys_are (e ∷ es) = ap (first (view e.0)) (keys_are es)

lacks_is : (k : List ℕ) (ms : List (List ℕ × Dyn)) → lacks_key k (members_view ms) ≡ not (list_any (bytes_eq k) (map (λ (m : List ℕ × Dyn). m.0) ms))
lacks_is k [] = refl
lacks_is k (m ∷ ms) = ap (λ b. not (bytes_eq k m.0) && b) (lacks_is k ms) ∙ neither (bytes_eq k m.0) (list_any (bytes_eq k) (map (λ (n : List ℕ × Dyn). n.0) ms))
  where
    neither : (a b : Bool) → not a && not b ≡ not (a || b)
    neither true b = refl
    neither false b = refl

pub members_split : (ms : List (List ℕ × Dyn)) → members_keys_once (members_view ms) ≡ distinct bytes_eq (map (λ (m : List ℕ × Dyn). m.0) ms) && list_all (λ (m : List ℕ × Dyn). keys_once (dyn_view m.1)) ms
members_split [] = refl
members_split (m ∷ ms) =
    (λ j. (lacks_is m.0 ms j && keys_once (dyn_view m.1)) && members_split ms j)
    ∙ across (not (list_any (bytes_eq m.0) (map (λ (n : List ℕ × Dyn). n.0) ms))) (keys_once (dyn_view m.1)) (distinct bytes_eq (map (λ (n : List ℕ × Dyn). n.0) ms)) (list_all (λ (n : List ℕ × Dyn). keys_once (dyn_view n.1)) ms)
  where
    across : (a b c d : Bool) → (a && b) && (c && d) ≡ (a && c) && (b && d)
    across false b c d = refl
    across true true c d = refl
    across true false true d = refl
    across true false false d = refl
