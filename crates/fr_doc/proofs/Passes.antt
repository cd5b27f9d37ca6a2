-- A pass over the integers of a value, and what it says of them.
use Rattle.std.proofs.Common.{◌≡◌, ℕ, ◌+◌, ◌<◌, ℤ, int_le, Bool, true, false, not, ◌&&◌, List, [], ◌∷◌, ◌++◌, length, drop, get_or, Option, Some, None, is_some, if◌then◌else◌, refl, ap, sym, ◌∙◌}
use Rattle.std.specs.Prelude.{option_and_then}
use Rattle.std.proofs.lemmas.List.{drop_more}
use Rattle.fr_shape.specs.declared.value.Value.{Value}
use Rattle.fr_shape.specs.View.{view, vals_view, entries_view}
use Rattle.fr_doc.specs.declared.integers.IntegerRule.{IntegerRule}
use Rattle.fr_doc.specs.Integers.{integers, vals_integers, entries_integers, is_zero, is_negative, none_is_zero, none_is_negative, are_in_order, keep, may_follow, last_after}

-- a step that may end the pass, before the others
stepped : {X : Type 0} (test : Bool) (found : Option X) (rest : Bool) → rest ≡ is_some found → (test && rest) ≡ is_some (if test then found else None)
stepped true found rest e = e
stepped false found rest e = refl

no_zero : (last : Option ℤ) (zs : List ℤ) → none_is_zero zs ≡ is_some (last_after IntegerRule.NoZero last zs)
no_zero last [] = refl
no_zero last (z ∷ zs) =
    stepped (not (is_zero z)) (last_after IntegerRule.NoZero (Some z) zs) (none_is_zero zs) (no_zero (Some z) zs)

no_negative : (last : Option ℤ) (zs : List ℤ) → none_is_negative zs ≡ is_some (last_after IntegerRule.NoNegative last zs)
no_negative last [] = refl
no_negative last (z ∷ zs) =
    stepped (not (is_negative z)) (last_after IntegerRule.NoNegative (Some z) zs) (none_is_negative zs)
    (no_negative (Some z) zs)

in_order : (y : ℤ) (zs : List ℤ) → are_in_order (y ∷ zs) ≡ is_some (last_after IntegerRule.InOrder (Some y) zs)
in_order y [] = refl
in_order y (z ∷ zs) =
    stepped (int_le y z) (last_after IntegerRule.InOrder (Some z) zs) (are_in_order (z ∷ zs)) (in_order z zs)

-- integers keep a rule where a pass from the first comes to their end
pub kept : (rule : IntegerRule) (zs : List ℤ) → keep rule zs ≡ is_some (last_after rule None zs)
kept IntegerRule.NoZero zs = no_zero None zs
kept IntegerRule.InOrder [] = refl
kept IntegerRule.InOrder (z ∷ zs) = in_order z zs
kept IntegerRule.NoNegative zs = no_negative None zs

steps : {X Y : Type 0} (test : Bool) (found : Option X) (next : X → Option Y) → (if test then option_and_then next found else None) ≡ option_and_then next (if test then found else None)
steps true found next = refl
steps false found next = refl

-- a pass over integers and then others
passed_both : (rule : IntegerRule) (last : Option ℤ) (ys zs : List ℤ) → last_after rule last (ys ++ zs) ≡ option_and_then (λ met. last_after rule met zs) (last_after rule last ys)
passed_both rule last [] zs = refl
passed_both rule last (y ∷ ys) zs =
    rw (passed_both rule (Some y) ys zs)
    (steps (may_follow rule last y) (last_after rule (Some y) ys) (λ met. last_after rule met zs))

-- where it ends among the first, and where it goes on to the others

pub ends : (rule : IntegerRule) (last : Option ℤ) (ys zs : List ℤ) → None ≡ last_after rule last ys → last_after rule last (ys ++ zs) ≡ None
ends rule last ys zs none =
    passed_both rule last ys zs ∙ ap (option_and_then (λ met. last_after rule met zs)) (sym none)

pub goes_on : (rule : IntegerRule) (last met : Option ℤ) (ys zs : List ℤ) → Some met ≡ last_after rule last ys → last_after rule last (ys ++ zs) ≡ last_after rule met zs
goes_on rule last met ys zs some =
    passed_both rule last ys zs ∙ ap (option_and_then (λ met'. last_after rule met' zs)) (sym some)

-- A loop over a list: the integers of the item at `i`, and those of the items after it.

from_item : {X : Type 0} (xs : List X) (i : ℕ) (x : X) → i < length xs → x ≡ get_or xs i x → drop i xs ≡ x ∷ drop (i + 1) xs
from_item xs i x h is = drop_more xs i x h ∙ ap (λ y. y ∷ drop (i + 1) xs) (sym is)

pub values_from : (xs : List Value) (i : ℕ) (x : Value) → i < length xs → x ≡ get_or xs i x → vals_integers (vals_view (drop i xs)) ≡ integers (view x) ++ vals_integers (vals_view (drop (i + 1) xs))
values_from xs i x h is = ap (λ (ys : List Value). vals_integers (vals_view ys)) (from_item xs i x h is)

pub entries_from : (es : List (Value × Value)) (i : ℕ) (e : Value × Value) → i < length es → e ≡ get_or es i e → entries_integers (entries_view (drop i es)) ≡ integers (view e.0) ++ (integers (view e.1) ++ entries_integers (entries_view (drop (i + 1) es)))
entries_from es i e h is = ap (λ (ds : List (Value × Value)). entries_integers (entries_view ds)) (from_item es i e h is)
