-- Values side by side, of which the first are keys and values of entries in turn.
use Rattle.std.proofs.Common.{◌≡◌, ℕ, zero, suc, ◌+◌, ◌-◌, ◌*◌, ◌<◌, ◌≤◌, true, List, [], ◌∷◌, ◌++◌, length, map, take, get_or, set, false, refl, sym, ap, ◌∙◌, arith}
use Rattle.std.proofs.lemmas.List.{get_or_append_left, get_or-append_right, set-append_right}
use Rattle.std.proofs.lemmas.Grind.{common_steps}
use Rattle.std.proofs.lemmas.Bool.Decides.{nat_tests}
use Rattle.std.specs.Prelude.{◌==◌}
use Rattle.fr_model.specs.Places.{in_turn}
use Rattle.fr_values.specs.Common.{AreApart, Base, Cell, Value, cells_of_vals, entries_view, first, first_keys, given, keys, none_twice, parts_of_entries, vals_view, view}

pub turns_count : (es : List (Value × Value)) → length (parts_of_entries es) ≡ 2 * length es
turns_count [] = refl
turns_count (e ∷ es) = omega (arith, turns_count es)

-- One value

pub part_in : (es : List (Value × Value)) (vs : List Value) (i : ℕ) (x : Value) → i < 2 * length es → x ≡ get_or (parts_of_entries es) i x
    → x ≡ get_or (parts_of_entries es ++ vs) i x
part_in es vs i x h is = is ∙ sym (get_or_append_left (parts_of_entries es) vs x i (omega (arith, h, turns_count es)))

pub part_behind : (es : List (Value × Value)) (vs : List Value) (n i : ℕ) (x : Value) → n ≡ 2 * length es → n ≤ i → x ≡ get_or vs (i - n) x
    → x ≡ get_or (parts_of_entries es ++ vs) i x
part_behind es vs n i x count h is =
    is ∙ sym (get_or-append_right (parts_of_entries es) vs n i x (turns_count es ∙ sym count) h)

pub put_behind : (es : List (Value × Value)) (vs : List Value) (n i : ℕ) (x : Value) → n ≡ 2 * length es → n ≤ i
    → parts_of_entries es ++ set vs (i - n) x ≡ set (parts_of_entries es ++ vs) i x
put_behind es vs n i x count h = sym (set-append_right (parts_of_entries es) vs n i x (turns_count es ∙ sym count) h)

pub parts_count : (es : List (Value × Value)) (vs : List Value) → length (parts_of_entries es ++ vs) ≡ 2 * length es + length vs
parts_count [] vs = omega arith
parts_count (e ∷ es) vs = omega (arith, parts_count es vs)

pub not_none : (n : ℕ) → (n == 0) ≡ false → 0 < n
not_none n e = grind (arith, common_steps, nat_tests)

one_less : (x : Value) (vs : List Value) → 0 < length vs → take (length vs) (x ∷ vs) ≡ x ∷ take (length vs - 1) vs
one_less x [] h = absurd (omega (arith, h))
one_less x (v ∷ vs) h =
    let less : length vs ≡ suc (length vs) - 1 = omega arith in
    ap (λ (n : ℕ). x ∷ take n (v ∷ vs)) less

-- all but the last
pub last_gone : (es : List (Value × Value)) (vs : List Value) → 0 < length vs
    → parts_of_entries es ++ take (length vs - 1) vs ≡ take (length (parts_of_entries es ++ vs) - 1) (parts_of_entries es ++ vs)
last_gone [] vs h = refl
last_gone (e ∷ es) vs h =
    let rest = parts_of_entries es ++ vs in
    let less : suc (length rest) ≡ suc (suc (length rest)) - 1 = omega arith in
    ap (λ (l : List Value). e.0 ∷ (e.1 ∷ l)) (last_gone es vs h)
    ∙ ap (λ (l : List Value). e.0 ∷ l) (sym (one_less e.1 rest (omega (arith, parts_count es vs, h))))
    ∙ ap (λ (n : ℕ). take n (e.0 ∷ (e.1 ∷ rest))) less

pub key_at : (es : List (Value × Value)) (i j : ℕ) (e : Value × Value) → i ≡ 2 * j → j < length es → e ≡ get_or es j e
    → e.0 ≡ get_or (parts_of_entries es) i e.0
key_at [] i j e two h is = absurd (omega (arith, h))
key_at (d ∷ es) zero zero e two h is = ap (λ (x : Value × Value). x.0) is
key_at (d ∷ es) zero (suc j) e two h is = absurd (omega (arith, two))
key_at (d ∷ es) (suc zero) j e two h is = absurd (omega (arith, two))
key_at (d ∷ es) (suc (suc i)) zero e two h is = absurd (omega (arith, two))
key_at (d ∷ es) (suc (suc i)) (suc j) e two h is = key_at es i j e (omega (arith, two)) (omega (arith, h)) is

pub value_at : (es : List (Value × Value)) (i j : ℕ) (e : Value × Value) → i ≡ 2 * j + 1 → j < length es → e ≡ get_or es j e
    → e.1 ≡ get_or (parts_of_entries es) i e.1
value_at [] i j e two h is = absurd (omega (arith, h))
value_at (d ∷ es) zero j e two h is = absurd (omega (arith, two))
value_at (d ∷ es) (suc zero) zero e two h is = ap (λ (x : Value × Value). x.1) is
value_at (d ∷ es) (suc zero) (suc j) e two h is = absurd (omega (arith, two))
value_at (d ∷ es) (suc (suc i)) zero e two h is = absurd (omega (arith, two))
value_at (d ∷ es) (suc (suc i)) (suc j) e two h is = value_at es i j e (omega (arith, two)) (omega (arith, h)) is

-- The children of a whole map

pub turns_given : (es : List (Value × Value)) → map (λ (v : Value). given (view v)) (parts_of_entries es) ≡ cells_of_vals (in_turn (entries_view es))
turns_given [] = refl
turns_given (e ∷ es) = ap (λ (cs : List Cell). given (view e.0) ∷ (given (view e.1) ∷ cs)) (turns_given es)

turns_keys : (es : List (Value × Value)) (n : ℕ) → n ≡ length es → first_keys n (vals_view (parts_of_entries es)) ≡ keys (entries_view es)
turns_keys [] zero e = refl
turns_keys [] (suc n) e = absurd (omega (arith, e))
turns_keys (e ∷ es) zero h = absurd (omega (arith, h))
turns_keys (e ∷ es) (suc n) h = ap (first (view e.0)) (turns_keys es n (omega (arith, h)))

pub turns_apart : (es : List (Value × Value)) (n : ℕ) → n ≡ length es → none_twice (keys (entries_view es)) ≡ true
    → AreApart (Base.Entries n) (parts_of_entries es)
turns_apart es n count apart = record {
  within = omega (arith, count, turns_count es);
  once = ap none_twice (turns_keys es n count) ∙ apart;
}
