use Rattle.std.proofs.Common.{◌≡◌, ◌≤◌, ◌++◌, ap, sym, refl, ◌∙◌, inl, inr, List, [], ◌∷◌, length, map, min, drop, arith, ℕ}
use Rattle.std.specs.List.{zip}
use Rattle.std.proofs.lemmas.Bool.{cases_lt}
use Rattle.std.proofs.lemmas.List.{append-nil, drop_all}
use Rattle.fr_shape.specs.declared.shape.FormatProxy.{FormatProxy}
use Rattle.fr_plan.proofs.telling.nodes_by_format.Goals as goal

zip-nil : {A B : Type 0} (xs : List A) → zip {K = A} {X = B} xs [] ≡ []
zip-nil [] = refl
zip-nil (x ∷ xs) = refl

-- past the end of one of two lists nothing is left of both
zip_past : {A B C : Type 0} (f : A → C) (xs : List A) (ys : List B) (i : ℕ) → min (length xs) (length ys) ≤ i
    → zip (map f (drop i xs)) (drop i ys) ≡ []
zip_past {B = B} {C = C} f xs ys i past = elim (cases_lt i (length xs)) [
  | inl inside ↦
      let none : drop i ys ≡ [] = drop_all i ys (omega (arith, past, inside)) in
      ap (zip (map f (drop i xs))) none ∙ zip-nil (map f (drop i xs))
  | inr over ↦
      let none : drop i xs ≡ [] = drop_all i xs over in
      ap (λ (zs : List _). zip (map f zs) (drop i ys)) none
]

pub returns : goal.returns
returns c =
    let past : min (length c.as_slice-formats.result.now) (length c.args.nodes.now) ≤ c.loop-i.i =
    omega (arith, c.min-i-end.ensures, c.loop-i-test.false) in
    sym (append-nil c.loop-i.by_format.items)
    ∙ ap (λ l. c.loop-i.by_format.items ++ l) (sym (zip_past (λ (formatted : FormatProxy). formatted.format) _ c.args.nodes.now c.loop-i.i past))
    ∙ c.loop-i.invariant
    ∙ ap (λ (formats : List FormatProxy). zip (map (λ (formatted : FormatProxy). formatted.format) formats) c.args.nodes.now) c.as_slice-formats.ensures.items
