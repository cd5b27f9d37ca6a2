-- The values of a struct's parts, of which the last one comes first.
use Rattle.std.proofs.Common.{◌≡◌, ◌≢◌, ℕ, Bool, false, List, [], ◌∷◌, ◌++◌, reverse, Result, Ok, Err, IfOk, OnErr, refl, sym, ap, subst, ◌∙◌, arith}
use Rattle.std.proofs.lemmas.List.{reverse-append, reverse-reverse}
use Rattle.fr_shape.specs.declared.value.Value.{Value}
use Rattle.fr_shape.specs.Released.{Room, RoseBy}
use Rattle.fr_shape.specs.TokenLaws.{both, Room_left, Room_risen, Room_same}
use Rattle.fr_shape.specs.Tokens.{occurs, vals_occur}
use Rattle.fr_shape.specs.Val.{Val, Vals, first, product}
use Rattle.fr_shape.specs.View.{view, vals_view}
use Rattle.fr_facet.specs.declared.facet.FacetFault.{FacetFault}
use Rattle.fr_facet.specs.Facets.{IsReadIf}
use Rattle.fr_facet.specs.Structs.{none_left, product_takes}

-- what is left is no part of nothing
pub some_left : (values : List Value) → values ≢ [] → none_left (vals_view (reverse values)) ≡ false
some_left values some = go (reverse values) refl
  where
    go : (turned : List Value) → turned ≡ reverse values → none_left (vals_view turned) ≡ false
    go [] is = absurd (some (sym (reverse-reverse values) ∙ ap (λ (vs : List Value). reverse vs) (sym is)))
    go (v ∷ vs) is = refl

-- The last value is taken from the others.
module _ (values left : List Value) (value : Value) (is : values ≡ left ++ value ∷ []) where
  pub taken : vals_view (reverse values) ≡ first (view value) (vals_view (reverse left))
  taken =
      ap (λ (vs : List Value). vals_view (reverse vs)) is ∙ ap (λ (vs : List Value). vals_view vs) (reverse-append left (value ∷ []))

  occurring : (t : ℕ) → vals_occur (vals_view (reverse values)) t ≡ both (occurs (view value)) (vals_occur (vals_view (reverse left))) t
  occurring t = ap (λ (vs : Vals). vals_occur vs t) taken

  both_room : (ledger : List ℕ) → Room (vals_occur (vals_view (reverse values))) ledger
      → Room (both (occurs (view value)) (vals_occur (vals_view (reverse left)))) ledger
  both_room ledger room = Room_same _ (both (occurs (view value)) (vals_occur (vals_view (reverse left)))) ledger occurring room

  swapped_room : (ledger : List ℕ) → Room (vals_occur (vals_view (reverse values))) ledger
      → Room (both (vals_occur (vals_view (reverse left))) (occurs (view value))) ledger
  swapped_room ledger room =
      Room_same (both (occurs (view value)) (vals_occur (vals_view (reverse left)))) (both (vals_occur (vals_view (reverse left))) (occurs (view value))) ledger (λ t. omega arith)
      (both_room ledger room)

  pub first_room : (ledger : List ℕ) → Room (vals_occur (vals_view (reverse values))) ledger → Room (occurs (view value)) ledger
  first_room ledger room = Room_left (occurs (view value)) (vals_occur (vals_view (reverse left))) ledger (both_room ledger room)

  pub rest_room : (ledger : List ℕ) → Room (vals_occur (vals_view (reverse values))) ledger → Room (vals_occur (vals_view (reverse left))) ledger
  rest_room ledger room = Room_left (vals_occur (vals_view (reverse left))) (occurs (view value)) ledger (swapped_room ledger room)

  pub rest_room_then : (before after : List ℕ) → Room (vals_occur (vals_view (reverse values))) before → RoseBy (occurs (view value)) before after
      → Room (vals_occur (vals_view (reverse left))) after
  rest_room_then before after room rose =
      Room_risen (occurs (view value)) (vals_occur (vals_view (reverse left))) before after (both_room before room) rose

  pub first_room_then : (before after : List ℕ) → Room (vals_occur (vals_view (reverse values))) before
      → RoseBy (vals_occur (vals_view (reverse left))) before after → Room (occurs (view value)) after
  first_room_then before after room rose =
      Room_risen (vals_occur (vals_view (reverse left))) (occurs (view value)) before after (swapped_room before room) rose

-- All values of a product are turned round.
module _ (v : Val) (items turned : List Value) (is : turned ≡ reverse items) (shown : v ≡ product (vals_view items)) where
  same : vals_view items ≡ vals_view (reverse turned)
  same = sym (ap (λ (vs : List Value). vals_view (reverse vs)) is ∙ ap (λ (vs : List Value). vals_view vs) (reverse-reverse items))

  pub product_is : v ≡ product (vals_view (reverse turned))
  product_is = shown ∙ ap product same

  pub turned_room : (ledger : List ℕ) → Room (occurs v) ledger → Room (vals_occur (vals_view (reverse turned))) ledger
  turned_room ledger room = subst (λ (u : Val). Room (occurs u) ledger) product_is room

  pub turned_parts : {P : Type 0} (parts_shown : P → Vals) (result : Result P FacetFault)
      → IfOk result (λ x. parts_shown x ≡ vals_view (reverse turned)) → IfOk result (λ x. product (parts_shown x) ≡ v)
  turned_parts parts_shown (Ok x) is_shown = ap product is_shown ∙ sym product_is
  turned_parts parts_shown (Err fault) is_shown = tt

  pub turned_read : {P : Type 0} (takes : Vals → Bool) (result : Result P FacetFault)
      → IsReadIf (takes (vals_view (reverse turned))) result → IsReadIf (product_takes takes v) result
  turned_read takes result read = subst (λ (u : Val). IsReadIf (product_takes takes u) result) (sym product_is) read

  pub turned_released : {P : Type 0} (result : Result P FacetFault) (before after : List ℕ)
      → OnErr result (RoseBy (vals_occur (vals_view (reverse turned))) before after) → OnErr result (RoseBy (occurs v) before after)
  turned_released result before after rose = subst (λ (u : Val). OnErr result (RoseBy (occurs u) before after)) (sym product_is) rose
