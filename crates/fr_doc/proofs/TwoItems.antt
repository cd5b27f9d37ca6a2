-- Arrays of two items.
use Rattle.std.proofs.Common.{◌≡◌, List, ◌∷◌, length, Some, ap, ◌∙◌}
use Rattle.std.proofs.lemmas.List.{nil_from_length}
use Rattle.serde_json.specs.View.{view, items_view}
use Rattle.serde_json.specs.declared.value.Value.{Value}
use Rattle.fr_doc.specs.Steps.{two}

-- two calls of `next` gave an item, and the third none
pub two_items : (vs after_first after_both : List Value) (a b : Value) → vs ≡ a ∷ after_first → after_first ≡ b ∷ after_both → length after_both ≡ 0 → two (items_view vs) ≡ Some (view a, view b)
two_items vs after_first after_both a b one more none_left =
    ap (λ ws. two (items_view ws)) (one ∙ ap (λ ws. a ∷ ws) (more ∙ ap (λ ws. b ∷ ws) (nil_from_length after_both none_left)))
