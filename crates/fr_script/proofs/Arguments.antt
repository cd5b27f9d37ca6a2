-- No call has more than two arguments.
use Rattle.std.proofs.Common.{◌≡◌, ℕ, ◌≤◌, List, [], ◌∷◌, length, None, refl, sym, ap, ◌∙◌, arith}
use Rattle.std.specs.Prelude.{Vec}
use Rattle.std.specs.declared.alloc.Global.{Global}
use Rattle.serde_json.specs.Data.{array, item, string}
use Rattle.serde_json.specs.View.{view, items_view}
use Rattle.serde_json.specs.declared.value.Value.{Value, Array}
use Rattle.serde_json.proofs.Views.{view-Array}
use Rattle.fr_script.specs.CommandForms.{call_form}

too_many : (word : List ℕ) (vs : List Value) → 3 ≤ length vs → None ≡ call_form (array (item (string word) (items_view vs)))
unfolding call_form
too_many word [] many = absurd (omega arith)
too_many word (a ∷ []) many = absurd (omega arith)
too_many word (a ∷ b ∷ []) many = absurd (omega arith)
too_many word (a ∷ b ∷ c ∷ vs) many = refl

pub none_with_many : (json : Value) (v : Vec Value Global) (first : Value) (word : List ℕ) (vs : List Value) → json ≡ Array v → v.items ≡ first ∷ vs → view first ≡ string word → 3 ≤ length vs → None ≡ call_form (view json)
none_with_many json v first word vs is split named many =
    too_many word vs many ∙ sym (ap (λ j. call_form (view j)) is ∙ (ap call_form (view-Array v) ∙ (ap (λ ws. call_form (array (items_view ws))) split ∙ ap (λ d. call_form (array (item d (items_view vs)))) named)))
