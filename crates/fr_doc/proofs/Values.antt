-- A value's lists, as the lists of what each item is.
use Rattle.std.proofs.Common.{◌≡◌, List, ◌∷◌, length, Option, Some, None, option_map, refl, sym, ap, ◌∙◌}
use Rattle.std.specs.Prelude.{Vec}
use Rattle.std.specs.declared.alloc.Global.{Global}
use Rattle.serde_json.specs.Data.{Data, array, Items, no_items, item}
use Rattle.serde_json.specs.View.{view, items_view}
use Rattle.serde_json.specs.declared.value.Value.{Value, Array}
use Rattle.serde_json.proofs.Views.{view-Array}
use Rattle.fr_shape.specs.Val.{Val, first, entry, variant}
use Rattle.fr_shape.specs.View.{vals_of, entries_of}
use Rattle.fr_doc.proofs.TwoItems.{two_items}
use Rattle.fr_doc.specs.Numerals.{whole_number}
use Rattle.fr_doc.specs.Steps.{◌>>=◌, each, two}
use Rattle.fr_doc.specs.ValueForms.{value_form, vals_form, list_form, variant_form, map_form, entries_form, entry_form}

more_vals : (o : Option Val) (os : Option (List Val)) → (o >>= λ v. option_map vals_of os >>= λ vs. Some (first v vs)) ≡ option_map vals_of (o >>= λ x. os >>= λ xs. Some (x ∷ xs))
more_vals None os = refl
more_vals (Some v) None = refl
more_vals (Some v) (Some vs) = refl

vals_each : (ds : Items) → vals_form ds ≡ option_map vals_of (each value_form ds)
vals_each no_items = refl
vals_each (item d ds) = rw (vals_each ds) (more_vals (value_form d) (each value_form ds))

more_entries : (o : Option (Val × Val)) (os : Option (List (Val × Val))) → (o >>= λ e. option_map entries_of os >>= λ es. Some (entry e.0 e.1 es)) ≡ option_map entries_of (o >>= λ x. os >>= λ xs. Some (x ∷ xs))
more_entries None os = refl
more_entries (Some e) None = refl
more_entries (Some e) (Some es) = refl

entries_each : (ds : Items) → entries_form ds ≡ option_map entries_of (each entry_form ds)
entries_each no_items = refl
entries_each (item d ds) = rw (entries_each ds) (more_entries (entry_form d) (each entry_form ds))

pub vals_whole : (v : Vec Value Global) (vs : List Value) → vs ≡ v.items → vals_form (items_view v.items) ≡ option_map vals_of (each value_form (items_view vs))
vals_whole v vs same = ap (λ ws. vals_form (items_view ws)) (sym same) ∙ vals_each (items_view vs)

pub entries_whole : (json : Value) (v : Vec Value Global) (vs : List Value) → json ≡ Array v → vs ≡ v.items → map_form (view json) ≡ option_map entries_of (each entry_form (items_view vs))
entries_whole json v vs is same =
    ap (λ j. map_form (view j)) is ∙ (ap map_form (view-Array v) ∙ (ap (λ ws. entries_form (items_view ws)) (sym same) ∙ entries_each (items_view vs)))

abbrev pub entry_of : Data × Data → Option (Val × Val)
entry_of p = value_form p.0 >>= λ k. value_form p.1 >>= λ v. Some (k, v)

entry_two : (ds : Items) → entry_form (array ds) ≡ (two ds >>= entry_of)
entry_two no_items = refl
entry_two (item a no_items) = refl
entry_two (item a (item b no_items)) = refl
entry_two (item a (item b (item c ds))) = refl

abbrev pub variant_of : Data × Data → Option Val
variant_of p = whole_number p.0 >>= λ i. list_form p.1 >>= λ vs. Some (variant i vs)

variant_two : (ds : Items) → variant_form (array ds) ≡ (two ds >>= variant_of)
variant_two no_items = refl
variant_two (item a no_items) = refl
variant_two (item a (item b no_items)) = refl
variant_two (item a (item b (item c ds))) = refl

-- an array whose first two items two calls of `next` gave, and the third none
module _ (json : Value) (v : Vec Value Global) (vs : List Value) (is : json ≡ Array v) (same : vs ≡ v.items) (after_first after_both : List Value) (a b : Value) (one : vs ≡ a ∷ after_first) (more : after_first ≡ b ∷ after_both) (none_left : length after_both ≡ 0) where
  pub entry_split : entry_form (view json) ≡ entry_of (view a, view b)
  entry_split =
      ap (λ j. entry_form (view j)) is ∙ (ap entry_form (view-Array v) ∙ (ap (λ ws. entry_form (array (items_view ws))) (sym same) ∙ (entry_two (items_view vs) ∙ ap (λ o. o >>= entry_of) (two_items vs after_first after_both a b one more none_left))))

  pub variant_split : variant_form (view json) ≡ variant_of (view a, view b)
  variant_split =
      ap (λ j. variant_form (view j)) is ∙ (ap variant_form (view-Array v) ∙ (ap (λ ws. variant_form (array (items_view ws))) (sym same) ∙ (variant_two (items_view vs) ∙ ap (λ o. o >>= variant_of) (two_items vs after_first after_both a b one more none_left))))
