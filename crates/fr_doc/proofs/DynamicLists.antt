-- A dynamic value's lists, as the lists of what each item is.
use Rattle.std.proofs.Common.{◌≡◌, ℕ, List, ◌∷◌, length, Option, Some, None, option_map, refl, sym, ap, ◌∙◌}
use Rattle.std.specs.Prelude.{Vec}
use Rattle.std.specs.declared.alloc.Global.{Global}
use Rattle.serde_json.specs.View.{view, items_view}
use Rattle.serde_json.specs.Find.{as_str}
use Rattle.serde_json.specs.declared.value.Value.{Value, Array}
use Rattle.serde_json.proofs.Views.{view-Array}
use Rattle.serde_json.specs.Data.{Data, array, Items, no_items, item}
use Rattle.fr_shape.specs.Val.{Dynamic, first_dynamic}
use Rattle.fr_shape.specs.Val.{member as dyn_member}
use Rattle.fr_shape.specs.View.{dynamics_of, members_of}
use Rattle.fr_doc.specs.DynForms.{dyn_form, dynamics_form, dyn_member_form, dyn_members_form, dyn_object_form}
use Rattle.fr_doc.proofs.TwoItems.{two_items}
use Rattle.fr_doc.specs.Steps.{◌>>=◌, each, two}

more_dynamics : (o : Option Dynamic) (os : Option (List Dynamic)) → (o >>= λ x. option_map dynamics_of os >>= λ xs. Some (first_dynamic x xs)) ≡ option_map dynamics_of (o >>= λ x. os >>= λ xs. Some (x ∷ xs))
more_dynamics None os = refl
more_dynamics (Some x) None = refl
more_dynamics (Some x) (Some xs) = refl

pub dynamics_each : (ds : Items) → dynamics_form ds ≡ option_map dynamics_of (each dyn_form ds)
dynamics_each no_items = refl
dynamics_each (item d ds) = rw (dynamics_each ds) (more_dynamics (dyn_form d) (each dyn_form ds))

more_members : (o : Option (List ℕ × Dynamic)) (os : Option (List (List ℕ × Dynamic))) → (o >>= λ m. option_map members_of os >>= λ ms. Some (dyn_member m.0 m.1 ms)) ≡ option_map members_of (o >>= λ x. os >>= λ xs. Some (x ∷ xs))
more_members None os = refl
more_members (Some x) None = refl
more_members (Some x) (Some xs) = refl

pub members_each : (ds : Items) → dyn_members_form ds ≡ option_map members_of (each dyn_member_form ds)
members_each no_items = refl
members_each (item d ds) = rw (members_each ds) (more_members (dyn_member_form d) (each dyn_member_form ds))

pub dynamics_whole : (v : Vec Value Global) (vs : List Value) → vs ≡ v.items → dynamics_form (items_view v.items) ≡ option_map dynamics_of (each dyn_form (items_view vs))
dynamics_whole v vs same = ap (λ ws. dynamics_form (items_view ws)) (sym same) ∙ dynamics_each (items_view vs)

pub members_whole : (json : Value) (v : Vec Value Global) (vs : List Value) → json ≡ Array v → vs ≡ v.items → dyn_object_form (view json) ≡ option_map members_of (each dyn_member_form (items_view vs))
members_whole json v vs is same =
    ap (λ j. dyn_object_form (view j)) is ∙ (ap dyn_object_form (view-Array v) ∙ (ap (λ ws. dyn_members_form (items_view ws)) (sym same) ∙ members_each (items_view vs)))

abbrev pub member_of : Data × Data → Option (List ℕ × Dynamic)
member_of p = as_str p.0 >>= λ text. dyn_form p.1 >>= λ x. Some (text, x)

member_two : (ds : Items) → dyn_member_form (array ds) ≡ (two ds >>= member_of)
member_two no_items = refl
member_two (item a no_items) = refl
member_two (item a (item b no_items)) = refl
member_two (item a (item b (item c ds))) = refl

member_whole : (json : Value) (v : Vec Value Global) (vs : List Value) → json ≡ Array v → vs ≡ v.items → dyn_member_form (view json) ≡ (two (items_view vs) >>= member_of)
member_whole json v vs is same =
    ap (λ j. dyn_member_form (view j)) is ∙ (ap dyn_member_form (view-Array v) ∙ (ap (λ ws. dyn_member_form (array (items_view ws))) (sym same) ∙ member_two (items_view vs)))

pub member_split : (json : Value) (v : Vec Value Global) (vs : List Value) → json ≡ Array v → vs ≡ v.items → (after_first after_both : List Value) (key inner : Value) → vs ≡ key ∷ after_first → after_first ≡ inner ∷ after_both → length after_both ≡ 0 → dyn_member_form (view json) ≡ member_of (view key, view inner)
member_split json v vs is same after_first after_both key inner one more none_left =
    member_whole json v vs is same ∙ ap (λ o. o >>= member_of) (two_items vs after_first after_both key inner one more none_left)
