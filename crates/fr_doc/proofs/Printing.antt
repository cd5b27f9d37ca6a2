-- Printed lists as the lists of what each item is printed as.
use Rattle.std.proofs.Common.{◌≡◌, ℕ, List, [], ◌∷◌, map, take, length, ◌≤◌, refl, ap, ◌∙◌}
use Rattle.std.specs.Prelude.{Vec}
use Rattle.std.specs.declared.alloc.Global.{Global}
use Rattle.std.proofs.lemmas.List.{take_all}
use Rattle.serde_json.specs.Data.{Data, array, string, item}
use Rattle.serde_json.specs.View.{view as data_of, items_of}
use Rattle.serde_json.specs.declared.value.Value.{Value as Json, Array}
use Rattle.serde_json.proofs.Views.{view-Array}
use Rattle.fr_shape.specs.declared.value.Value.{Value}
use Rattle.fr_shape.specs.declared.value.Dyn.{Dyn}
use Rattle.fr_shape.specs.View.{view, vals_view, entries_view, dyn_view, dynamics_of, members_of}
use Rattle.fr_doc.specs.Printed.{natural, pair, bytes_data, dyn_data, dynamics_data, dyn_members_data, value_data, vals_data, entries_data}
use Rattle.fr_doc.specs.Reading.{member_view}

-- a list whose items were printed one after another, to its end
pub all_printed : {A : Type 0} (print : A → Data) (v : Vec Json Global) (xs ys : List A) (i : ℕ) → length ys ≤ i → map data_of v.items ≡ map print (take i ys) → ys ≡ xs → data_of (Array v) ≡ array (items_of (map print xs))
all_printed print v xs ys i end so_far same =
    view-Array v ∙ ap (λ ds. array (items_of ds)) (so_far ∙ (ap (map print) (take_all i ys end) ∙ ap (map print) same))

abbrev pub printed : Value → Data
printed v = value_data (view v)

abbrev pub printed_entry : Value × Value → Data
printed_entry e = pair (value_data (view e.0)) (value_data (view e.1))

abbrev pub printed_dyn : Dyn → Data
printed_dyn d = dyn_data (dyn_view d)

abbrev pub printed_member : List ℕ × Dyn → Data
printed_member m = pair (string m.0) (dyn_data (dyn_view m.1))

pub vals_printed : (vs : List Value) → items_of (map printed vs) ≡ vals_data (vals_view vs)
vals_printed [] = refl
vals_printed (v ∷ vs) = ap (item (printed v)) (vals_printed vs)

pub entries_printed : (es : List (Value × Value)) → items_of (map printed_entry es) ≡ entries_data (entries_view es)
entries_printed [] = refl
entries_printed (e ∷ es) = ap (item (printed_entry e)) (entries_printed es)

pub bytes_printed : (bs : List ℕ) → items_of (map natural bs) ≡ bytes_data bs
bytes_printed [] = refl
bytes_printed (b ∷ bs) = ap (item (natural b)) (bytes_printed bs)

pub dyns_printed : (ds : List Dyn) → items_of (map printed_dyn ds) ≡ dynamics_data (dynamics_of (map dyn_view ds))
dyns_printed [] = refl
dyns_printed (d ∷ ds) = ap (item (printed_dyn d)) (dyns_printed ds)

pub members_printed : (ms : List (List ℕ × Dyn)) → items_of (map printed_member ms) ≡ dyn_members_data (members_of (map member_view ms))
members_printed [] = refl
members_printed (m ∷ ms) = ap (item (printed_member m)) (members_printed ms)
