-- A place that may be converted is of a shape of the table, and there is that conversion to it.
use Rattle.std.proofs.Common.{◌≡◌, ◌∷◌, ◌++◌, ◌||◌, if◌then◌else◌}
use Rattle.fr_model.proofs.Common.{is_option, def_or_other, is_none, Contains, Contains-append_left, Contains-append_right, map, option_or, option_to_list, arith, zero, suc, ShapeId, by_proxy, by_wrapper, Conversion, conversions_at, convert_in, source_in, ℕ, Bool, true, false, List, [], Option, Some, None, Ok, Err, refl, ◌∙◌, ap, Def, Field, Shape, Operation, IsChecked, Table, IsIn, def_of, field_in, slice_get, proxy_at, proxy_of_field, Place, shape_of_field, shape_of_child, Tracker, as_fields, Tree, hole, begun, tree_nth, child_as, shape_in, State, cursor_shape, cursor_field, field_as, field_along}
use Rattle.fr_shape.specs.declared.shape.ProxyDef.{ProxyDef}
use Rattle.fr_shape.specs.Checked.{proxies_of}
use Rattle.fr_shape.specs.declared.shape.FormatProxy.{FormatProxy}
use Rattle.fr_shape.specs.declared.shape.HookId.{HookId}
use Rattle.fr_model.specs.Conversions.{conversions_to, conversions_to_field, field_has_proxies, proxy_for, proxy_named, proxy_of_shape, proxy_or, wrapper_with}
use Rattle.fr_model.proofs.Defaulting.{get_below}
use Rattle.fr_model.proofs.Templates.{field_is_in}

field_shape : (table : Table) (s : ℕ) (tracker : Tracker) (i : ℕ) (field : Field) → field_as (def_of table s) tracker i ≡ Some field
    → child_as table s tracker i ≡ field.shape.0
field_shape table s (as_fields None) i field e = go (def_of table s) e
  where
    go : (def : Def) → field_in def None i ≡ Some field → shape_of_child def i ≡ field.shape.0
    go (Def.Struct struct) e = ap shape_of_field e
    go _ e = cc
field_shape table s (as_fields (Some k)) i field e = ap shape_of_field e
field_shape table s _ i field e = cc

field_there : (table : Table) (s : ℕ) (tracker : Tracker) (i : ℕ) (field : Field) → IsChecked table
    → field_as (def_of table s) tracker i ≡ Some field → IsIn table field.shape.0
field_there table s (as_fields selected) i field checked e = field_is_in table s selected i field checked e
field_there table s _ i field checked e = cc

-- a place that is a field has its shape, which is in the table
field_place : (table : Table) (s : ℕ) (field : Option Field) (here : Place) (t : Tree) → IsChecked table
    → ((f : Field) → field ≡ Some f → (s ≡ f.shape.0) × IsIn table f.shape.0) → (f : Field)
    → field_along table s field here t ≡ Some f → (shape_in table s here t ≡ f.shape.0) × IsIn table f.shape.0
field_place table s field [] t checked known f e = known f e
field_place table s field (i ∷ here) (begun tracker ts) checked known f e =
    field_place table (child_as table s tracker i) (field_as (def_of table s) tracker i) here (tree_nth i ts) checked
    (λ g is. (field_shape table s tracker i g is, field_there table s tracker i g checked is)) f e
field_place table s field (i ∷ here) _ checked known f e = field_place table s None here hole checked (λ g is. cc) f e

-- Which conversions there are to a place

-- a place is of a shape of the table, and there is this conversion to it
abbrev pub MayConvert : Table → ℕ → Option Field → Conversion → Type 0
MayConvert table s field conversion = IsIn table s × Contains (conversions_at table s field) conversion

mapped_too : {X Y : Type 0} (f : X → Y) (xs : List X) (x : X) → Contains xs x → Contains (map f xs) (f x)
mapped_too f [] x has = absurd (omega (arith, has.1))
mapped_too f (y ∷ ys) x (zero, below, is) = (0, omega arith, ap f is)
mapped_too f (y ∷ ys) x (suc k, below, is) =
    let rest = mapped_too f ys x (k, omega arith, is) in (suc rest.0, omega (arith, rest.1), rest.2)

named_is_one : (format : List ℕ) (formatted : List FormatProxy) (found : ProxyDef) → proxy_named format formatted ≡ Some found
    → Contains (map (λ (one : FormatProxy). one.proxy) formatted) found
named_is_one format [] found e = cc
named_is_one format (one ∷ others) found e = go _ e (λ is. named_is_one format others found is)
  where
    go : (b : Bool) → (if b then Some one.proxy else proxy_named format others) ≡ Some found
        → (proxy_named format others ≡ Some found → Contains (map (λ (other : FormatProxy). other.proxy) others) found)
        → Contains (map (λ (other : FormatProxy). other.proxy) (one ∷ others)) found
    go true e rest = (0, omega arith, cc)
    go false e rest = let later = rest e in (suc later.0, omega (arith, later.1), later.2)

proxy_is_one : (format : Option (List ℕ)) (proxy : Option ProxyDef) (formatted : List FormatProxy) (found : ProxyDef)
    → proxy_for format proxy formatted ≡ Some found → Contains (proxies_of proxy formatted) found
proxy_is_one None (Some proxy) formatted found e = (0, omega arith, cc)
proxy_is_one None None formatted found e = cc
proxy_is_one (Some format) proxy formatted found e = go (proxy_named format formatted) refl e
  where
    go : (by_name : Option ProxyDef) → proxy_named format formatted ≡ by_name → option_or by_name proxy ≡ Some found
        → Contains (proxies_of proxy formatted) found
    go (Some other) is e =
        let same : other ≡ found = cc in
        Contains-append_right _ _ found (named_is_one format formatted found (is ∙ ap Some same))
    go None is e = Contains-append_left _ _ found (alone proxy e)
      where
        alone : (one : Option ProxyDef) → one ≡ Some found → Contains (option_to_list one) found
        alone (Some other) e = (0, omega arith, cc)
        alone None e = cc

-- the wrapper that its shape is
pub wrapper_may : (table : Table) (s : ℕ) (field : Option Field) (hook : HookId) (source : ShapeId)
    → source_in (slice_get table s) ≡ Some source → convert_in (slice_get table s) ≡ Some hook → is_option (def_of table s) ≡ false
    → MayConvert table s field (by_wrapper hook source)
wrapper_may table s field hook source from by other = go (slice_get table s) refl from by other
  where
    go : (found : Option Shape) → slice_get table s ≡ found → source_in found ≡ Some source → convert_in found ≡ Some hook
        → is_option (def_or_other found) ≡ false
        → IsIn table s × Contains (conversions_to found ++ conversions_to_field field) (by_wrapper hook source)
    go (Some shape) is from by other = (
      get_below table s shape is,
      Contains-append_left _ _ _ (Contains-append_left _ _ _
          (alone shape.convert (is_option shape.def) (source_in (Some shape)) from by other)),
    )
      where
        alone : (convert : Option HookId) (of_option : Bool) (wrapped : Option ShapeId) → wrapped ≡ Some source → convert ≡ Some hook
            → of_option ≡ false
            → Contains (wrapper_with convert (if is_none convert || of_option then None else wrapped)) (by_wrapper hook source)
        alone (Some h) false (Some t) from by other = (0, omega arith, cc)
        alone (Some h) true (Some t) from by other = cc
        alone _ of_option None from by other = cc
        alone None of_option wrapped from by other = cc
    go None is from by other = cc

-- a proxy of the field that it is
pub field_proxy_may : (table : Table) (root : ℕ) (state : State) (format : Option (List ℕ)) (proxy : ProxyDef) → IsChecked table
    → proxy_of_field format (cursor_field table root state) ≡ Ok proxy
    → MayConvert table (cursor_shape table root state) (cursor_field table root state) (by_proxy proxy)
field_proxy_may table root state format proxy checked e = go (cursor_field table root state) refl e
  where
    by_field : (field : Field) (b : Bool) (found : Option ProxyDef) → proxy_for format field.proxy field.format_proxies ≡ found
        → (if b then proxy_or found Operation.NoProxyForFormat else Err Operation.FieldWithoutProxy) ≡ Ok proxy
        → Contains (conversions_to_field (Some field)) (by_proxy proxy)
    by_field field true (Some other) is e =
        let same : other ≡ proxy = cc in
        mapped_too by_proxy _ proxy (proxy_is_one format field.proxy field.format_proxies proxy (is ∙ ap Some same))
    by_field field true None is e = cc
    by_field field false found is e = cc

    go : (field : Option Field) → cursor_field table root state ≡ field → proxy_of_field format field ≡ Ok proxy
        → IsIn table (cursor_shape table root state)
        × Contains (conversions_to (slice_get table (cursor_shape table root state)) ++ conversions_to_field field) (by_proxy proxy)
    go (Some field) is e =
        let there = field_place table root None state.cursor state.tree checked (λ f is. cc) field is in
        (rw there.0 there.1, Contains-append_right _ _ _ (by_field field _ _ refl e))
    go None is e = cc

-- and one of its shape
pub shape_proxy_may : (table : Table) (s : ℕ) (field : Option Field) (format : Option (List ℕ)) (proxy : ProxyDef)
    → proxy_at table s field format ≡ Some proxy → MayConvert table s field (by_proxy proxy)
shape_proxy_may table s field format proxy e = go (field_has_proxies field) (slice_get table s) refl e
  where
    go : (b : Bool) (found : Option Shape) → slice_get table s ≡ found → (if b then None else proxy_of_shape format found) ≡ Some proxy
        → IsIn table s × Contains (conversions_to found ++ conversions_to_field field) (by_proxy proxy)
    go true found is e = cc
    go false (Some shape) is e =
        let to_shape : Contains (conversions_to (Some shape)) (by_proxy proxy)
        = Contains-append_right _ _ _ (mapped_too by_proxy _ proxy (proxy_is_one format shape.proxy shape.format_proxies proxy e)) in
        (get_below table s shape is, Contains-append_left _ _ _ to_shape)
    go false None is e = cc
