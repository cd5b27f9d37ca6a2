-- Laws of invariants, for proofs: what a shape settles to, and that every value keeps them where no shape reached has one.
use Rattle.std.specs.Prelude.{◌≡◌, ℕ, zero, suc, Bool, true, not, ◌&&◌, List, [], ◌∷◌, ◌++◌, map, length, nat_eq, slice_get, Option, Some, None, option_to_list, is_none}
use Rattle.std.specs.Option.{option_map_or}
use Rattle.std.specs.List.{Contains, flat_map, list_all}
use mathlib.Core.Path.{refl, sym, ap, ◌∙◌, subst}
use native.Mathlib.Omega.{arith}
use lib.Dec.{lit<}
use Rattle.std.proofs.lemmas.Bool.{and_parts, and_from}
use Rattle.std.proofs.lemmas.List.Elements.{Contains-append_left, Contains-append_right}
use Rattle.fr_shape.specs.declared.shape.Shape.{Shape}
use Rattle.fr_shape.specs.declared.shape.ShapeId.{ShapeId}
use Rattle.fr_shape.specs.declared.shape.HookId.{HookId}
use Rattle.fr_shape.specs.declared.shape.Def.{Def}
use Rattle.fr_shape.specs.declared.shape.Field.{Field}
use Rattle.fr_shape.specs.declared.shape.VariantDef.{VariantDef}
use Rattle.fr_shape.specs.Look.{Table, def_or_other, inner_or_none, behind, settled_in, settled, own_or_wrapped, shape_behind, settled_shape_in, settled_shape}
use Rattle.fr_shape.specs.Lists.{is_nil}
use Rattle.fr_shape.specs.Checked.{fields_of, proxies_of}
use Rattle.fr_shape.specs.Fits.{fits, all_fit, fields_fit, entries_fit, takes_product, takes_variant, takes_some, takes_ok, takes_err, takes_list, takes_set, takes_map, takes_ptr, fields_of_variant, points_at, count_vals}
use Rattle.fr_shape.specs.Same.{none_twice, keys}
use Rattle.fr_shape.specs.Plannable.{Reached, at_root, further, made_of, children_by, children_of, own_sources, field_sources, leads_to, is_plain_shape, is_plain_field, is_dynamic, IsPlain}
use Rattle.fr_shape.specs.Invariants.{HasNoInvariant, if_struct, asked_of, passes_own, keeps_invariants, all_keep, fields_keep, entries_keep}
use Rattle.fr_shape.specs.Val.{Val, Vals, Entries, unit, bool, char, int, nat, text, token, product, variant, none, some, ok, err, list_of, map_of, set_of, ptr, dyn, no_vals, first, no_entries, entry}

-- one step leads to the definition of the shape that it leads to
behind_shape : (shape : Option Shape) (shapes : ℕ → Option Shape) (defs : ℕ → Def) → ((id : ℕ) → def_or_other (shapes id) ≡ defs id)
    → def_or_other (shape_behind shape shapes) ≡ behind (def_or_other shape) (inner_or_none shape) defs
behind_shape None shapes defs same = refl
behind_shape (Some shape) shapes defs same = by_def shape.def shape.inner refl
  where
    by_def : (def : Def) (inner : Option ShapeId) → shape.def ≡ def → def_or_other (own_or_wrapped def inner shape shapes) ≡ behind def inner defs
    by_def Def.Other (Some wrapped) is = same wrapped.0
    by_def Def.Other None is = refl
    by_def (Def.Scalar kind) inner is = is
    by_def Def.Str inner is = is
    by_def Def.Opaque inner is = is
    by_def (Def.Struct struct) inner is = is
    by_def (Def.Enum enumeration) inner is = is
    by_def (Def.Option t) inner is = is
    by_def (Def.Result t e) inner is = is
    by_def (Def.List t) inner is = is
    by_def (Def.Map k v) inner is = is
    by_def (Def.Set t) inner is = is
    by_def (Def.Array t n) inner is = is
    by_def (Def.Pointer pointer) inner is = is
    by_def (Def.Slice t) inner is = is
    by_def Def.Dynamic inner is = is
    by_def Def.Undefined inner is = is

settled_in_by_shape : (table : Table) (n id : ℕ) → def_or_other (settled_shape_in table n id) ≡ settled_in table n id
settled_in_by_shape table zero id = refl
settled_in_by_shape table (suc n) id =
    behind_shape (slice_get table id) (λ wrapped. settled_shape_in table n wrapped) (λ wrapped. settled_in table n wrapped) (settled_in_by_shape table n)

-- a shape settles to the definition of the shape that it stands for
pub settled_by_shape : (table : Table) (id : ℕ) (shape : Option Shape) → shape ≡ settled_shape table id → def_or_other shape ≡ settled table id
settled_by_shape table id shape is = ap def_or_other is ∙ settled_in_by_shape table (length table) id

-- a plain table has none
pub plain_has_none : (table : Table) (root : ℕ) → IsPlain table root → HasNoInvariant table root
plain_has_none table root plain id shape reached is = none_is shape.invariant (third shape (plain.plain id shape reached is))
  where
    third : (shape : Shape) → is_plain_shape shape ≡ true → is_none shape.invariant ≡ true
    third shape e =
        let two = is_nil (proxies_of shape.proxy shape.format_proxies) && is_none shape.convert in
        let three = two && is_none shape.invariant in
        let four = and_parts (three && not (is_dynamic shape.def)) (list_all is_plain_field (fields_of shape.def)) e in
        (and_parts two (is_none shape.invariant) (and_parts three (not (is_dynamic shape.def)) four.0).0).1

    none_is : (hook : Option HookId) → is_none hook ≡ true → hook ≡ None
    none_is None e = refl
    none_is (Some hook) e = cc

-- what a definition of fields alone is made of: nothing more
twice : (ids : List ShapeId) (next : ShapeId) → Contains ids next → Contains (ids ++ [] ++ []) next
twice ids next h = Contains-append_left (ids ++ []) [] next (Contains-append_left ids [] next h)

later : {X : Type 0} (y : X) (xs : List X) (x : X) → Contains xs x → Contains (y ∷ xs) x
later y xs x h = let under = h.1 in (suc h.0, omega (arith, under), h.2)

abbrev shapes_of : List Field → List ShapeId
shapes_of fields = map (λ (field : Field). field.shape) fields

shapes_append : (xs ys : List Field) → shapes_of xs ++ shapes_of ys ≡ shapes_of (xs ++ ys)
shapes_append [] ys = refl
shapes_append (x ∷ xs) ys = ap (λ ids. x.shape ∷ ids) (shapes_append xs ys)

abbrev fields_of_all : List VariantDef → List Field
fields_of_all variants = flat_map (λ (one : VariantDef). one.fields) variants

-- the shapes of a variant's fields are among those of all the enum's fields
variant_within : (variants : List VariantDef) (i : ℕ) (chosen : VariantDef) → slice_get variants i ≡ Some chosen
    → (next : ShapeId) → Contains (shapes_of chosen.fields) next → Contains (shapes_of (fields_of_all variants)) next
variant_within [] i chosen is next h = cc
variant_within (one ∷ variants) zero chosen is next h =
    let same : shapes_of one.fields ≡ shapes_of chosen.fields =
    ap (λ (found : Option VariantDef). option_map_or (λ (one : VariantDef). shapes_of one.fields) found []) is in
    subst (λ (ids : List ShapeId). Contains ids next) (shapes_append one.fields (fields_of_all variants))
    (Contains-append_left (shapes_of one.fields) (shapes_of (fields_of_all variants)) next (subst (λ (ids : List ShapeId). Contains ids next) (sym same) h))
variant_within (one ∷ variants) (suc i) chosen is next h =
    subst (λ (ids : List ShapeId). Contains ids next) (shapes_append one.fields (fields_of_all variants))
    (Contains-append_right (shapes_of one.fields) (shapes_of (fields_of_all variants)) next (variant_within variants i chosen is next h))

-- what a definition is made of is among the children of a shape of this definition
made_within : (def : Def) (shape : Shape) (next : ShapeId) → Contains (made_of def) next → Contains (children_by def shape) next
made_within (Def.Scalar kind) shape next h = let under = h.1 in absurd (omega (arith, under))
made_within Def.Str shape next h = let under = h.1 in absurd (omega (arith, under))
made_within Def.Opaque shape next h = let under = h.1 in absurd (omega (arith, under))
made_within Def.Undefined shape next h = let under = h.1 in absurd (omega (arith, under))
made_within Def.Other shape next h = let under = h.1 in absurd (omega (arith, under))
made_within _ shape next h = h

child_within : (shape : Shape) (next : ShapeId) → Contains (children_of shape) next → Contains (leads_to shape) next
child_within shape next h =
    Contains-append_left (own_sources shape ++ children_of shape) (flat_map field_sources (fields_of shape.def)) next
    (Contains-append_right (own_sources shape) (children_of shape) next h)

unasked : (def : Def) → if_struct def None ≡ None
unasked (Def.Struct struct) = refl
unasked _ = refl

module _ (table : Table) (root : ℕ) where
  -- the root reaches all of these shapes
  abbrev AreReached : List ShapeId → Type 0
  AreReached ids = (next : ShapeId) → Contains ids next → Reached table root next.0

  -- of a shape that the root reaches, what passes one test passes the other
  abbrev Carries : (ℕ → Bool) → (ℕ → Bool) → Type 0
  Carries one other = (id : ℕ) → Reached table root id → one id ≡ true → other id ≡ true

  -- the same of fields whose shapes it reaches
  abbrev CarriesFields : (List Field → Bool) → (List Field → Bool) → Type 0
  CarriesFields one other = (fields : List Field) → AreReached (shapes_of fields) → one fields ≡ true → other fields ≡ true

  -- a shape of the table that the root reaches
  abbrev IsReachedShape : Shape → Type 0
  IsReachedShape shape = (at : ℕ) × Reached table root at × (slice_get table at ≡ Some shape)

  abbrev Onward : ℕ → Shape → Type 0
  Onward n shape = (at : ℕ) → Reached table root at → settled_shape_in table n at ≡ Some shape → IsReachedShape shape

  wrapped_reached : (id : ℕ) → Reached table root id → (shape : Shape) → slice_get table id ≡ Some shape → shape.def ≡ Def.Other
      → (wrapped : ShapeId) → shape.inner ≡ Some wrapped → Reached table root wrapped.0
  wrapped_reached id reached shape is other wrapped inner =
      let children : children_of shape ≡ wrapped ∷ [] = ap (λ (def : Def). children_by def shape) other ∙ ap option_to_list inner in
      further reached is (child_within shape wrapped (subst (λ (ids : List ShapeId). Contains ids wrapped) (sym children) (0, lit< tt, refl)))

  -- what a shape stands for is reached with it
  stands_reached : (n id : ℕ) → Reached table root id → (shape : Shape) → settled_shape_in table n id ≡ Some shape → IsReachedShape shape
  stands_reached zero id reached shape e = cc
  stands_reached (suc n) id reached shape e = by_shape (slice_get table id) refl e (λ at below. stands_reached n at below shape)
    where
      by_def : (own : Shape) (def : Def) (inner : Option ShapeId) → slice_get table id ≡ Some own → own.def ≡ def → own.inner ≡ inner
          → own_or_wrapped def inner own (λ wrapped. settled_shape_in table n wrapped) ≡ Some shape → Onward n shape → IsReachedShape shape
      by_def own Def.Other (Some wrapped) is def inner e go = go wrapped.0 (wrapped_reached id reached own is def wrapped inner) e
      by_def own Def.Other None is def inner e go = cc
      by_def own _ wrapped is def inner e go = (id, reached, is ∙ e)

      by_shape : (found : Option Shape) → slice_get table id ≡ found
          → shape_behind found (λ wrapped. settled_shape_in table n wrapped) ≡ Some shape → Onward n shape → IsReachedShape shape
      by_shape (Some own) is e go = by_def own own.def own.inner is refl refl e go
      by_shape None is e go = cc

  -- and so is what it is made of
  made_reached : (id : ℕ) → Reached table root id → AreReached (made_of (settled table id))
  made_reached id reached next h = by_shape (settled_shape table id) refl
    where
      by_shape : (found : Option Shape) → settled_shape table id ≡ found → Reached table root next.0
      by_shape None is =
          let other : settled table id ≡ Def.Other = sym (settled_by_shape table id None (sym is)) in
          let none : Contains (made_of Def.Other) next = subst (λ (def : Def). Contains (made_of def) next) other h in
          let under = none.1 in
          absurd (omega (arith, under))
      by_shape (Some shape) is =
          let here = stands_reached (length table) id reached shape is in
          let def : settled table id ≡ shape.def = sym (settled_by_shape table id (Some shape) (sym is)) in
          let made : Contains (made_of shape.def) next = subst (λ (def : Def). Contains (made_of def) next) def h in
          further here.1 here.2 (child_within shape next (made_within shape.def shape next made))

  product_carries : (def : Def) → AreReached (made_of def) → (P Q : List Field → Bool) → CarriesFields P Q → (E F : ℕ → Bool) → Carries E F → (count : ℕ)
      → takes_product def P E count ≡ true → takes_product def Q F count ≡ true
  product_carries (Def.Struct struct) made P Q fields E F each count e =
      fields struct.fields (λ next h. made next (twice (shapes_of struct.fields) next h)) e
  product_carries (Def.Array t n) made P Q fields E F each count e =
      let both = and_parts (nat_eq count n) (E t.0) e in
      and_from (nat_eq count n) (F t.0) both.0 (each t.0 (made t (0, lit< tt, refl)) both.1)
  product_carries _ made P Q fields E F each count e = cc

  variant_carries : (def : Def) → AreReached (made_of def) → (i : ℕ) (P Q : List Field → Bool) → CarriesFields P Q
      → takes_variant def i P ≡ true → takes_variant def i Q ≡ true
  variant_carries (Def.Enum enumeration) made i P Q fields e = chosen (slice_get enumeration.variants i) refl e
    where
      chosen : (found : Option VariantDef) → slice_get enumeration.variants i ≡ found → fields_of_variant found P ≡ true → fields_of_variant found Q ≡ true
      chosen (Some one) is e =
          fields one.fields
          (λ next h. made next (twice (shapes_of (fields_of_all enumeration.variants)) next (variant_within enumeration.variants i one is next h))) e
      chosen None is e = cc
  variant_carries _ made i P Q fields e = cc

  some_carries : (def : Def) → AreReached (made_of def) → (E F : ℕ → Bool) → Carries E F → takes_some def E ≡ true → takes_some def F ≡ true
  some_carries (Def.Option t) made E F each e = each t.0 (made t (0, lit< tt, refl)) e
  some_carries _ made E F each e = cc

  ok_carries : (def : Def) → AreReached (made_of def) → (E F : ℕ → Bool) → Carries E F → takes_ok def E ≡ true → takes_ok def F ≡ true
  ok_carries (Def.Result t u) made E F each e = each t.0 (made t (0, lit< tt, refl)) e
  ok_carries _ made E F each e = cc

  err_carries : (def : Def) → AreReached (made_of def) → (E F : ℕ → Bool) → Carries E F → takes_err def E ≡ true → takes_err def F ≡ true
  err_carries (Def.Result t u) made E F each e = each u.0 (made u (1, lit< tt, refl)) e
  err_carries _ made E F each e = cc

  list_carries : (def : Def) → AreReached (made_of def) → (E F : ℕ → Bool) → Carries E F → takes_list def E ≡ true → takes_list def F ≡ true
  list_carries (Def.List t) made E F each e = each t.0 (made t (0, lit< tt, refl)) e
  list_carries (Def.Slice t) made E F each e = each t.0 (made t (0, lit< tt, refl)) e
  list_carries _ made E F each e = cc

  set_carries : (def : Def) → AreReached (made_of def) → (E F : ℕ → Bool) → Carries E F → (apart : Bool)
      → takes_set def E apart ≡ true → takes_set def F true ≡ true
  set_carries (Def.Set t) made E F each apart e =
      and_from (F t.0) true (each t.0 (made t (0, lit< tt, refl)) (and_parts (E t.0) apart e).0) refl
  set_carries _ made E F each apart e = cc

  map_carries : (def : Def) → AreReached (made_of def) → (E F : ℕ → ℕ → Bool)
      → ((k v : ℕ) → Reached table root k → Reached table root v → E k v ≡ true → F k v ≡ true) → (apart : Bool)
      → takes_map def E apart ≡ true → takes_map def F true ≡ true
  map_carries (Def.Map k v) made E F each apart e =
      and_from (F k.0 v.0) true (each k.0 v.0 (made k (0, lit< tt, refl)) (made v (1, lit< tt, refl)) (and_parts (E k.0 v.0) apart e).0) refl
  map_carries _ made E F each apart e = cc

  ptr_carries : (def : Def) → AreReached (made_of def) → (E F : ℕ → Bool) → Carries E F → takes_ptr def E ≡ true → takes_ptr def F ≡ true
  ptr_carries (Def.Pointer pointer) made E F each e = pointee pointer.pointee made e
    where
      pointee : (to : Option ShapeId) → AreReached (option_to_list to) → points_at to E ≡ true → points_at to F ≡ true
      pointee (Some t) made e = each t.0 (made t (0, lit< tt, refl)) e
      pointee None made e = cc
  ptr_carries _ made E F each e = cc

  module _ (check : ℕ → Val → Bool) (none_asked : HasNoInvariant table root) where
    passes : (id : ℕ) (v : Val) → Reached table root id → passes_own check table id v ≡ true
    passes id v reached =
        ap (λ (asked : Option HookId). option_map_or (λ (hook : HookId). check hook.0 v) asked true) (by_shape (settled_shape table id) refl)
      where
        by_shape : (found : Option Shape) → settled_shape table id ≡ found → asked_of found ≡ None
        by_shape None is = refl
        by_shape (Some shape) is =
            let here = stands_reached (length table) id reached shape is in
            ap (if_struct shape.def) (none_asked here.0 shape here.1 here.2) ∙ unasked shape.def

    mutual
      keeps : (v : Val) → Carries (λ id. fits table id v) (λ id. keeps_invariants check table id v)
      keeps unit id reached e = refl
      keeps (bool b) id reached e = refl
      keeps (char c) id reached e = refl
      keeps (int z) id reached e = refl
      keeps (nat n) id reached e = refl
      keeps (text t) id reached e = refl
      keeps (token t) id reached e = refl
      keeps (product vs) id reached e =
          and_from _ (passes_own check table id (product vs))
          (product_carries (settled table id) (made_reached id reached) (λ fields. fields_fit table fields vs) (λ fields. fields_keep check table fields vs)
          (fields_keeps vs) (λ t. all_fit table t vs) (λ t. all_keep check table t vs) (all_keeps vs) (count_vals vs) e)
          (passes id (product vs) reached)
      keeps (variant i vs) id reached e =
          variant_carries (settled table id) (made_reached id reached) i (λ fields. fields_fit table fields vs) (λ fields. fields_keep check table fields vs)
          (fields_keeps vs) e
      keeps none id reached e = refl
      keeps (some v) id reached e =
          some_carries (settled table id) (made_reached id reached) (λ t. fits table t v) (λ t. keeps_invariants check table t v) (keeps v) e
      keeps (ok v) id reached e =
          ok_carries (settled table id) (made_reached id reached) (λ t. fits table t v) (λ t. keeps_invariants check table t v) (keeps v) e
      keeps (err v) id reached e =
          err_carries (settled table id) (made_reached id reached) (λ t. fits table t v) (λ t. keeps_invariants check table t v) (keeps v) e
      keeps (list_of vs) id reached e =
          list_carries (settled table id) (made_reached id reached) (λ t. all_fit table t vs) (λ t. all_keep check table t vs) (all_keeps vs) e
      keeps (set_of vs) id reached e =
          set_carries (settled table id) (made_reached id reached) (λ t. all_fit table t vs) (λ t. all_keep check table t vs) (all_keeps vs)
          (none_twice vs) e
      keeps (map_of es) id reached e =
          map_carries (settled table id) (made_reached id reached) (λ k v. entries_fit table k v es) (λ k v. entries_keep check table k v es)
          (entries_keeps es) (none_twice (keys es)) e
      keeps (ptr v) id reached e =
          ptr_carries (settled table id) (made_reached id reached) (λ t. fits table t v) (λ t. keeps_invariants check table t v) (keeps v) e
      keeps (dyn d) id reached e = refl

      all_keeps : (vs : Vals) → Carries (λ id. all_fit table id vs) (λ id. all_keep check table id vs)
      all_keeps no_vals id reached e = refl
      all_keeps (first v vs) id reached e =
          let both = and_parts (fits table id v) (all_fit table id vs) e in
          and_from (keeps_invariants check table id v) (all_keep check table id vs) (keeps v id reached both.0) (all_keeps vs id reached both.1)

      fields_keeps : (vs : Vals) → CarriesFields (λ fields. fields_fit table fields vs) (λ fields. fields_keep check table fields vs)
      fields_keeps no_vals [] within e = refl
      fields_keeps no_vals (field ∷ fields) within e = refl
      fields_keeps (first v vs) [] within e = refl
      fields_keeps (first v vs) (field ∷ fields) within e =
          let both = and_parts (fits table field.shape.0 v) (fields_fit table fields vs) e in
          and_from (keeps_invariants check table field.shape.0 v) (fields_keep check table fields vs)
          (keeps v field.shape.0 (within field.shape (0, omega arith, refl)) both.0)
          (fields_keeps vs fields (λ next h. within next (later field.shape (shapes_of fields) next h)) both.1)

      entries_keeps : (es : Entries) (k v : ℕ) → Reached table root k → Reached table root v
          → entries_fit table k v es ≡ true → entries_keep check table k v es ≡ true
      entries_keeps no_entries k v key_reached value_reached e = refl
      entries_keeps (entry key value es) k v key_reached value_reached e =
          let pair = and_parts (fits table k key && fits table v value) (entries_fit table k v es) e in
          let both = and_parts (fits table k key) (fits table v value) pair.0 in
          and_from (keeps_invariants check table k key && keeps_invariants check table v value) (entries_keep check table k v es)
          (and_from (keeps_invariants check table k key) (keeps_invariants check table v value) (keeps key k key_reached both.0)
          (keeps value v value_reached both.1))
          (entries_keeps es k v key_reached value_reached pair.1)

-- where no shape that the root reaches has an invariant, every value that fits the root keeps the invariants
pub none_keeps : (check : ℕ → Val → Bool) (table : Table) (root : ℕ) (v : Val) → HasNoInvariant table root → fits table root v ≡ true
    → keeps_invariants check table root v ≡ true
none_keeps check table root v none_asked fit = keeps table root check none_asked v root at_root fit

-- so it is in a plain table
pub plain_keeps : (check : ℕ → Val → Bool) (table : Table) (root : ℕ) (v : Val) → IsPlain table root → fits table root v ≡ true
    → keeps_invariants check table root v ≡ true
plain_keeps check table root v plain fit = none_keeps check table root v (plain_has_none table root plain) fit
