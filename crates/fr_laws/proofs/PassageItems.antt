-- Items, entries and sources: each orderly command does the same to two places that look the same, or is refused at both.
use Rattle.std.proofs.Common.{◌≡◌, ◌<◌, ◌∷◌, inr}
use Rattle.fr_model.proofs.Common.{ℕ, suc, Bool, true, false, List, [], map, length, Option, Some, None, Result, Ok, Err, refl, sym, append-nil, base_of_tracker, tracker_of, ◌∙◌, ap, ap₂, subst, arith, Def, Field, ShapeId, Operation, ReflectErrorKind, is_dynamic, is_empty_struct, is_nil, slice_get, Table, def_of, product, no_vals, Place, Tracker, as_fields, as_elements, as_content, as_items, as_entries, ItemsKind, EntriesKind, Tree, hole, entered, whole, begun, Trees, no_trees, branch, tree_nth, change_nth, and_last, count_trees, count_below, child_as, fresh, enter, enter_child, State, cursor_tree, one_more_call, Way, enters, is_hole, ends_in_hole, last_of, is_set, is_set_tracker, at_shape, unless_refused, item_refusal, begun_item_refusal, set_item_refusal, convert_in, source_in, proxy_of_field, proxy_at, with_item, with_key, HasEntries, is_closed_slice}
use Rattle.fr_model.proofs.TokensInTrees.{fresh_is}
use Rattle.fr_model.proofs.Children.{ChildOf, field_of, element_of, variant_field_of, ChildCase, a_child, a_variant_child, no_child, child_case}
use Rattle.fr_laws.proofs.PassageTrees.{IsRightAs, IsRight}
use Rattle.fr_model.proofs.Templates.{nil_is}
use Rattle.fr_laws.proofs.PassageCommands.{put_does, no_source}
use Rattle.fr_laws.proofs.PassageSteps.{HaveSameHoles, LookSame, as_fresh, both_enter, Does, nothing, fills_one, adds, adds_entry, does, BothDo, change_none, nth_same, is_a_hole, entered_too}
use Rattle.fr_model.specs.Collections.{lacks_value, is_map, is_map_tracker}
use Rattle.fr_model.specs.Conversions.{field_has_proxies, proxy_of_shape, proxy_for}
use Rattle.fr_laws.specs.Passage.{is_hole_in, enters_hole}
use Rattle.fr_model.specs.Step.{begin_list_item, begin_key, begin_value, begin_set_item, begin_object_entry, begin_inner, begins_inner, begins_by_proxy, begins_if_proxied}
use Rattle.fr_shape.specs.Checked.{proxies_of}
use Rattle.fr_shape.specs.declared.shape.FormatProxy.{FormatProxy}
use Rattle.fr_shape.specs.declared.shape.ProxyDef.{ProxyDef}

-- Holes

ends_same : (ts us : Trees) → HaveSameHoles ts us → ends_in_hole ts ≡ ends_in_hole us
ends_same no_trees no_trees holes = refl
ends_same no_trees (branch u us) holes = let count = holes.count in absurd (omega (arith, count))
ends_same (branch t ts) no_trees holes = let count = holes.count in absurd (omega (arith, count))
ends_same (branch t no_trees) (branch u no_trees) holes = holes.each 0
ends_same (branch t no_trees) (branch u (branch w us)) holes = let count = holes.count in absurd (omega (arith, count))
ends_same (branch t (branch v ts)) (branch u no_trees) holes = let count = holes.count in absurd (omega (arith, count))
ends_same (branch t (branch v ts)) (branch u (branch w us)) holes =
    ends_same (branch v ts) (branch w us)
    (let count = holes.count in record { count = omega (arith, count); each = λ j. holes.each (suc j) })

last_below : (ts : Trees) → ends_in_hole ts ≡ true → last_of (count_trees ts) < count_trees ts
last_below no_trees ends = cc
last_below (branch t ts) ends = omega arith

-- Items

-- two places that take items
pub record BothTake (table : Table) (s : ℕ) (t u : Tree) : Type 0 where
  pub tracker : Tracker
  pub ts : Trees
  pub us : Trees
  pub left : t ≡ begun tracker ts
  pub right : u ≡ begun tracker us
  pub count : count_trees ts ≡ count_trees us
  pub full_as : IsRightAs table s tracker (suc (count_trees ts))
  pub shut : is_closed_slice tracker ≡ false

-- both take items, or neither does
pub data ItemCase (table : Table) (s : ℕ) (t u : Tree) : Type 0 where
  both_take : BothTake table s t u → item_refusal (def_of table s) t ≡ None → item_refusal (def_of table s) u ≡ None → ItemCase table s t u
  neither_takes : (one other : Operation) → item_refusal (def_of table s) t ≡ Some one → item_refusal (def_of table s) u ≡ Some other
      → ItemCase table s t u

item_case : (table : Table) (s : ℕ) (t u : Tree) → LookSame (def_of table s) t u → IsRight table s t → ItemCase table s t u
item_case table s entered entered look right = neither_takes _ _ refl refl
item_case table s (whole v) (whole w) look right = neither_takes _ _ refl refl
item_case table s (begun tracker ts) (begun other us) look right =
    subst (λ (one : Tracker). ItemCase table s (begun tracker ts) (begun one us)) look.0 (go tracker right)
  where
    go : (tracker : Tracker) → IsRightAs table s tracker (count_trees ts) → ItemCase table s (begun tracker ts) (begun tracker us)
    go (as_fields chosen) right = neither_takes _ _ refl refl
    go as_elements right = neither_takes _ _ refl refl
    go (as_content kind) right = neither_takes _ _ refl refl
    go (as_items ItemsKind.List) right =
        both_take (record { tracker = as_items ItemsKind.List; ts = ts; us = us; left = refl; right = refl; count = look.1.count; full_as = right; shut = refl }) refl refl
    go (as_items ItemsKind.Slice) right =
        both_take (record { tracker = as_items ItemsKind.Slice; ts = ts; us = us; left = refl; right = refl; count = look.1.count; full_as = right; shut = refl }) refl refl
    go (as_items ItemsKind.ClosedSlice) right = neither_takes _ _ refl refl
    go (as_items ItemsKind.Array) right = absurd right.1
    go (as_items ItemsKind.Set) right = neither_takes _ _ refl refl
    go (as_entries kind) right = neither_takes _ _ refl refl
item_case table s (whole v) (begun other us) look right =
    neither_takes _ Operation.ItemStillOpen refl (ap (begun_item_refusal (def_of table s)) look.0)
item_case table s (begun other us) (whole v) look right =
    neither_takes Operation.ItemStillOpen _ (ap (begun_item_refusal (def_of table s)) look.0) refl
item_case table s hole u look right = absurd right
item_case table s _ _ look right = absurd look

set_tracker : (tracker : Tracker) → is_set_tracker tracker ≡ true → tracker ≡ as_items ItemsKind.Set
set_tracker (as_items ItemsKind.Set) e = refl
set_tracker _ e = cc

sets_same : (def : Def) (t u : Tree) → LookSame def t u → is_set t ≡ is_set u
sets_same def entered entered look = refl
sets_same def (whole v) (whole w) look = refl
sets_same def (begun tracker ts) (begun other us) look = ap is_set_tracker look.0
sets_same def (whole v) (begun other us) look = sym (ap is_set_tracker look.0)
sets_same def (begun other us) (whole v) look = ap is_set_tracker look.0
sets_same def hole u look = absurd look
sets_same def _ _ look = absurd look

both_sets : (table : Table) (s : ℕ) (t u : Tree) → LookSame (def_of table s) t u → IsRight table s t → is_set t ≡ true → BothTake table s t u
both_sets table s (begun tracker ts) (begun other us) look right set =
    let is = set_tracker tracker set in
    let full : IsRightAs table s (as_items ItemsKind.Set) (count_trees ts) = subst (λ (known : Tracker). IsRightAs table s known (count_trees ts)) is right in
    record {
      tracker = as_items ItemsKind.Set;
      ts = ts;
      us = us;
      left = ap (λ (known : Tracker). begun known ts) is;
      right = ap (λ (known : Tracker). begun known us) (sym look.0 ∙ is);
      count = look.1.count;
      full_as = full;
      shut = refl;
    }
both_sets table s (begun tracker ts) (whole v) look right set = let none = rw look.0 at set in cc
both_sets table s (begun tracker ts) hole look right set = absurd look
both_sets table s (begun tracker ts) entered look right set = absurd look
both_sets table s hole u look right set = cc
both_sets table s entered u look right set = cc
both_sets table s (whole v) u look right set = cc

-- Entries

map_tracker : (tracker : Tracker) → is_map_tracker tracker ≡ true → tracker ≡ as_entries (EntriesKind.Map (base_of_tracker tracker))
map_tracker (as_entries (EntriesKind.Map base)) e = refl
map_tracker _ e = cc

maps_same : (def : Def) (t u : Tree) → LookSame def t u → is_map t ≡ is_map u
maps_same def entered entered look = refl
maps_same def (whole v) (whole w) look = refl
maps_same def (begun tracker ts) (begun other us) look = ap is_map_tracker look.0
maps_same def (whole v) (begun other us) look = sym (ap is_map_tracker look.0)
maps_same def (begun other us) (whole v) look = ap is_map_tracker look.0
maps_same def hole u look = absurd look
maps_same def _ _ look = absurd look

-- two maps
pub record BothMaps (table : Table) (s : ℕ) (t u : Tree) : Type 0 where
  pub base : ℕ
  pub ts : Trees
  pub us : Trees
  pub left : t ≡ begun (as_entries (EntriesKind.Map base)) ts
  pub right : u ≡ begun (as_entries (EntriesKind.Map base)) us
  pub holes : HaveSameHoles ts us
  pub full : IsRightAs table s (as_entries (EntriesKind.Map base)) (count_trees ts)

both_maps : (table : Table) (s : ℕ) (t u : Tree) → LookSame (def_of table s) t u → IsRight table s t → is_map t ≡ true → BothMaps table s t u
both_maps table s (begun tracker ts) (begun other us) look right map =
    let is = map_tracker tracker map in
    record {
      base = base_of_tracker tracker;
      ts = ts;
      us = us;
      left = ap (λ (known : Tracker). begun known ts) is;
      right = ap (λ (known : Tracker). begun known us) (sym look.0 ∙ is);
      holes = look.1;
      full = subst (λ (known : Tracker). IsRightAs table s known (count_trees ts)) is right;
    }
both_maps table s (begun tracker ts) (whole v) look right map = let none = rw look.0 at map in cc
both_maps table s (begun tracker ts) hole look right map = absurd look
both_maps table s (begun tracker ts) entered look right map = absurd look
both_maps table s hole u look right map = cc
both_maps table s entered u look right map = cc
both_maps table s (whole v) u look right map = cc

one_more_entry : (table : Table) (s base count : ℕ) → IsRightAs table s (as_entries (EntriesKind.Map base)) count
    → IsRightAs table s (as_entries (EntriesKind.Map base)) (suc (suc count))
one_more_entry table s base count right = (go (def_of table s) right.0, tt)
  where
    go : (def : Def) → HasEntries def (EntriesKind.Map base) count → HasEntries def (EntriesKind.Map base) (suc (suc count))
    go (Def.Map key item) even = even
    go _ even = absurd even

-- No proxies

pub unproxied : (format : Option (List ℕ)) (proxy : Option ProxyDef) (formatted : List FormatProxy) → is_nil (proxies_of proxy formatted) ≡ true
    → proxy_for format proxy formatted ≡ None
unproxied None None formatted none = refl
unproxied (Some format) None [] none = refl
unproxied (Some format) None (one ∷ others) none = cc
unproxied format (Some proxy) formatted none = cc

field_refused : (format : Option (List ℕ)) (field : Option Field) → field_has_proxies field ≡ false
    → (operation : Operation) × (proxy_of_field format field ≡ Err operation)
field_refused format None none = (_, refl)
field_refused format (Some field) none = (Operation.FieldWithoutProxy, rw none refl)

module _ (table : Table) (s : ℕ) (one other : State)
    (look : LookSame (def_of table s) (cursor_tree one) (cursor_tree other))
    (right : IsRight table s (cursor_tree one)) (right' : IsRight table s (cursor_tree other))
    (static : is_dynamic (def_of table s) ≡ false) where
  abbrev def : Def
  def = def_of table s

  abbrev t : Tree
  t = cursor_tree one

  abbrev u : Tree
  u = cursor_tree other

  abbrev Both : Result State ReflectErrorKind → Result State ReflectErrorKind → Type 0
  Both = BothDo table s one other

  item_does : BothTake table s t u → Both (Ok (enters table s one Way.Item)) (Ok (enters table s other Way.Item))
  item_does takes =
      let x = fresh (def_of table (child_as table s takes.tracker (count_trees takes.ts))) in
      both_enter table s one other Way.Item Way.Item (count_trees takes.ts) (begun takes.tracker (and_last takes.ts x)) (begun takes.tracker (and_last takes.us x))
      (ap count_below takes.left) (ap count_below takes.right ∙ sym takes.count) (ap (with_item table s) takes.left)
      (ap (with_item table s) takes.right
      ∙ ap (λ (n : ℕ). begun takes.tracker (and_last takes.us (fresh (def_of table (child_as table s takes.tracker n))))) (sym takes.count))
      (adds takes.tracker takes.ts takes.us x takes.shut takes.left takes.right takes.full_as refl refl refl refl)

  pub list_item_does : Both (begin_list_item table s one) (begin_list_item table s other)
  list_item_does = go (item_case table s t u look right)
    where
      go : ItemCase table s t u → Both (begin_list_item table s one) (begin_list_item table s other)
      go (both_take takes none none') = rw (none, none') (item_does takes)
      go (neither_takes operation another some some') = rw (some, some') tt

  pub set_item_does : Both (begin_set_item table s one) (begin_set_item table s other)
  set_item_does = go def refl (is_set t) refl
    where
      go : (d : Def) → def ≡ d → (b : Bool) → is_set t ≡ b
          → Both (unless_refused (at_shape s (set_item_refusal def t)) (enters table s one Way.Item))
          (unless_refused (at_shape s (set_item_refusal def u)) (enters table s other Way.Item))
      go (Def.Set item) e true set =
          rw (e, set, sym (sets_same def t u look) ∙ set) (item_does (both_sets table s t u look right set))
      go (Def.Set item) e false set = rw (e, set, sym (sets_same def t u look) ∙ set) tt
      go _ e b set = rw e tt

  key_adds : BothMaps table s t u → Both (Ok (enters table s one Way.Key)) (Ok (enters table s other Way.Key))
  key_adds maps =
      let tracker = as_entries (EntriesKind.Map maps.base) in
      let x = fresh (def_of table (child_as table s tracker (count_trees maps.ts))) in
      both_enter table s one other Way.Key Way.Key (count_trees maps.ts) (begun tracker (and_last (and_last maps.ts x) hole))
      (begun tracker (and_last (and_last maps.us x) hole)) (ap count_below maps.left) (ap count_below maps.right ∙ sym maps.holes.count)
      (ap (with_key table s) maps.left)
      (ap (with_key table s) maps.right
      ∙ ap (λ (n : ℕ). begun tracker (and_last (and_last maps.us (fresh (def_of table (child_as table s tracker n)))) hole)) (sym maps.holes.count))
      (adds_entry tracker maps.ts maps.us x refl maps.left maps.right (one_more_entry table s maps.base _ maps.full) refl refl refl refl)

  lacks_same : BothMaps table s t u → lacks_value t ≡ lacks_value u
  lacks_same maps = ap lacks_value maps.left ∙ ends_same maps.ts maps.us maps.holes ∙ sym (ap lacks_value maps.right)

  pub key_does : Both (begin_key table s one) (begin_key table s other)
  key_does = go (is_map t) refl (lacks_value t) refl
    where
      go : (b : Bool) → is_map t ≡ b → (lacks : Bool) → lacks_value t ≡ lacks → Both (begin_key table s one) (begin_key table s other)
      go true map true lacks =
          rw (map, sym (maps_same def t u look) ∙ map, lacks, sym (lacks_same (both_maps table s t u look right map)) ∙ lacks) tt
      go true map false lacks =
          rw (map, sym (maps_same def t u look) ∙ map, lacks, sym (lacks_same (both_maps table s t u look right map)) ∙ lacks)
          (key_adds (both_maps table s t u look right map))
      go false map lacks e = rw (map, sym (maps_same def t u look) ∙ map) tt

  value_enters : BothMaps table s t u → lacks_value t ≡ true → is_hole_in (last_of (count_below t)) t ≡ true
      → Both (Ok (enters table s one (Way.Value (last_of (count_below t))))) (Ok (enters table s other (Way.Value (last_of (count_below u)))))
  value_enters maps lacks there =
      let tracker = as_entries (EntriesKind.Map maps.base) in
      let i = last_of (count_trees maps.ts) in
      let number : last_of (count_below t) ≡ i = ap (λ (w : Tree). last_of (count_below w)) maps.left in
      let number' : last_of (count_below u) ≡ i = ap (λ (w : Tree). last_of (count_below w)) maps.right ∙ ap last_of (sym maps.holes.count) in
      let x = fresh (def_of table (child_as table s tracker i)) in
      let at : tree_nth i maps.ts ≡ hole
      = is_a_hole _ (subst (λ (w : Tree). is_hole_in (last_of (count_below w)) w ≡ true) maps.left there) in
      let at' : tree_nth i maps.us ≡ hole = is_a_hole _ (sym (maps.holes.each i) ∙ ap is_hole at) in
      let ends : ends_in_hole maps.ts ≡ true = subst (λ (w : Tree). lacks_value w ≡ true) maps.left lacks in
      both_enter table s one other (Way.Value (last_of (count_below t))) (Way.Value (last_of (count_below u))) i
      (begun tracker (change_nth i (λ old. x) maps.ts)) (begun tracker (change_nth i (λ old. x) maps.us)) number number'
      (ap₂ (λ (j : ℕ) (w : Tree). enter_child table s j w) number maps.left
      ∙ ap (begun tracker) (nth_same i (enter (def_of table (child_as table s tracker i))) (λ old. x) maps.ts
      (ap (enter (def_of table (child_as table s tracker i))) at)))
      (ap₂ (λ (j : ℕ) (w : Tree). enter_child table s j w) number' maps.right
      ∙ ap (begun tracker) (nth_same i (enter (def_of table (child_as table s tracker i))) (λ old. x) maps.us
      (ap (enter (def_of table (child_as table s tracker i))) at')))
      (fills_one tracker maps.ts maps.us i x refl (inr (maps.left, maps.right)) maps.full (last_below maps.ts ends) at at' (as_fresh refl refl) refl refl)

  pub value_does : enters_hole table s one (last_of (count_below t)) ≡ true → Both (begin_value table s one) (begin_value table s other)
  value_does there = go (is_map t) refl (lacks_value t) refl
    where
      go : (b : Bool) → is_map t ≡ b → (lacks : Bool) → lacks_value t ≡ lacks → Both (begin_value table s one) (begin_value table s other)
      go true map true lacks =
          let maps = both_maps table s t u look right map in
          rw (map, sym (maps_same def t u look) ∙ map, lacks, sym (lacks_same maps) ∙ lacks)
          (value_enters maps lacks (subst (λ (w : Tree). is_hole_in (last_of (count_below t)) w ≡ true) (no_source table s t right) there))
      go true map false lacks =
          rw (map, sym (maps_same def t u look) ∙ map, lacks, sym (lacks_same (both_maps table s t u look right map)) ∙ lacks) tt
      go false map lacks e = rw (map, sym (maps_same def t u look) ∙ map) tt

  pub object_entry_does : (key : List ℕ) → Both (begin_object_entry table s one key) (begin_object_entry table s other key)
  object_entry_does key = go def refl
    where
      go : (d : Def) → def ≡ d → Both (begin_object_entry table s one key) (begin_object_entry table s other key)
      go Def.Dynamic e = let none = rw e at static in cc
      go _ e = rw e tt

  -- Sources

  pub inner_does : convert_in (slice_get table s) ≡ None → t ≡ entered → Both (begin_inner table s one) (begin_inner table s other)
  inner_does unconverted is = rw unconverted (go (source_in (slice_get table s)))
    where
      is' : u ≡ entered
      is' = entered_too def t u look is

      anew : ChildOf def 0 (fresh def) → Does table s t u (0 ∷ []) (enter_child table s 0 (fresh def)) (enter_child table s 0 (fresh def))
      anew child =
          fresh_is (λ (w : Tree). ChildOf def 0 w → Does table s t u (0 ∷ []) (enter_child table s 0 w) (enter_child table s 0 w)) def
          (λ empty child. absurd (none child empty)) (λ full child. rw (is, is') (put_does table s 0 (0 ∷ [])
          (enter (def_of table (child_as table s (tracker_of def) 0))) (fresh (def_of table (child_as table s (tracker_of def) 0)))
          entered entered tt tt tt child refl refl
          (λ tracker e. as_fresh refl (ap (λ (known : Tracker). fresh (def_of table (child_as table s known 0))) e)))) child
        where
          none : ChildOf def 0 (whole (product no_vals)) → is_empty_struct def ≡ true → ⊥
          none (field_of struct e below) empty =
              let nil : is_nil struct.fields ≡ true = rw e at empty in
              let count : length struct.fields ≡ 0 = ap length (nil_is struct.fields nil) in
              omega (arith, count, below)
          none (element_of item n e below few not_whole) empty = not_whole
          none (variant_field_of k enumeration e chosen below) empty = cc

      by_case : ChildCase def 0 (fresh def) → (source : ShapeId) → Both (begins_inner table s one (Some source) None) (begins_inner table s other (Some source) None)
      by_case (a_child child free may) source = rw free (both_enter table s one other (Way.Anew 0) (Way.Anew 0) 0 _ _ refl refl refl refl (anew child))
      by_case (a_variant_child k child free chosen) source =
          rw free (both_enter table s one other (Way.Anew 0) (Way.Anew 0) 0 _ _ refl refl refl refl (anew child))
      by_case (no_child operation some may) source = rw some tt

      go : (source : Option ShapeId) → Both (begins_inner table s one source None) (begins_inner table s other source None)
      go None = tt
      go (Some source) = by_case (child_case def 0 (fresh def)) source

  pub custom_does : (format : Option (List ℕ)) (field field' : Option Field) → field_has_proxies field ≡ false → field_has_proxies field' ≡ false
      → Both (begins_by_proxy table s one (proxy_of_field format field)) (begins_by_proxy table s other (proxy_of_field format field'))
  custom_does format field field' none none' =
      rw ((field_refused format field none).1, (field_refused format field' none').1) tt

  pub shape_does : (format : Option (List ℕ)) (field field' : Option Field) → ((given : Option (List ℕ)) → proxy_of_shape given (slice_get table s) ≡ None)
      → field_has_proxies field ≡ false → field_has_proxies field' ≡ false
      → Both (Ok (begins_if_proxied table s one (proxy_at table s field format))) (Ok (begins_if_proxied table s other (proxy_at table s field' format)))
  shape_does format field field' no_proxy none none' =
      rw (none, none', no_proxy format) (record {
        way = [];
        m = t;
        n = u;
        is = nothing refl refl refl;
        left = unchanged one;
        right = unchanged other;
      })
    where
      unchanged : (state : State) → ◌≡◌ {A = State} (record state { calls = one_more_call state.calls }) (does state [] (cursor_tree state))
      unchanged state =
          ap₂ (λ (tree : Tree) (here : Place). record state { tree = tree; cursor = here; calls = one_more_call state.calls })
          (sym (change_none state.cursor state.tree)) (sym (append-nil state.cursor))
