-- What a site sees of the place at which it works, as its table and its slots tell it.
use Rattle.std.proofs.Common.{◌≡◌, ℕ, Bool, true, false, Some, None, refl, sym, ◌∙◌, ap, if◌then◌else◌}
use Rattle.fr_work.specs.Common.{HasItems, Mode, Operation, ShapeId, Site, Table, Tracker, Tree, beginning_in, cursor_tree, def_of, field_refusal, init_array_refusal, init_list_refusal, init_map_refusal, init_set_refusal, is_dynamic, is_map, item_refusal, lacks_value, named_refusal, selected, set_item_refusal, shape_at, value_refusal}
use Rattle.fr_model.specs.Collections.{key_refusal}
use Rattle.fr_refusals.specs.KeyRefusals.{key_refusal_by, value_refusal_by}
pub use Rattle.fr_work.specs.LooksHere.{Sees}
use Rattle.fr_moves.specs.LookLaws.{alike_by, AsBegun}
use Rattle.fr_work.proofs.ChildrenByLooks.{begun_array, begun_in, begun_named, begun_refusal, begun_set_item, items_alike}

-- of a map it is known whether its last child is there; where there is no map, that doesn't matter
where_map : {X : Type 0} (of_map lacks there : Bool) (by_child : Bool → X) (otherwise : X) → (of_map ≡ true → lacks ≡ there)
    → (if of_map then by_child lacks else otherwise) ≡ (if of_map then by_child there else otherwise)
where_map true lacks there by_child otherwise told = ap by_child (told refl)
where_map false lacks there by_child otherwise told = refl

-- the shape's number is the shape
pub shape_of_number : (site : Site) (shape : ShapeId) → shape.0 ≡ shape_at site
    → ◌≡◌ {A = ShapeId} (record { 0 = shape_at site }) shape
shape_of_number site shape e = ap (λ (n : ℕ). record { 0 = n }) (sym e)

module _ {site : Site} {table : Table} {shape : ShapeId} {seen : Tree} (at : Sees site table shape seen) where
  -- what is told by them is true of the site
  abbrev pub IsSeen : {A : Type 0} → (Table → ℕ → Tree → A) → Type 0
  IsSeen f = f table shape.0 seen ≡ f site.shapes (shape_at site) (cursor_tree site.state)

  -- whatever goes by the looks alone
  pub seen_by : {A : Type 0} (f : Table → ℕ → Tree → A) → ((table : Table) (s : ℕ) → AsBegun (f table s)) → IsSeen f
  seen_by f same =
      alike_by (f table shape.0) (same table shape.0) seen (cursor_tree site.state) at.looks
      ∙ ap (λ (t : Table). f t shape.0 (cursor_tree site.state)) at.table_is
      ∙ ap (λ (s : ℕ). f site.shapes s (cursor_tree site.state)) at.shape_is

  pub shape_seen : ◌≡◌ {A = ShapeId} (record { 0 = shape_at site }) shape
  shape_seen = shape_of_number site shape at.shape_is

  pub def_seen : IsSeen (λ table s tree. def_of table s)
  def_seen = seen_by (λ table s tree. def_of table s) (λ table s tracker ts. refl)

  pub dynamic_seen : IsSeen (λ table s tree. is_dynamic (def_of table s))
  dynamic_seen = ap is_dynamic def_seen

  pub refusal_seen : (i : ℕ) → IsSeen (λ table s tree. field_refusal (def_of table s) tree i)
  refusal_seen i = seen_by (λ table s tree. field_refusal (def_of table s) tree i) (λ table s. begun_refusal i (def_of table s))

  pub named_seen : IsSeen (λ table s. named_refusal (def_of table s))
  named_seen = seen_by (λ table s. named_refusal (def_of table s)) (λ table s. begun_named (def_of table s))

  pub selected_seen : selected seen ≡ selected (cursor_tree site.state)
  selected_seen = seen_by (λ table s. selected) (λ table s tracker ts. refl)

  pub in_seen : (mode : Mode) (tracker : Tracker) → beginning_in mode tracker seen ≡ beginning_in mode tracker (cursor_tree site.state)
  in_seen mode tracker = seen_by (λ table s. beginning_in mode tracker) (λ table s. begun_in mode tracker)

  pub list_seen : IsSeen (λ table s. init_list_refusal s (def_of table s))
  list_seen = seen_by (λ table s. init_list_refusal s (def_of table s)) (λ table s tracker ts. refl)

  pub map_seen : IsSeen (λ table s. init_map_refusal s (def_of table s))
  map_seen = seen_by (λ table s. init_map_refusal s (def_of table s)) (λ table s tracker ts. refl)

  pub set_seen : IsSeen (λ table s. init_set_refusal s (def_of table s))
  set_seen = seen_by (λ table s. init_set_refusal s (def_of table s)) (λ table s tracker ts. refl)

  pub array_seen : IsSeen (λ table s. init_array_refusal (def_of table s))
  array_seen = seen_by (λ table s. init_array_refusal (def_of table s)) (λ table s. begun_array (def_of table s))

  pub item_seen : IsSeen (λ table s. item_refusal (def_of table s))
  item_seen = seen_by (λ table s. item_refusal (def_of table s)) (λ table s tracker ts. refl)

  pub set_item_seen : IsSeen (λ table s. set_item_refusal (def_of table s))
  set_item_seen = seen_by (λ table s. set_item_refusal (def_of table s)) (λ table s. begun_set_item (def_of table s))

  -- where it is known whether the last child is there
  module _ (lacks : Bool) (told : is_map (cursor_tree site.state) ≡ true → lacks ≡ lacks_value (cursor_tree site.state)) where
    pub key_seen : key_refusal_by seen lacks ≡ key_refusal (cursor_tree site.state)
    key_seen =
        seen_by (λ table s tree. key_refusal_by tree lacks) (λ table s tracker ts. refl)
        ∙ where_map (is_map (cursor_tree site.state)) lacks (lacks_value (cursor_tree site.state))
        (λ (b : Bool). if b then Some Operation.KeyBeforeValue else None) (Some Operation.KeyBeforeInitMap) told

    pub value_seen : value_refusal_by seen lacks ≡ value_refusal (cursor_tree site.state)
    value_seen =
        seen_by (λ table s tree. value_refusal_by tree lacks) (λ table s tracker ts. refl)
        ∙ where_map (is_map (cursor_tree site.state)) lacks (lacks_value (cursor_tree site.state))
        (λ (b : Bool). if b then None else Some Operation.ValueBeforeKey) (Some Operation.ValueBeforeKey) told

  pub items_seen : (tracker : Tracker) (count : ℕ) → HasItems tracker count seen → HasItems tracker count (cursor_tree site.state)
  items_seen tracker count has = items_alike seen (cursor_tree site.state) at.looks tracker count has
