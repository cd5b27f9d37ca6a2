-- An item that is entered into a list: it gets its room and its slot at once.
use Rattle.std.proofs.Common.{◌≡◌, ℕ, true, List, [], ◌∷◌, ◌++◌, length, Option, Some, None, IsSomeAnd, slice_get, option_map, refl, sym, ◌∙◌, ap, subst}
use Rattle.std.proofs.lemmas.List.{set_at}
use Rattle.fr_frame.specs.Common.{Body, Cell, FrameOwner, Heap, Node, NodeId, Plan, SlotId, Table, TypePlanNode, absent, added, begun_body, cell_at, count_cells, def_of, held_by, is_list_body, linked, links, option_and_then, placed, shape_of, unwrap_or, with_body, with_placed, with_slot}
use Rattle.fr_plan.specs.Lookups.{node_at}
use Rattle.fr_frame.specs.declared.places.Growth.{Growth}
use Rattle.fr_values.specs.Cells.{held_value}
use Rattle.fr_frame.specs.Growing.{grown_above, MayGrow, MayGrowAbove}
use Rattle.fr_frame.specs.Bodies.{fresh_body, linked_by}
use Rattle.fr_frame.proofs.HeapLaws.{with_body_twice, with_here}

last_there : {X : Type 0} → (xs : List X) (x : X) → slice_get (xs ++ x ∷ []) (length xs) ≡ Some x
last_there [] x = refl
last_there (y ∷ xs) x = last_there xs x

-- the child that was added isn't there
held_last : (body : Body) → is_list_body body ≡ true → cell_at (added body) (count_cells body) ≡ Some absent
held_last (begun_body tracker cells) list = last_there cells absent
held_last _ list = cc

linked_last : (id : ℕ) (body : Body) → is_list_body body ≡ true → linked id (count_cells body) (added body) ≡ with_placed id body
linked_last id (begun_body tracker cells) list =
    ap (linked_by id (length cells) (begun_body tracker (cells ++ absent ∷ []))) (last_there cells absent)
    ∙ ap (begun_body tracker) (set_at cells absent [] (placed id) (length cells) refl)
linked_last id _ list = cc

-- what is the same change at a place is the same
same_change : (heap : Heap) (n : ℕ) (one other : Body → Body) → IsSomeAnd (heap n) (λ (x : Node). one x.body ≡ other x.body)
    → with_body heap n one ≡ with_body heap n other
same_change heap n one other same = ap (with_slot heap n) (go (heap n) same)
  where
    go : (found : Option Node) → IsSomeAnd found (λ (x : Node). one x.body ≡ other x.body)
        → option_map (λ (x : Node). record x { body = one x.body }) found ≡ option_map (λ (x : Node). record x { body = other x.body }) found
    go (Some x) e = ap (λ (b : Body). Some (record x { body = b })) e
    go None e = absurd e

-- The list in a slot, and the number of its next item.
module _ (heap : Heap) (parent : SlotId) (i : ℕ) (next : IsSomeAnd (heap parent.0) (λ (above : Node). (i ≡ count_cells above.body) × MayGrow Growth.Item above.body))
    (list : IsSomeAnd (heap parent.0) (λ (above : Node). is_list_body above.body ≡ true)) where
  pub item_linked : (id : ℕ) → links (FrameOwner.Child parent i) id (with_body heap parent.0 added) ≡ with_body heap parent.0 (with_placed id)
  item_linked id =
      with_body_twice heap parent.0 added (linked id i)
      ∙ same_change heap parent.0 (λ body. linked id i (added body)) (with_placed id) (go (heap parent.0) next list)
    where
      go : (found : Option Node) → IsSomeAnd found (λ (above : Node). (i ≡ count_cells above.body) × MayGrow Growth.Item above.body)
          → IsSomeAnd found (λ (above : Node). is_list_body above.body ≡ true)
          → IsSomeAnd found (λ (above : Node). linked id i (added above.body) ≡ with_placed id above.body)
      go (Some above) e is = ap (λ (n : ℕ). linked id n (added above.body)) e.0 ∙ linked_last id above.body is
      go None e is = absurd e

  pub item_unheld : None ≡ held_value (held_by (with_body heap parent.0 added) (FrameOwner.Child parent i))
  item_unheld = go (heap parent.0) next list ∙ sym (ap (λ (x : Option Node). held_value (cell_in x)) (with_here heap parent.0 _))
    where
      cell_in : Option Node → Option Cell
      cell_in x = option_and_then (λ (at : Node). cell_at at.body i) x

      go : (found : Option Node) → IsSomeAnd found (λ (above : Node). (i ≡ count_cells above.body) × MayGrow Growth.Item above.body)
          → IsSomeAnd found (λ (above : Node). is_list_body above.body ≡ true)
          → None ≡ held_value (cell_in (option_map (λ (above : Node). record above { body = added above.body }) found))
      go (Some above) e is = sym (ap held_value (ap (cell_at (added above.body)) e.0 ∙ held_last above.body is))
      go None e is = absurd e

-- The same, as it is known where the item is taken in.
module _ (growth : Option Growth) (owner : FrameOwner) (heap : Heap) (parent : SlotId) (i : ℕ) (item : growth ≡ Some Growth.Item)
    (child : owner ≡ FrameOwner.Child parent i) (may : MayGrowAbove growth owner heap)
    (list : IsSomeAnd (heap parent.0) (λ (above : Node). is_list_body above.body ≡ true)) where
  next : IsSomeAnd (heap parent.0) (λ (above : Node). (i ≡ count_cells above.body) × MayGrow Growth.Item above.body)
  next = subst (λ (g : Option Growth). MayGrowAbove g (FrameOwner.Child parent i) heap) item
      (subst (λ (o : FrameOwner). MayGrowAbove growth o heap) child may)

  grown_is : grown_above growth owner heap ≡ with_body heap parent.0 added
  grown_is = ap (λ (g : Option Growth). grown_above g owner heap) item ∙ ap (λ (o : FrameOwner). grown_above (Some Growth.Item) o heap) child

  pub linked_in : (id : ℕ) → with_body heap parent.0 (with_placed id) ≡ links owner id (grown_above growth owner heap)
  linked_in id =
      sym (ap (links owner id) grown_is ∙ ap (λ (o : FrameOwner). links o id (with_body heap parent.0 added)) child
      ∙ item_linked heap parent i next list id)

  pub unheld_in : None ≡ held_value (held_by (grown_above growth owner heap) owner)
  unheld_in =
      item_unheld heap parent i next list ∙ sym (ap (λ (now : Heap). held_value (held_by now owner)) grown_is
      ∙ ap (λ (o : FrameOwner). held_value (held_by (with_body heap parent.0 added) o)) child)

-- what is put at a place that is just entered, of a node that is found in the plan
pub fresh_by : (table : Table) (plan : Plan) (id : NodeId) (node : TypePlanNode) (body : Body) → node_at plan id ≡ Some node
    → body ≡ fresh_body (def_of table node.shape.0) → body ≡ fresh_body (def_of table (shape_of plan id))
fresh_by table plan id node body found is =
    is ∙ sym (ap (λ (n : Option TypePlanNode).
    fresh_body (def_of table (unwrap_or (option_map (λ (x : TypePlanNode). x.shape) n) (record { 0 = 0 })).0)) found)
