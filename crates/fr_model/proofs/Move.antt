-- The moves: what an admitted command does to the place at the cursor. What becomes of it suits its shape, rests, and holds what it held
-- and what the command brought, but for what is dropped. Those that enter or begin something.
use Rattle.std.proofs.Common.{◌≡◌, ◌+◌, ◌<◌, ◌∷◌, ◌++◌, if◌then◌else◌}
use Rattle.fr_model.proofs.Common.{ConversionSuits, ConversionsSuit, begins_array, without_source, above, source_kept, enters_source, begins_if_proxied, dropped_with_source, dropped_by_proxy, by_proxy, proxy_at, cursor_field, is_begun_conversion, Conversion, puts_child, fresh, begun, ℕ, true, false, [], length, Option, Some, None, refl, Meanings, Table, Val, Call, Place, Column, is_root, Tree, change_at, Mode, strict, deferred, State, cursor_shape, cursor_tree, one_more_call, tree_occurs, complete, finished, puts, puts_and_leaves, leaves, is_set_item, takes_item, is_dynamic_part, brings, replaced, dropped_unless, is_open_slice, RestsAround, number_in, dropped_by_completing, up, dropped_with_item, IsFitting, tree_at, BeganAbove, List, def_of, content_anew, strict_column, Tracker, count_below, Way, enters, at_shape, opens, becomes, init_array_refusal, Bool, unwrap_or, sym, ◌∙◌, ap, subst, arith, Def, with_key, entry_number, with_entry, with_item, child_count, opened, enter_child, put_child, tracker_of, tracker_at, count_trees, Suits, AtCursor, IsInOrder, Field, field_in, as_content, ContentKind, selected}
use Rattle.fr_model.proofs.Becoming.{Placed, lost, Becoming, content_becomes, source_holds}
use Rattle.fr_model.proofs.Basis.{MayGoUp, entry, without_source_is, without_source_at, without_source_suits, without_source_apart, fresh_apart, fresh_suits, fresh_at_cursor, fresh_holds, fresh_rests, rests_here, defers, at_cursor, suits_at, Enterable, enterable_apart, opening, opened_rests, enter_child_rests, item_rests, key_rests, template_holds, opened_holds, enter_child_holds}
use Rattle.fr_model.proofs.StepsAlike.{finishes_as}
use Rattle.fr_model.proofs.Templates.{IsTemplate}
use Rattle.fr_shape.specs.Hooks.{IsLawful}
use Rattle.fr_model.proofs.BegunItems.{TakesAnItem, array_opens, item_placed, item_holds}
use Rattle.fr_model.proofs.Converts.{fresh_converts, opened_converts, enter_child_converts, put_child_converts, item_converts, key_converts, entry_converts}
use Rattle.fr_model.proofs.Conversions.{MayConvert, shape_proxy_may}
use Rattle.fr_model.proofs.Defaulting.{putting, field_there}
use Rattle.fr_shape.specs.declared.shape.ProxyDef.{ProxyDef}
use Rattle.fr_model.proofs.Collections.{IsMap, key_placed, key_holds}
use Rattle.fr_model.proofs.Dynamics.{IsObject, entry_placed, entry_holds, entry_rests}
use Rattle.fr_model.proofs.Children.{ChildOf, without_source_child, without_source_selects, enterable}

-- the state in which the place at the cursor has become another
abbrev pub changed : State → (Tree → Tree) → State
changed state change = record state { tree = change_at state.cursor change state.tree; calls = one_more_call state.calls }

-- a place may end where deferred mode began above it
abbrev pub EndsBelow : Mode → Place → Type 0
EndsBelow strict cursor = Unit {0}
EndsBelow (deferred start) cursor = start < length cursor

-- the state in which the place at the cursor has become another, to whose child i the cursor went
abbrev pub moved : State → ℕ → (Tree → Tree) → State
moved state i change = record state {
  tree = change_at state.cursor change state.tree;
  cursor = state.cursor ++ i ∷ [];
  calls = one_more_call state.calls;
}

-- what becomes of the place at the cursor holds what it held and what the command brings, but for what that drops
abbrev pub HoldsAll : Meanings → Table → (root : ℕ) → State → Call → Tree → Type 0
HoldsAll hooks table root state command after =
    (t : ℕ) → tree_occurs after t + replaced hooks table root (cursor_shape table root state) state command t
    ≡ tree_occurs (cursor_tree state) t + brings command t

-- what becomes of the place at the cursor has no conversions but such as there are to their places, if what stood there had none
abbrev pub KeepsConversions : Table → (root : ℕ) → State → Tree → Type 0
KeepsConversions table root state after =
    ConversionsSuit table (cursor_shape table root state) (cursor_field table root state) (cursor_tree state)
    → ConversionsSuit table (cursor_shape table root state) (cursor_field table root state) after

-- The moves: the place at the cursor becomes another, and the cursor stays, or goes to a child of it; nothing is changed; the place is
-- completed and the cursor goes up, or its set takes it, or the conversion above it is made; it is left as it is; a value that was parsed is put there; or deferred mode begins or ends.
pub data Move (hooks : Meanings) (table : Table) (root : ℕ) (state : State) : Call → State → Type 0 where
  stays : (command : Call) (change : Tree → Tree)
      → (IsLawful hooks → IsFitting table command
      → Placed state.mode table (cursor_shape table root state) [] (change (cursor_tree state)))
      → (IsLawful hooks → HoldsAll hooks table root state command (change (cursor_tree state)))
      → (RestsAround [] (cursor_tree state) → RestsAround [] (change (cursor_tree state)))
      → KeepsConversions table root state (change (cursor_tree state))
      → Move hooks table root state command (changed state change)
  goes_on : (command : Call) (i : ℕ) (change : Tree → Tree)
      → Placed state.mode table (cursor_shape table root state) (i ∷ []) (change (cursor_tree state))
      → HoldsAll hooks table root state command (change (cursor_tree state))
      → (RestsAround [] (cursor_tree state) → RestsAround (i ∷ []) (change (cursor_tree state)))
      → KeepsConversions table root state (change (cursor_tree state))
      → Move hooks table root state command (moved state i change)
  is_same : (command : Call) → ((t : ℕ) → replaced hooks table root (cursor_shape table root state) state command t ≡ 0)
      → ((t : ℕ) → brings command t ≡ 0)
      → Move hooks table root state command (record state { calls = one_more_call state.calls })
  goes_up : (column : Column) (v : Val) → BeganAbove state.mode (up state.cursor) → MayGoUp state.mode state.cursor state.tree
      → is_set_item state ≡ false
      → complete column hooks table (cursor_shape table root state) (cursor_tree state) ≡ Some v
      → ((t : ℕ) → replaced hooks table root (cursor_shape table root state) state Call.End t
      ≡ dropped_by_completing column hooks table (cursor_shape table root state) (cursor_tree state) t)
      → Move hooks table root state Call.End (puts_and_leaves state v)
  is_taken : (column : Column) (v : Val) → BeganAbove state.mode (up state.cursor) → is_root state.cursor ≡ false
      → is_set_item state ≡ true → complete column hooks table (cursor_shape table root state) (cursor_tree state) ≡ Some v
      → ((t : ℕ) → replaced hooks table root (cursor_shape table root state) state Call.End t
      ≡ dropped_by_completing column hooks table (cursor_shape table root state) (cursor_tree state) t
      + dropped_with_item (number_in state.cursor) (tree_at (up state.cursor) state.tree) (Some v) t)
      → Move hooks table root state Call.End (takes_item state v)
  is_converted : (v : Val) → state.mode ≡ strict → is_root state.cursor ≡ false
      → complete strict_column hooks table (cursor_shape table root (above state)) (cursor_tree (above state)) ≡ Some v
      → ((t : ℕ) → replaced hooks table root (cursor_shape table root state) state Call.End t
      ≡ dropped_by_completing strict_column hooks table (cursor_shape table root (above state)) (cursor_tree (above state)) t)
      → Move hooks table root state Call.End (puts (above state) v)
  stays_behind : (start : ℕ) → state.mode ≡ deferred start → start < length state.cursor
      → is_open_slice (cursor_tree state) ≡ false → is_set_item state ≡ false → is_dynamic_part state ≡ false
      → ((t : ℕ) → replaced hooks table root (cursor_shape table root state) state Call.End t ≡ 0)
      → Move hooks table root state Call.End (leaves state)
  is_parsed : (command : Call) (v : Val) → (IsLawful hooks → IsTemplate table (cursor_shape table root state) v)
      → ((t : ℕ) → replaced hooks table root (cursor_shape table root state) state command t ≡ tree_occurs (cursor_tree state) t)
      → ((t : ℕ) → brings command t ≡ 0) → Move hooks table root state command (puts state v)
  is_deferred : state.mode ≡ strict → Move hooks table root state Call.BeginDeferred (defers state)
  is_over : (tree : Tree) → finished hooks table root state.cursor state.tree ≡ Some tree
      → Move hooks table root state Call.FinishDeferred (finishes_as state tree)

-- it becomes another, whatever the hooks mean
pub stays_at : {hooks : Meanings} {table : Table} {root : ℕ} {state : State} (command : Call) (change : Tree → Tree)
    → (IsFitting table command → Placed state.mode table (cursor_shape table root state) [] (change (cursor_tree state)))
    → HoldsAll hooks table root state command (change (cursor_tree state))
    → (RestsAround [] (cursor_tree state) → RestsAround [] (change (cursor_tree state)))
    → KeepsConversions table root state (change (cursor_tree state))
    → Move hooks table root state command (changed state change)
stays_at command change placed hold rest converts = stays command change (λ lawful. placed) (λ lawful. hold) rest converts

pub lost_is : (kept : Option Tree) (state : State) (t : ℕ) → dropped_unless kept state t ≡ lost kept (cursor_tree state) t
lost_is (Some tree) state t = refl
lost_is None state t = refl

-- an array that is a conversion may be begun where it has started anew
array_anew_may : (s : ℕ) (def : Def) (t : Tree) → at_shape s (init_array_refusal def t) ≡ None → is_begun_conversion t ≡ true
    → at_shape s (init_array_refusal def (fresh def)) ≡ None
array_anew_may s (Def.Array item n) (begun tracker ts) may conversion = may
array_anew_may s (Def.Array item n) _ may conversion = cc
array_anew_may s _ t may conversion = cc

module _ (hooks : Meanings) (table : Table) (root : ℕ) (state : State)
    (order : IsInOrder table root state) where
  abbrev here : ℕ
  here = cursor_shape table root state

  abbrev def : Def
  def = def_of table here

  abbrev tree : Tree
  tree = cursor_tree state

  abbrev field : Option Field
  field = cursor_field table root state

  suits_here : Suits table here tree
  suits_here = suits_at state.mode table root state.cursor state.tree order.leads order.suits

  at_here : AtCursor state.mode tree
  at_here = at_cursor state.mode state.cursor state.tree order.leads

  placed_here : Placed state.mode table here [] tree
  placed_here = record { suits = suits_here; leads = at_here }

  -- a child of what a place has become is entered
  pub enters_by : (command : Call) (i : ℕ) (from : Tree → Tree) → Enterable table here i (from tree) → AtCursor state.mode (from tree)
      → Suits table here (from tree) → (RestsAround [] tree → RestsAround [] (from tree))
      → (ConversionsSuit table here field tree → ConversionsSuit table here field (from tree))
      → ((t : ℕ) → tree_occurs (from tree) t + replaced hooks table root here state command t ≡ tree_occurs tree t)
      → ((t : ℕ) → brings command t ≡ 0) → Move hooks table root state command (moved state i (λ old. enter_child table here i (from old)))
  enters_by command i from enterable at suits rests converts hold none =
      let child = entry state.mode table here i (from tree) enterable at suits in
      let tracker = tracker_at def (from tree) in
      let place = opening state.mode table here i (from tree) enterable at suits in
      goes_on command i (λ old. enter_child table here i (from old)) (record { suits = child.suits; leads = child.leads })
      (λ t. let same = enter_child_holds table here i (from tree) t in omega (arith, hold t, none t))
      (λ rested. enter_child_rests table here i (from tree) suits
      ((enterable_apart table here i (from tree) tracker (count_trees place.children) enterable place.begun_as.0).1 refl (rests rested))
      (rests rested)) (λ old. enter_child_converts table here field i (from tree) (converts old))

  pub enters_value : (i : ℕ) → Enterable table here i tree → Move hooks table root state Call.BeginValue (enters table here state (Way.Value i))
  enters_value i enterable =
      enters_by Call.BeginValue i (λ old. old) enterable at_here suits_here (λ rested. rested) (λ old. old) (λ t. omega arith) (λ t. refl)

  pub enters_anew : (command : Call) (i : ℕ) → ChildOf def i (fresh def)
      → ((t : ℕ) → replaced hooks table root here state command t ≡ tree_occurs tree t) → ((t : ℕ) → brings command t ≡ 0)
      → Move hooks table root state command (enters table here state (Way.Anew i))
  enters_anew command i child drops none =
      enters_by command i (λ old. fresh def) (enterable table here i (fresh def) (fresh_apart def) child)
      (fresh_at_cursor state.mode def) (fresh_suits table here) (λ rested. rests_here _ (fresh_rests def))
      (λ old. fresh_converts table here field def) (λ t. let nothing = fresh_holds def t in omega (arith, drops t)) none

  -- a conversion starts anew first

  abbrev base : Tree
  base = without_source def tree

  base_rests : RestsAround [] tree → RestsAround [] base
  base_rests rested = without_source_is (RestsAround []) def tree (λ anew. rests_here _ (fresh_rests def)) (λ apart. rested)

  base_converts : ConversionsSuit table here field tree → ConversionsSuit table here field base
  base_converts old = without_source_is (ConversionsSuit table here field) def tree (λ anew. fresh_converts table here field def) (λ apart. old)

  base_holds : (t : ℕ) → tree_occurs base t + dropped_with_source state t ≡ tree_occurs tree t
  base_holds t = go (is_begun_conversion tree)
    where
      go : (b : Bool) → tree_occurs (if b then fresh def else tree) t + (if b then tree_occurs tree t else 0) ≡ tree_occurs tree t
      go true = let nothing = fresh_holds def t in omega arith
      go false = omega arith

  pub enters_so : (command : Call) (i : ℕ) → ChildOf def i tree
      → ((t : ℕ) → replaced hooks table root here state command t ≡ dropped_with_source state t) → ((t : ℕ) → brings command t ≡ 0)
      → Move hooks table root state command (enters table here state (Way.Child i))
  enters_so command i child drops none =
      enters_by command i (without_source def)
      (enterable table here i base (without_source_apart def tree) (without_source_child def i tree child))
      (without_source_at state.mode def tree at_here) (without_source_suits table here tree suits_here) base_rests base_converts
      (λ t. omega (arith, base_holds t, drops t)) none

  pub opens_it : (command : Call) → Placed state.mode table here [] (opened (def_of table here) tree)
      → ((t : ℕ) → replaced hooks table root here state command t ≡ 0) → ((t : ℕ) → brings command t ≡ 0)
      → Move hooks table root state command (opens table here state)
  opens_it command placed drops none =
      stays_at command (opened (def_of table here)) (λ fit. placed)
      (λ t. let same = opened_holds (tracker_of (def_of table here)) (child_count table here) tree t in
      omega (arith, drops t, none t)) (opened_rests table here tree suits_here) (opened_converts table here field def tree)

  pub array_so : at_shape here (init_array_refusal def tree) ≡ None → Move hooks table root state Call.InitArray (begins_array table here state)
  array_so is =
      stays_at Call.InitArray (λ old. opened def (without_source def old))
      (λ fit. array_opens state.mode table here base
      (without_source_is (λ u. at_shape here (init_array_refusal def u) ≡ None) def tree (array_anew_may here def tree is) (λ apart. is))
      (record { suits = without_source_suits table here tree suits_here; leads = without_source_at state.mode def tree at_here }))
      (λ t. let same = opened_holds (tracker_of def) (child_count table here) base t in omega (arith, base_holds t))
      (λ rested. opened_rests table here base (without_source_suits table here tree suits_here) (base_rests rested))
      (λ old. opened_converts table here field def base (base_converts old))

  pub becomes_it : (command : Call) (kept : Option Tree) (anew : Tree) → Becoming state.mode table here [] tree kept anew
      → ((t : ℕ) → replaced hooks table root here state command t ≡ dropped_unless kept state t)
      → ((t : ℕ) → brings command t ≡ 0) → ConversionsSuit table here field anew → Move hooks table root state command (becomes state kept anew)
  becomes_it command kept anew there drops none new =
      stays_at command (λ (u : Tree). unwrap_or kept anew) (λ fit. there.placed)
      (λ t. omega (arith, there.hold t, lost_is kept state t, drops t, none t)) there.rest (there.converts field new)

  pub takes_new_item : (command : Call) → TakesAnItem tree
      → ((t : ℕ) → replaced hooks table root here state command t ≡ 0) → ((t : ℕ) → brings command t ≡ 0)
      → Move hooks table root state command (moved state (count_below tree) (with_item table here))
  takes_new_item command takes drops none =
      goes_on command (count_below tree) (with_item table here) (item_placed state.mode table here tree takes placed_here)
      (λ t. omega (arith, item_holds table here tree t, drops t, none t)) (item_rests table here tree)
      (item_converts table here field tree)

  pub takes_new_key : IsMap tree false → Move hooks table root state Call.BeginKey (moved state (count_below tree) (with_key table here))
  takes_new_key map =
      goes_on Call.BeginKey (count_below tree) (with_key table here)
      (subst (λ (u : Tree). Placed state.mode table here (count_below u ∷ []) (with_key table here u)) (sym map.is)
      (key_placed state.mode table here map.base map.children map.ends
      (subst (λ (u : Tree). Placed state.mode table here [] u) map.is placed_here)))
      (λ t. let same : tree_occurs (with_key table here tree) t ≡ tree_occurs tree t
      = subst (λ (u : Tree). tree_occurs (with_key table here u) t ≡ tree_occurs u t) (sym map.is)
      (key_holds table here map.base map.children t) in omega arith)
      (subst (λ (u : Tree). RestsAround [] u → RestsAround (count_below u ∷ []) (with_key table here u)) (sym map.is)
      (key_rests table here map.base map.children)) (key_converts table here field tree)

  pub takes_new_entry : (key : List ℕ) → IsObject tree → Move hooks table root state (Call.BeginObjectEntry key)
      (moved state (entry_number key tree) (with_entry table here key))
  takes_new_entry key object =
      goes_on (Call.BeginObjectEntry key) (entry_number key tree) (with_entry table here key)
      (subst (λ (u : Tree). Placed state.mode table here (entry_number key u ∷ []) (with_entry table here key u)) (sym object.is)
      (entry_placed state.mode table here key object.keys object.children
      (subst (λ (u : Tree). Placed state.mode table here [] u) object.is placed_here)))
      (λ t. let same : tree_occurs (with_entry table here key tree) t ≡ tree_occurs tree t
      = subst (λ (u : Tree). tree_occurs (with_entry table here key u) t ≡ tree_occurs u t) (sym object.is)
      (entry_holds table here key object.keys object.children t) in omega arith)
      (subst (λ (u : Tree). Suits table here u → RestsAround [] u
      → RestsAround (entry_number key u ∷ []) (with_entry table here key u)) (sym object.is)
      (entry_rests table here key object.keys object.children) suits_here)
      (subst (λ (u : Tree). ConversionsSuit table here field u → ConversionsSuit table here field (with_entry table here key u)) (sym object.is)
      (entry_converts table here field key object.keys object.children))

  -- a field is set
  pub puts_so : (i : ℕ) (found : Field) (v : Val) → field_in def (selected tree) i ≡ Some found → IsTemplate table found.shape.0 v
      → Move hooks table root state (Call.SetNthFieldToDefault i) (puts_child table here state i v)
  puts_so i found v is template =
      let suits = without_source_suits table here tree suits_here in
      let there = field_there table here i base found (without_source_apart def tree) suits
      (ap (λ (chosen : Option ℕ). field_in def chosen i) (without_source_selects def tree) ∙ is) in
      let put = putting state.mode table here i v base there.enterable (without_source_at state.mode def tree at_here) suits
      (rw there.shape template.fit) in
      stays_at (Call.SetNthFieldToDefault i) (put_child def i v) (λ fit. record { suits = put.suits; leads = put.at })
      (λ t. omega (arith, put.hold t, template_holds table found.shape.0 v t template, base_holds t))
      (λ rested. put.rest (base_rests rested)) (λ old. put_child_converts table here field i v base (base_converts old))

  -- a content, a side, a pointee or a source is begun

  pub holds_it : (command : Call) (tracker : Tracker) (kept : Option Tree)
      → Becoming state.mode table here (0 ∷ []) tree kept (content_anew table here tracker)
      → ((t : ℕ) → replaced hooks table root here state command t ≡ dropped_unless kept state t) → ((t : ℕ) → brings command t ≡ 0)
      → ConversionSuits table here field tracker → Move hooks table root state command (enters table here state (Way.Content tracker kept))
  holds_it command tracker kept there drops none may =
      goes_on command 0 (λ (u : Tree). unwrap_or kept (content_anew table here tracker)) there.placed
      (λ t. omega (arith, there.hold t, lost_is kept state t, drops t, none t)) there.rest
      (there.converts field (may, (fresh_converts table _ _ _, tt)))

  pub source_so : (command : Call) (conversion : Conversion) → MayConvert table here field conversion
      → ((t : ℕ) → replaced hooks table root here state command t ≡ dropped_unless (source_kept state conversion) state t)
      → ((t : ℕ) → brings command t ≡ 0) → Move hooks table root state command (enters_source table here state conversion)
  source_so command conversion may drops none =
      holds_it command (as_content (ContentKind.Source conversion)) (source_kept state conversion)
      (content_becomes state.mode table here (as_content (ContentKind.Source conversion)) tree (source_holds table here conversion may.0)
      suits_here) drops none may.1

  pub from_shape_so : (command : Call) (found : Option ProxyDef) (format : Option (List ℕ))
      → proxy_at table here (cursor_field table root state) format ≡ found
      → ((t : ℕ) → replaced hooks table root here state command t
      ≡ dropped_by_proxy (proxy_at table here (cursor_field table root state) format) state t)
      → ((t : ℕ) → brings command t ≡ 0) → Move hooks table root state command (begins_if_proxied table here state found)
  from_shape_so command (Some proxy) format is drops none =
      source_so command (by_proxy proxy) (shape_proxy_may table here field format proxy is)
      (λ t. drops t ∙ ap (λ (known : Option ProxyDef). dropped_by_proxy known state t) is) none
  from_shape_so command None format is drops none =
      is_same command (λ t. drops t ∙ ap (λ (known : Option ProxyDef). dropped_by_proxy known state t) is) none
