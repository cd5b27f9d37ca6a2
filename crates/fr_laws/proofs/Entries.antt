-- A child of a struct, an array or a selected variant is entered: what becomes of the state, and that it becomes the same where another
-- child was changed before.
use Rattle.std.proofs.Common.{◌≡◌, ◌≢◌, ◌∷◌, ◌++◌, if◌then◌else◌}
use Rattle.fr_model.proofs.Common.{ℕ, Bool, true, false, nat_lt, nat_le, [], Option, Some, None, option_or, Ok, refl, sym, ap, ap₂, ◌∙◌, array_limit, Def, Operation, ReflectErrorKind, Meanings, Table, def_of, product, Call, field_found, selected, Tracker, as_fields, as_elements, tracker_at, Tree, hole, entered, whole, begun, Trees, child_as, is_set, is_begun_conversion, without_source, tree_at, change_at, change_child, State, cursor_shape, cursor_tree, one_more_call, Way, enters, enter, opened, unless_refused, at_shape, field_refusal, named_refusal, begins_named, step, IsTouched, replaced, dropped_with_source, as_content, ContentKind}
use Rattle.fr_laws.specs.SwapLaws.{IsInParts, IsAtParts, EntersChild}
use Rattle.fr_laws.proofs.Beside.{above_kept, set_above, shape_above, shape_there, changes_beside, changed_there, changed_twice, changed_child, left_as_it_is, tree_changed}
use Rattle.fr_laws.proofs.BesideStep.{with_tree}
use Rattle.fr_model.proofs.Children.{without_source_selects}

-- such a place

pub parts_apart : (def : Def) (t : Tree) → IsInParts def t → is_begun_conversion t ≡ false
parts_apart def (begun (as_fields chosen) ts) parts = refl
parts_apart def (begun as_elements ts) parts = refl
parts_apart def (begun _ ts) parts = absurd parts
parts_apart def _ parts = refl

parts_touched : (def : Def) (t : Tree) → IsInParts def (without_source def t) → IsTouched t
parts_touched def hole parts = absurd parts
parts_touched def _ parts = tt

parts_no_set : (def : Def) (t : Tree) → IsInParts def t → is_set (opened def t) ≡ false
parts_no_set def (begun (as_fields chosen) ts) parts = refl
parts_no_set def (begun as_elements ts) parts = refl
parts_no_set def (begun _ ts) parts = absurd parts
parts_no_set (Def.Struct struct) entered parts = refl
parts_no_set (Def.Array item n) entered parts = refl
parts_no_set _ entered parts = absurd parts
parts_no_set (Def.Struct struct) (whole (product vs)) parts = refl
parts_no_set (Def.Struct struct) (whole _) parts = refl
parts_no_set (Def.Array item n) (whole (product vs)) parts = refl
parts_no_set (Def.Array item n) (whole _) parts = refl
parts_no_set _ (whole v) parts = absurd parts
parts_no_set def hole parts = absurd parts

-- what it has become, once it is begun and a child of it changed, is alike
record AlikeThere (def : Def) (t u : Tree) : Type 0 where
  chosen : selected u ≡ selected t
  tracker : tracker_at def u ≡ tracker_at def t
  as_it_is : opened def u ≡ u
  parts : IsInParts def u

alike_there : (def : Def) (t : Tree) (j : ℕ) (f : Tree → Tree) → IsInParts def t → AlikeThere def t (change_child j f (opened def t))
alike_there def (begun tracker ts) j f parts = record { chosen = refl; tracker = refl; as_it_is = refl; parts = parts }
alike_there (Def.Struct struct) entered j f parts = record { chosen = refl; tracker = refl; as_it_is = refl; parts = tt }
alike_there (Def.Array item n) entered j f parts = record { chosen = refl; tracker = refl; as_it_is = refl; parts = tt }
alike_there _ entered j f parts = absurd parts
alike_there (Def.Struct struct) (whole (product vs)) j f parts = record { chosen = refl; tracker = refl; as_it_is = refl; parts = tt }
alike_there (Def.Struct struct) (whole _) j f parts = record { chosen = refl; tracker = refl; as_it_is = refl; parts = tt }
alike_there (Def.Array item n) (whole (product vs)) j f parts = record { chosen = refl; tracker = refl; as_it_is = refl; parts = tt }
alike_there (Def.Array item n) (whole _) j f parts = record { chosen = refl; tracker = refl; as_it_is = refl; parts = tt }
alike_there _ (whole v) j f parts = absurd parts
alike_there def hole j f parts = absurd parts

-- and so it is where the place started anew, having been a conversion

pub record Alike (def : Def) (t u : Tree) : Type 0 where
  pub apart : is_begun_conversion u ≡ false
  pub chosen : selected u ≡ selected t
  pub tracker : tracker_at def (without_source def u) ≡ tracker_at def (without_source def t)
  pub as_it_is : opened def (without_source def u) ≡ u
  pub parts : IsInParts def (without_source def u)

alike : (def : Def) (t : Tree) (j : ℕ) (f : Tree → Tree) → IsInParts def (without_source def t)
    → Alike def t (change_child j f (opened def (without_source def t)))
alike def t j f parts =
    let there = alike_there def (without_source def t) j f parts in
    let apart = parts_apart def _ there.parts in
    record {
      apart = apart;
      chosen = there.chosen ∙ without_source_selects def t;
      tracker = rw apart there.tracker;
      as_it_is = rw apart there.as_it_is;
      parts = rw apart there.parts;
    }

-- refusals

abbrev pub entering_refusal : Def → Tree → Call → Option Operation
entering_refusal def t (Call.BeginField name) = named_refusal def t
entering_refusal def t (Call.BeginNthField k) = field_refusal def t k
entering_refusal def t _ = None

abbrev pub IsEntering : Call → Type 0
IsEntering (Call.BeginField name) = Unit {0}
IsEntering (Call.BeginNthField k) = Unit {0}
IsEntering _ = ⊥

pub enters_so : (table : Table) (s i : ℕ) (t : Tree) (command : Call) → EntersChild table s i t command → IsEntering command
enters_so table s i t (Call.BeginField name) so = tt
enters_so table s i t (Call.BeginNthField k) so = tt
enters_so table s i t _ so = absurd so

-- a whole array isn't begun by entering an element
abbrev pub IsOpenable : Def → Tree → Type 0
IsOpenable (Def.Array item n) (whole v) = ⊥
IsOpenable _ t = Unit {0}

whole_array : (less few : Bool) → (out large none : Operation)
    → option_or (if less then None else Some out) (option_or (if few then None else Some large) (Some none)) ≡ None → ⊥
whole_array true true out large none e = cc
whole_array true false out large none e = cc
whole_array false few out large none e = cc

pub openable : (def : Def) (t : Tree) (command : Call) → IsEntering command → entering_refusal def t command ≡ None → IsOpenable def t
openable (Def.Array item n) (whole v) (Call.BeginField name) so e = cc
openable (Def.Array item n) (whole v) (Call.BeginNthField k) so e = whole_array (nat_lt k n) (nat_le n array_limit) _ _ _ e
openable (Def.Array item n) (whole v) _ so e = absurd so
openable (Def.Array item n) _ command so e = tt
openable _ t command so e = tt

field_begun : (def : Def) (tracker : Tracker) (ts us : Trees) (k : ℕ) → field_refusal def (begun tracker us) k ≡ field_refusal def (begun tracker ts) k
field_begun (Def.Struct struct) tracker ts us k = refl
field_begun _ tracker ts us k = refl

named_begun : (def : Def) (tracker : Tracker) (ts us : Trees) → named_refusal def (begun tracker us) ≡ named_refusal def (begun tracker ts)
named_begun (Def.Struct struct) tracker ts us = refl
named_begun _ tracker ts us = refl

field_alike : (def : Def) (t : Tree) (j : ℕ) (f : Tree → Tree) → IsInParts def t → IsOpenable def t → (k : ℕ)
    → field_refusal def (change_child j f (opened def t)) k ≡ field_refusal def t k
field_alike def (begun tracker ts) j f parts may k = field_begun def tracker ts _ k
field_alike (Def.Struct struct) entered j f parts may k = refl
field_alike (Def.Array item n) entered j f parts may k = refl
field_alike _ entered j f parts may k = absurd parts
field_alike (Def.Struct struct) (whole v) j f parts may k = refl
field_alike (Def.Array item n) (whole v) j f parts may k = absurd may
field_alike _ (whole v) j f parts may k = absurd parts
field_alike def hole j f parts may k = absurd parts

named_alike : (def : Def) (t : Tree) (j : ℕ) (f : Tree → Tree) → IsInParts def t
    → named_refusal def (change_child j f (opened def t)) ≡ named_refusal def t
named_alike def (begun tracker ts) j f parts = named_begun def tracker ts _
named_alike (Def.Struct struct) entered j f parts = refl
named_alike (Def.Array item n) entered j f parts = refl
named_alike _ entered j f parts = absurd parts
named_alike (Def.Struct struct) (whole v) j f parts = refl
named_alike (Def.Array item n) (whole v) j f parts = refl
named_alike _ (whole v) j f parts = absurd parts
named_alike def hole j f parts = absurd parts

refused_alike : (def : Def) (t : Tree) (j : ℕ) (f : Tree → Tree) → IsInParts def t → IsOpenable def t → (command : Call)
    → entering_refusal def (change_child j f (opened def t)) command ≡ entering_refusal def t command
refused_alike def t j f parts may (Call.BeginField name) = named_alike def t j f parts
refused_alike def t j f parts may (Call.BeginNthField k) = field_alike def t j f parts may k
refused_alike def t j f parts may _ = refl

-- a conversion is refused as the struct or the array that it starts anew as
pub refused_anew : (def : Def) (t : Tree) (command : Call) → IsInParts def (without_source def t)
    → entering_refusal def (without_source def t) command ≡ entering_refusal def t command
refused_anew (Def.Struct struct) (begun (as_content (ContentKind.Source conversion)) ts) (Call.BeginField name) parts = refl
refused_anew (Def.Struct struct) (begun (as_content (ContentKind.Source conversion)) ts) (Call.BeginNthField k) parts = refl
refused_anew (Def.Array item n) (begun (as_content (ContentKind.Source conversion)) ts) (Call.BeginField name) parts = refl
refused_anew (Def.Array item n) (begun (as_content (ContentKind.Source conversion)) ts) (Call.BeginNthField k) parts = refl
refused_anew def (begun (as_content (ContentKind.Source conversion)) ts) (Call.BeginField name) parts = absurd parts
refused_anew def (begun (as_content (ContentKind.Source conversion)) ts) (Call.BeginNthField k) parts = absurd parts
refused_anew def (begun (as_content (ContentKind.Source conversion)) ts) _ parts = refl
refused_anew def (begun (as_content _) ts) command parts = refl
refused_anew def (begun _ ts) command parts = refl
refused_anew def _ command parts = refl

-- a child is entered

-- the tree with the place at the cursor begun
abbrev pub opened_tree : Table → (root : ℕ) → State → Tree
opened_tree table root state =
    change_at state.cursor (λ old. opened (def_of table (cursor_shape table root state)) (without_source (def_of table (cursor_shape table root state)) old))
    state.tree

-- the place at the cursor, which starts anew where it is a conversion
abbrev pub base_tree : Table → (root : ℕ) → State → Tree
base_tree table root state = without_source (def_of table (cursor_shape table root state)) (cursor_tree state)

-- what becomes of child i
abbrev pub entry : Table → (root : ℕ) → State → ℕ → Tree → Tree
entry table root state i child =
    enter (def_of table (child_as table (cursor_shape table root state)
    (tracker_at (def_of table (cursor_shape table root state)) (base_tree table root state)) i)) child

abbrev pub entered_state : Table → (root : ℕ) → State → ℕ → State
entered_state table root state i = record {
  tree = change_at (state.cursor ++ i ∷ []) (entry table root state i) (opened_tree table root state);
  cursor = state.cursor ++ i ∷ [];
  mode = state.mode;
  calls = one_more_call state.calls;
}

entered_is : (table : Table) (root : ℕ) (state : State) (i : ℕ)
    → enters table (cursor_shape table root state) state (Way.Child i) ≡ entered_state table root state i
entered_is table root state i =
    ap (λ (u : Tree). record { tree = u; cursor = state.cursor ++ i ∷ []; mode = state.mode; calls = one_more_call state.calls }) (
    changed_there state.cursor _ (λ old. change_child i (entry table root state i) (opened def (without_source def old))) state.tree refl
    ∙ sym (changed_twice state.cursor (change_child i (entry table root state i)) (λ old. opened def (without_source def old)) state.tree)
    ∙ sym (changed_child state.cursor i (entry table root state i) (opened_tree table root state))
    )
  where
    def : Def
    def = def_of table (cursor_shape table root state)

pub first_is : (hooks : Meanings) (table : Table) (root : ℕ) (state : State) (i : ℕ) (command : Call)
    → EntersChild table (cursor_shape table root state) i (cursor_tree state) command
    → step hooks table root state command
    ≡ unless_refused (at_shape (cursor_shape table root state) (entering_refusal (def_of table (cursor_shape table root state)) (cursor_tree state) command))
    (entered_state table root state i)
first_is hooks table root state i (Call.BeginField name) so =
    go (at_shape (cursor_shape table root state) (named_refusal (def_of table (cursor_shape table root state)) (cursor_tree state)))
  where
    go : (refusal : Option ReflectErrorKind)
        → begins_named table (cursor_shape table root state) state refusal
        (field_found name (def_of table (cursor_shape table root state)) (selected (cursor_tree state)))
        ≡ unless_refused refusal (entered_state table root state i)
    go (Some kind) = refl
    go None = rw so (ap Ok (entered_is table root state i))
first_is hooks table root state i (Call.BeginNthField k) so =
    rw so (ap (unless_refused (at_shape _ (field_refusal _ _ i))) (entered_is table root state i))
first_is hooks table root state i _ so = absurd so

-- where another child was changed before

module _ (table : Table) (root : ℕ) (state : State) (parts : IsAtParts table root state) (j : ℕ) (f : Tree → Tree) (calls : ℕ) where
  abbrev def : Def
  def = def_of table (cursor_shape table root state)

  abbrev pub other_state : State
  other_state = record {
    tree = change_at (state.cursor ++ j ∷ []) f (opened_tree table root state);
    cursor = state.cursor;
    mode = state.mode;
    calls = calls;
  }

  abbrev begin : Tree → Tree
  begin old = opened def (without_source def old)

  pub same_shape : cursor_shape table root other_state ≡ cursor_shape table root state
  same_shape =
      shape_above table root state.cursor j [] f (opened_tree table root state) ∙ shape_there table root state.cursor begin state.tree

  pub same_tree : cursor_tree other_state ≡ change_child j f (begin (cursor_tree state))
  same_tree =
      ap (tree_at state.cursor) (changed_child state.cursor j f (opened_tree table root state)
      ∙ changed_twice state.cursor (change_child j f) begin state.tree)
      ∙ tree_changed state.cursor (λ old. change_child j f (begin old)) state.tree (parts_touched def (cursor_tree state) parts)

  is_alike : Alike def (cursor_tree state) (change_child j f (begin (cursor_tree state)))
  is_alike = alike def (cursor_tree state) j f parts

  pub other_apart : is_begun_conversion (cursor_tree other_state) ≡ false
  other_apart = rw same_tree is_alike.apart

  pub other_enters : (i : ℕ) (command : Call) → EntersChild table (cursor_shape table root state) i (cursor_tree state) command
      → EntersChild table (cursor_shape table root other_state) i (cursor_tree other_state) command
  other_enters i (Call.BeginField name) so = rw (same_shape, same_tree, is_alike.chosen) so
  other_enters i (Call.BeginNthField k) so = so
  other_enters i _ so = absurd so

  pub enters_back : (i : ℕ) (command : Call) → EntersChild table (cursor_shape table root other_state) i (cursor_tree other_state) command
      → EntersChild table (cursor_shape table root state) i (cursor_tree state) command
  enters_back i (Call.BeginField name) so = rw (same_shape, same_tree, is_alike.chosen) at so
  enters_back i (Call.BeginNthField k) so = so
  enters_back i _ so = absurd so

  pub other_refusal : (command : Call) → IsOpenable def (base_tree table root state)
      → at_shape (cursor_shape table root other_state) (entering_refusal (def_of table (cursor_shape table root other_state)) (cursor_tree other_state) command)
      ≡ at_shape (cursor_shape table root state) (entering_refusal def (cursor_tree state) command)
  other_refusal command may = rw (same_shape, same_tree, refused_alike def (base_tree table root state) j f parts may command, refused_anew def (cursor_tree state) command parts)

  same_entry : (i : ℕ) → entry table root other_state i ≡ entry table root state i
  same_entry i =
      ap₂ (λ (s : ℕ) (u : Tree). λ (child : Tree). enter (def_of table (child_as table s (tracker_at (def_of table s) (without_source (def_of table s) u)) i)) child)
      same_shape same_tree
      ∙ ap (λ (tracker : Tracker). λ (child : Tree). enter (def_of table (child_as table (cursor_shape table root state) tracker i)) child) is_alike.tracker

  same_opened : opened_tree table root other_state ≡ other_state.tree
  same_opened =
      ap (λ (s : ℕ). change_at state.cursor (λ old. opened (def_of table s) (without_source (def_of table s) old)) other_state.tree) same_shape
      ∙ left_as_it_is state.cursor begin other_state.tree
      (ap begin same_tree ∙ is_alike.as_it_is ∙ sym same_tree)

  pub other_entered : (i : ℕ) → i ≢ j → entered_state table root other_state i
      ≡ with_tree (λ (u : Tree). change_at (state.cursor ++ j ∷ []) f u) (one_more_call calls) (entered_state table root state i)
  other_entered i apart =
      ap (λ (u : Tree). record { tree = u; cursor = state.cursor ++ i ∷ []; mode = state.mode; calls = one_more_call calls }) (
      ap₂ (λ (g : Tree → Tree) (u : Tree). change_at (state.cursor ++ i ∷ []) g u) (same_entry i) same_opened
      ∙ changes_beside i j apart [] f (entry table root state i) state.cursor (opened_tree table root state)
      )

-- the place is no set once it is begun, whatever becomes of a child
pub entered_no_set : (table : Table) (root : ℕ) (state : State) (i : ℕ) → IsAtParts table root state
    → is_set (tree_at state.cursor (entered_state table root state i).tree) ≡ false
entered_no_set table root state i parts =
    above_kept is_set set_above state.cursor i [] (entry table root state i) (opened_tree table root state)
    ∙ ap is_set (tree_changed state.cursor (λ old. opened (def_of table (cursor_shape table root state))
    (without_source (def_of table (cursor_shape table root state)) old)) state.tree
    (parts_touched (def_of table (cursor_shape table root state)) (cursor_tree state) parts))
    ∙ parts_no_set (def_of table (cursor_shape table root state)) (base_tree table root state) parts

-- only a conversion is dropped

pub entering_drops : (hooks : Meanings) (table : Table) (root s : ℕ) (state : State) (command : Call) → IsEntering command → (t : ℕ)
    → replaced hooks table root s state command t ≡ dropped_with_source state t
entering_drops hooks table root s state (Call.BeginField name) so t = refl
entering_drops hooks table root s state (Call.BeginNthField k) so t = refl
entering_drops hooks table root s state _ so t = absurd so

pub apart_drops : (state : State) → is_begun_conversion (cursor_tree state) ≡ false → (t : ℕ) → dropped_with_source state t ≡ 0
apart_drops state apart t = rw apart
