-- The value that is seen at a place: by what is seen of the place and its children, that it fits the place's shape, and its tokens.
use Rattle.std.proofs.Common.{◌≡◌, ℕ, suc, arith, Bool, true, false, List, [], ◌∷◌, length, map, Option, Some, None, option_map, if◌then◌else◌, refl, sym, ◌∙◌, ap, subst, append-nil, eqb-true}
use Rattle.std.proofs.lemmas.List.{ext_get_or, length-map}
use Rattle.std.specs.Option.{option_and_then}
use Rattle.fr_partial.specs.Common.{Body, Cell, ContentKind, IsFullAs, IsInOrder, Room, RoseBy, State, Suits, Table, Tracker, Tree, Trees, Val, as_content, as_elements, as_entries, as_fields, as_items, begun, begun_body, branch, child_as, count_trees, cursor_tree, def_of, entered, fits, hole, is_around, no_trees, no_vals, occurs, own_tree, tokens, whole}
use Rattle.fr_frame.specs.Bodies.{trees_of}
use Rattle.fr_shape.specs.Fits.{count_vals}
use Rattle.fr_shape.specs.Lists.{is_nil}
use Rattle.fr_shape.specs.TokenLaws.{occurs_times}
use Rattle.fr_shape.specs.Tokens.{times, vals_tokens}
use Rattle.fr_shape.specs.Val.{Vals, first}
use Rattle.fr_shape.specs.View.{vals_of, vals_view, view}
use Rattle.fr_shape.specs.declared.value.Value.{Value}
use Rattle.fr_facet.specs.Facets.{IsRefusedIf}
use Rattle.fr_facet.specs.declared.facet.FacetFault.{FacetFault}
use Rattle.fr_model.specs.Complete.{made, value_as}
use Rattle.fr_model.specs.Places.{vals_nth}
use Rattle.fr_model.specs.Tree.{cursor_shape}
use Rattle.fr_model.proofs.Basis.{suits_at}
use Rattle.fr_model.proofs.Structs.{ChildrenFit, SuitFrom, sound_as, taken_as, value_fits}
use Rattle.fr_model.proofs.Templates.{nil_is}
use Rattle.fr_refusals.specs.Looks.{LooksLike}
use Rattle.fr_work.specs.PlaceViews.{Initialized, has_parts, initialized, seen_begun, whole_values}
use Rattle.fr_partial.specs.ReadAs.{copyable, is_found, tokenless, value_seen}
use Rattle.fr_work.proofs.KeptLaws.{one_child}

-- By its looks.

-- the place is begun so
pub record IsBegunSo (tracker : Tracker) (tree : Tree) : Type 0 where
  pub children : Trees
  pub is : tree ≡ begun tracker children

looks_begun : (tree : Tree) (tracker : Tracker) (ts : Trees) → LooksLike (begun tracker ts) tree → IsBegunSo tracker tree
looks_begun (begun other us) tracker ts alike =
    let same : tracker ≡ other = cc in record { children = us; is = ap (λ (t : Tracker). begun t us) (sym same) }
looks_begun hole tracker ts alike = cc
looks_begun entered tracker ts alike = cc
looks_begun (whole v) tracker ts alike = cc

-- By what is seen of the place.

-- a begun place has parts, whose values are seen
pub record HasSeen (tracker : Tracker) (ts : Trees) (values : List Val) : Type 0 where
  pub parts : has_parts tracker ≡ true
  pub all : whole_values ts ≡ Some values

has_seen : (s : ℕ) (tracker : Tracker) (ts : Trees) (seen : Initialized) → Some seen ≡ initialized s (begun tracker ts)
    → HasSeen tracker ts seen.children
has_seen s tracker ts seen e = go (has_parts tracker) (whole_values ts) refl refl e
  where
    go : (parts : Bool) (values : Option (List Val)) → has_parts tracker ≡ parts → whole_values ts ≡ values
        → Some seen ≡ (if parts then option_map (seen_begun s tracker) values else None) → HasSeen tracker ts seen.children
    go true (Some values) p w e =
        let same : seen ≡ seen_begun s tracker values = cc in
        record { parts = p; all = w ∙ ap (λ (it : Initialized). Some it.children) (sym same) }
    go true None p w e = cc
    go false values p w e = cc

value_of_parts : (tracker : Tracker) (ts : Trees) (values : List Val) → HasSeen tracker ts values
    → value_seen (begun tracker ts) ≡ Some (value_as tracker (vals_of values))
value_of_parts tracker ts values has = rw (has.parts, has.all) refl

-- As many values as children.

value_and_rest : (v : Val) (rest : Option (List Val)) (values : List Val) (n : ℕ)
    → ((vs : List Val) → rest ≡ Some vs → length vs ≡ n) → option_map (λ (vs : List Val). v ∷ vs) rest ≡ Some values → length values ≡ suc n
value_and_rest v (Some vs) values n others e = let same : v ∷ vs ≡ values = cc in sym (ap length same) ∙ ap suc (others vs refl)
value_and_rest v None values n others e = cc

count_seen : (ts : Trees) (values : List Val) → whole_values ts ≡ Some values → length values ≡ count_trees ts
count_seen no_trees values e = let same : [] ≡ values = cc in ap length (sym same)
count_seen (branch (whole v) ts) values e = value_and_rest v (whole_values ts) values (count_trees ts) (λ vs. count_seen ts vs) e
count_seen (branch hole ts) values e = cc
count_seen (branch entered ts) values e = cc
count_seen (branch (begun tracker us) ts) values e = cc

count_of : (values : List Val) → count_vals (vals_of values) ≡ length values
count_of [] = refl
count_of (v ∷ vs) = ap suc (count_of vs)

-- a place that holds one value sees one
one_seen : (table : Table) (s : ℕ) (tracker : Tracker) (ts : Trees) (values : List Val) → Suits table s (begun tracker ts)
    → HasSeen tracker ts values → is_around tracker ≡ true → length values ≡ 1
one_seen table s tracker ts values suits has around =
    count_seen ts values has.all ∙ one_child tracker around (def_of table s) (count_trees ts) suits.0.0

-- The value fits.

taken_is : (table : Table) (s : ℕ) (tracker : Tracker) → has_parts tracker ≡ true → (i : ℕ)
    → child_as table s tracker i ≡ taken_as table s tracker i
taken_is table s (as_content (ContentKind.Source conversion)) parts i = cc
taken_is table s (as_content ContentKind.Some) parts i = refl
taken_is table s (as_content ContentKind.Ok) parts i = refl
taken_is table s (as_content ContentKind.Err) parts i = refl
taken_is table s (as_content ContentKind.Pointer) parts i = refl
taken_is table s (as_fields selected) parts i = refl
taken_is table s as_elements parts i = refl
taken_is table s (as_items kind) parts i = refl
taken_is table s (as_entries kind) parts i = refl

fits_and_rest : (table : Table) (s : ℕ) (tracker : Tracker) (i : ℕ) (v : Val) (rest : Option (List Val)) (values : List Val)
    → fits table (taken_as table s tracker i) v ≡ true
    → ((vs : List Val) → rest ≡ Some vs → ChildrenFit table s tracker (suc i) (vals_of vs))
    → option_map (λ (vs : List Val). v ∷ vs) rest ≡ Some values → ChildrenFit table s tracker i (vals_of values)
fits_and_rest table s tracker i v (Some vs) values fit others e =
    let same : v ∷ vs ≡ values = cc in
    subst (λ (ws : List Val). ChildrenFit table s tracker i (vals_of ws)) same (fit, others vs refl)
fits_and_rest table s tracker i v None values fit others e = cc

children_fit : (table : Table) (s : ℕ) (tracker : Tracker) → has_parts tracker ≡ true → (i : ℕ) (ts : Trees) (values : List Val)
    → whole_values ts ≡ Some values → SuitFrom table s tracker i ts → ChildrenFit table s tracker i (vals_of values)
children_fit table s tracker parts i no_trees values e suit =
    let same : [] ≡ values = cc in subst (λ (ws : List Val). ChildrenFit table s tracker i (vals_of ws)) same tt
children_fit table s tracker parts i (branch (whole v) ts) values e suit =
    fits_and_rest table s tracker i v (whole_values ts) values
    (subst (λ (shape : ℕ). fits table shape v ≡ true) (taken_is table s tracker parts i) suit.0)
    (λ vs is. children_fit table s tracker parts (suc i) ts vs is suit.1) e
children_fit table s tracker parts i (branch hole ts) values e suit = cc
children_fit table s tracker parts i (branch entered ts) values e suit = cc
children_fit table s tracker parts i (branch (begun other us) ts) values e suit = cc

parts_fit : (table : Table) (s : ℕ) (tracker : Tracker) (ts : Trees) (values : List Val) → Suits table s (begun tracker ts)
    → HasSeen tracker ts values → fits table s (value_as tracker (vals_of values)) ≡ true
parts_fit table s tracker ts values suits has =
    value_fits table s tracker (vals_of values)
    (subst (λ (n : ℕ). IsFullAs (def_of table s) tracker n) (sym (count_of values ∙ count_seen ts values has.all)) suits.0.0)
    (sound_as table s tracker ts suits.2)
    (children_fit table s tracker has.parts 0 ts values has.all suits.1)

-- what is seen at a place that suits its shape fits that
seen_fits : (table : Table) (s : ℕ) (tree : Tree) (v : Val) → Suits table s tree → value_seen tree ≡ Some v → fits table s v ≡ true
seen_fits table s hole v suits e = cc
seen_fits table s entered v suits e = cc
seen_fits table s (whole u) v suits e = let same : u ≡ v = cc in subst (λ (w : Val). fits table s w ≡ true) same suits
seen_fits table s (begun tracker ts) v suits e = go (has_parts tracker) (whole_values ts) refl refl e
  where
    go : (parts : Bool) (values : Option (List Val)) → has_parts tracker ≡ parts → whole_values ts ≡ values
        → (if parts then made tracker (option_map vals_of values) else None) ≡ Some v → fits table s v ≡ true
    go true (Some values) p w e =
        let same : value_as tracker (vals_of values) ≡ v = cc in
        subst (λ (w : Val). fits table s w ≡ true) same (parts_fit table s tracker ts values suits (record { parts = p; all = w }))
    go true None p w e = cc
    go false values p w e = cc

-- Its tokens.

one_tokens : (vs : Vals) → count_vals vs ≡ 1 → tokens (vals_nth vs 0) ≡ vals_tokens vs
one_tokens (first v no_vals) one = sym (append-nil (tokens v))
one_tokens no_vals one = absurd (omega arith)
one_tokens (first v (first u vs)) one = absurd (omega arith)

-- the value that a place makes of its parts holds their tokens
parts_tokens : (tracker : Tracker) (vs : Vals) → has_parts tracker ≡ true → (is_around tracker ≡ true → count_vals vs ≡ 1)
    → tokens (value_as tracker vs) ≡ vals_tokens vs
parts_tokens (as_fields None) vs parts one = refl
parts_tokens (as_fields (Some k)) vs parts one = refl
parts_tokens as_elements vs parts one = refl
parts_tokens (as_content ContentKind.Some) vs parts one = one_tokens vs (one refl)
parts_tokens (as_content ContentKind.Ok) vs parts one = one_tokens vs (one refl)
parts_tokens (as_content ContentKind.Err) vs parts one = one_tokens vs (one refl)
parts_tokens (as_content ContentKind.Pointer) vs parts one = one_tokens vs (one refl)
parts_tokens (as_content (ContentKind.Source conversion)) vs parts one = cc
parts_tokens (as_items kind) vs parts one = cc
parts_tokens (as_entries kind) vs parts one = cc

-- what is copied of the place whose parts have these values
copied_parts : (table : Table) (s : ℕ) (tracker : Tracker) (ts : Trees) (values : List Val) → Suits table s (begun tracker ts)
    → HasSeen tracker ts values
    → copyable (begun tracker ts) ≡ (if is_nil (vals_tokens (vals_of values)) then Some (value_as tracker (vals_of values)) else None)
copied_parts table s tracker ts values suits has =
    ap (option_and_then tokenless) (value_of_parts tracker ts values has)
    ∙ ap (λ (held : List ℕ). if is_nil held then Some (value_as tracker (vals_of values)) else None)
    (parts_tokens tracker (vals_of values) has.parts (λ around. count_of values ∙ one_seen table s tracker ts values suits has around))

-- What is copied, by what was put at the place and what is seen of it.

-- the place is begun so, with children of these values
pub record BegunHere (tracker : Tracker) (tree : Tree) (values : List Val) : Type 0 where
  pub children : Trees
  pub is : tree ≡ begun tracker children
  pub has : HasSeen tracker children values

pub begun_here : (s : ℕ) (tree : Tree) (seen : Initialized) (tracker : Tracker) (cells : List Cell) (body : Body)
    → body ≡ begun_body tracker cells → LooksLike (own_tree body) tree → Some seen ≡ initialized s tree
    → BegunHere tracker tree seen.children
begun_here s tree seen tracker cells body e alike sees =
    let so : IsBegunSo tracker tree
    = looks_begun tree tracker (trees_of cells) (subst (λ (b : Body). LooksLike (own_tree b) tree) e alike) in
    record { children = so.children; is = so.is; has = has_seen s tracker so.children seen (sees ∙ ap (initialized s) so.is) }

module _ (table : Table) (s : ℕ) (tree : Tree) (tracker : Tracker) (values : List Val) (at : BegunHere tracker tree values) (suits : Suits table s tree) where
  suits_begun : Suits table s (begun tracker at.children)
  suits_begun = subst (Suits table s) at.is suits

  pub one_here : (copies : List Value) → map view copies ≡ values → is_around tracker ≡ true → length copies ≡ 1
  one_here copies same around =
      sym (length-map copies view) ∙ ap length same ∙ one_seen table s tracker at.children values suits_begun at.has around

  copied_so : copyable tree ≡ (if is_nil (vals_tokens (vals_of values)) then Some (value_as tracker (vals_of values)) else None)
  copied_so = ap copyable at.is ∙ copied_parts table s tracker at.children values suits_begun at.has

  pub parts_copied : (copies : List Value) (v : Val) → map view copies ≡ values → true ≡ is_nil (vals_tokens (vals_of values))
      → v ≡ value_as tracker (vals_view copies) → Some v ≡ copyable tree
  parts_copied copies v same light made =
      ap Some (made ∙ ap (λ (vs : List Val). value_as tracker (vals_of vs)) same)
      ∙ sym (copied_so ∙ ap (λ (none : Bool). if none then Some (value_as tracker (vals_of values)) else None) (sym light))

  pub parts_held : false ≡ is_nil (vals_tokens (vals_of values)) → None ≡ copyable tree
  parts_held held =
      sym (copied_so ∙ ap (λ (none : Bool). if none then Some (value_as tracker (vals_of values)) else None) (sym held))

-- A copy is there.

pub record IsCopy (seen : Option Val) (v : Val) : Type 0 where
  pub is : seen ≡ Some v
  pub light : tokens v ≡ []

is_copy : (seen : Option Val) (v : Val) → Some v ≡ option_and_then tokenless seen → IsCopy seen v
is_copy None v e = cc
is_copy (Some u) v e = go (is_nil (tokens u)) refl e
  where
    go : (none : Bool) → is_nil (tokens u) ≡ none → Some v ≡ (if none then Some u else None) → IsCopy (Some u) v
    go true none e =
        let same : u ≡ v = cc in
        record { is = ap Some same; light = subst (λ (w : Val). tokens w ≡ []) same (nil_is (tokens u) none) }
    go false none e = cc

module _ (state : State) (v : Val) (copied : Some v ≡ copyable (cursor_tree state)) where
  copy_here : IsCopy (value_seen (cursor_tree state)) v
  copy_here = is_copy (value_seen (cursor_tree state)) v copied

  -- it fits the shape of the place
  pub copy_fits : (table : Table) (root : ℕ) → IsInOrder table root state → fits table (cursor_shape table root state) v ≡ true
  copy_fits table root order =
      seen_fits table (cursor_shape table root state) (cursor_tree state) v
      (suits_at state.mode table root state.cursor state.tree order.leads order.suits) copy_here.is

  -- it holds no token
  copy_holds : (t : ℕ) → occurs v t ≡ 0
  copy_holds t = occurs_times v t ∙ ap (λ (ts : List ℕ). times ts t) copy_here.light

  -- so any ledger has room for it
  pub room_for_copy : (ledger : List ℕ) → Room (occurs v) ledger
  room_for_copy ledger t h = absurd (omega (arith, h, copy_holds t))

  -- and stays as it is where the copy is released
  pub copy_released : (before after : List ℕ) → RoseBy (occurs v) before after → after ≡ before
  copy_released before after rose =
      ext_get_or 0 after before rose.same_length (λ t _. omega (arith, rose.each t, copy_holds t))

-- Its element is read.

pub own_is : (own : Option ℕ) (s : ℕ) → is_found own s ≡ true → own ≡ Some s
own_is (Some n) s e = ap Some (eqb-true n s e)
own_is None s e = cc

-- what fits is taken, and so doesn't mismatch
pub never_mismatched : (fit is_element : Bool) (fault : FacetFault) → fit ≡ true → fit ≡ is_element → fault ≡ FacetFault.Mismatch
    → IsRefusedIf is_element fault → ⊥
never_mismatched fit is_element fault fits_so same is refused =
    let none : is_element ≡ false = subst (IsRefusedIf is_element) is refused in cc
