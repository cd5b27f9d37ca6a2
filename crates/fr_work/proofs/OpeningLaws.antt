-- Beginning a list, an array, a map or a set, as a place's definition tells: what it comes to.
use Rattle.std.proofs.Common.{◌≡◌, ℕ, Bool, true, false, Option, Some, None, IsSome, Result, Ok, if◌then◌else◌, refl, sym, ◌∙◌, ap, subst}
use Rattle.fr_work.specs.Common.{Call, Change, ComesTo, Def, EntriesKind, ItemsKind, MayOpenAs, Move, Operation, Sees, ShapeId, Site, Suits, Table, Tracker, Tree, Val, as_elements, as_entries, as_items, at_shape, begun, cursor_tree, def_of, entered, fits, hole, init_array_refusal, init_list_refusal, init_map_refusal, init_set_refusal, is_begun, is_dynamic, list_of, option_or, parts_as, shape_at, tracker_of, unit, whole, ContentKind, ReflectErrorKind, State, as_content, change_at, fresh, is_begun_conversion, one_more_call, opened}
use Rattle.fr_shape.specs.Val.{map_of, set_of}
use Rattle.fr_model.specs.Collections.{unless_map, unless_set}
use Rattle.fr_model.specs.Items.{unless_list}
use Rattle.fr_model.specs.Places.{count_children, entries_of, items_of, set_items_of}
use Rattle.fr_model.specs.Well.{HasElements}
use Rattle.fr_frame.specs.declared.places.EntriesKind.{EntriesKind as MadeEntries}
use Rattle.fr_frame.specs.declared.places.ItemsKind.{ItemsKind as MadeItems}
use Rattle.fr_frame.specs.declared.places.Tracker.{Tracker as Made}
use Rattle.fr_refusals.specs.declared.dynamic_places.DynamicParts.{DynamicParts}
use Rattle.fr_moves.specs.SuitLaws.{suits_here}
use Rattle.fr_values.proofs.MadeDynamic.{settled_plain}
use Rattle.fr_work.proofs.DecidingLaws.{remains}
use Rattle.fr_moves.specs.FitLaws.{fits_apart}
use Rattle.fr_work.proofs.SeenLaws.{array_seen, def_seen, dynamic_seen, list_seen, map_seen, set_seen}
use Rattle.fr_moves.specs.Moving.{opened_here}
use Rattle.fr_moves.specs.StateLaws.{IsSiteInOrder}
use Rattle.fr_moves.specs.TreeLaws.{alike_here}

-- Which may be opened.

-- a place of shape s, which isn't begun, is begun so, with as many parts as a whole value has
record Gathers (table : Table) (s : ℕ) (tracker : Tracker) : Type 0 where
  tracker_is : tracker ≡ tracker_of (def_of table s)
  none_yet : 0 ≡ count_children (def_of table s)
  parts : (v : Val) → fits table s v ≡ true → IsSome (parts_as tracker v)

gathers_list : (table : Table) (s : ℕ) (t : ShapeId) → def_of table s ≡ Def.List t → Gathers table s (as_items ItemsKind.List)
gathers_list table s t is = record { tracker_is = ap tracker_of (sym is); none_yet = ap count_children (sym is); parts = parts }
  where
    parts : (v : Val) → fits table s v ≡ true → IsSome (items_of v)
    parts (list_of vs) h = refl
    parts unit h = cc
    parts _ h = let no = rw (settled_plain table s (Def.List t) is (λ other. cc)) at h in cc

gathers_map : (table : Table) (s : ℕ) (key item : ShapeId) → def_of table s ≡ Def.Map key item → Gathers table s (as_entries (EntriesKind.Map 0))
gathers_map table s key item is =
    record { tracker_is = ap tracker_of (sym is); none_yet = ap count_children (sym is); parts = parts }
  where
    parts : (v : Val) → fits table s v ≡ true → IsSome (entries_of v)
    parts (map_of es) h = refl
    parts unit h = cc
    parts _ h = let no = rw (settled_plain table s (Def.Map key item) is (λ other. cc)) at h in cc

gathers_set : (table : Table) (s : ℕ) (t : ShapeId) → def_of table s ≡ Def.Set t → Gathers table s (as_items ItemsKind.Set)
gathers_set table s t is = record { tracker_is = ap tracker_of (sym is); none_yet = ap count_children (sym is); parts = parts }
  where
    parts : (v : Val) → fits table s v ≡ true → IsSome (set_items_of v)
    parts (set_of vs) h = refl
    parts unit h = cc
    parts _ h = let no = rw (settled_plain table s (Def.Set t) is (λ other. cc)) at h in cc

-- by its refusal
of_list : (table : Table) (s : ℕ) (operation : Operation) → is_dynamic (def_of table s) ≡ false
    → at_shape s (unless_list operation (def_of table s)) ≡ None → Gathers table s (as_items ItemsKind.List)
of_list table s operation other e = go (def_of table s) refl other e
  where
    go : (def : Def) → def_of table s ≡ def → is_dynamic def ≡ false → at_shape s (unless_list operation def) ≡ None
        → Gathers table s (as_items ItemsKind.List)
    go (Def.List t) is other e = gathers_list table s t is
    go _ is other e = cc

of_map : (table : Table) (s : ℕ) → is_dynamic (def_of table s) ≡ false
    → at_shape s (unless_map Operation.InitMapOfOther (def_of table s)) ≡ None → Gathers table s (as_entries (EntriesKind.Map 0))
of_map table s other e = go (def_of table s) refl other e
  where
    go : (def : Def) → def_of table s ≡ def → is_dynamic def ≡ false
        → at_shape s (unless_map Operation.InitMapOfOther def) ≡ None → Gathers table s (as_entries (EntriesKind.Map 0))
    go (Def.Map key item) is other e = gathers_map table s key item is
    go _ is other e = cc

of_set : (table : Table) (s : ℕ) → at_shape s (unless_set Operation.InitSetOfOther (def_of table s)) ≡ None
    → Gathers table s (as_items ItemsKind.Set)
of_set table s e = go (def_of table s) refl e
  where
    go : (def : Def) → def_of table s ≡ def → at_shape s (unless_set Operation.InitSetOfOther def) ≡ None
        → Gathers table s (as_items ItemsKind.Set)
    go (Def.Set t) is e = gathers_set table s t is
    go _ is e = cc

opens : (table : Table) (s : ℕ) (tracker : Tracker) (tree : Tree) → (is_begun tree ≡ false → Gathers table s tracker)
    → is_begun_conversion tree ≡ false → Suits table s tree → MayOpenAs (def_of table s) tracker 0 tree
opens table s tracker entered gathers apart suits = ((gathers refl).tracker_is, (gathers refl).none_yet)
opens table s tracker (whole v) gathers apart suits =
    ((gathers refl).tracker_is, ((gathers refl).parts v suits, fits_apart table s v suits))
opens table s tracker (begun made ts) gathers apart suits = λ converts. let no : true ≡ false = sym converts ∙ apart in cc
opens table s tracker hole gathers apart suits = tt

-- no conversion is begun so
list_apart : (s : ℕ) (def : Def) (tree : Tree) → None ≡ init_list_refusal s def tree → is_begun_conversion tree ≡ false
list_apart s def (begun (as_content (ContentKind.Source conversion)) ts) may = cc
list_apart s def _ may = refl

map_apart : (s : ℕ) (def : Def) (tree : Tree) → None ≡ init_map_refusal s def tree → is_begun_conversion tree ≡ false
map_apart s def (begun (as_content (ContentKind.Source conversion)) ts) may = cc
map_apart s def _ may = refl

set_apart : (s : ℕ) (def : Def) (tree : Tree) → None ≡ init_set_refusal s def tree → is_begun_conversion tree ≡ false
set_apart s def (begun (as_content (ContentKind.Source conversion)) ts) may = cc
set_apart s def _ may = refl

list_opens : (table : Table) (s : ℕ) (tree : Tree) → is_dynamic (def_of table s) ≡ false
    → None ≡ init_list_refusal s (def_of table s) tree → is_begun tree ≡ false → Gathers table s (as_items ItemsKind.List)
list_opens table s (whole v) other may not = of_list table s Operation.InitListOfWholeOther other (sym may)
list_opens table s (begun tracker ts) other may not = cc
list_opens table s _ other may not = of_list table s Operation.InitListOfOther other (sym may)

map_opens : (table : Table) (s : ℕ) (tree : Tree) → is_dynamic (def_of table s) ≡ false
    → None ≡ init_map_refusal s (def_of table s) tree → is_begun tree ≡ false → Gathers table s (as_entries (EntriesKind.Map 0))
map_opens table s (begun tracker ts) other may not = cc
map_opens table s _ other may not = of_map table s other (sym may)

set_opens : (table : Table) (s : ℕ) (tree : Tree) → None ≡ init_set_refusal s (def_of table s) tree
    → is_begun tree ≡ false → Gathers table s (as_items ItemsKind.Set)
set_opens table s (begun tracker ts) may not = cc
set_opens table s _ may not = of_set table s (sym may)

never_whole : (first : Option Operation) (operation : Operation) → option_or first (Some operation) ≡ None → ⊥
never_whole (Some refused) operation e = cc
never_whole None operation e = cc

array_opens : (def : Def) (count : ℕ) (tree : Tree) → HasElements def count → init_array_refusal def tree ≡ None
    → MayOpenAs def as_elements count tree
array_opens (Def.Array t n) count entered has may = (refl, has)
array_opens (Def.Array t n) count (whole v) has may = absurd (never_whole _ Operation.InitArrayOfBegun may)
array_opens (Def.Array t n) count (begun made ts) has may = λ converts. (refl, has)
array_opens (Def.Array t n) count hole has may = tt
array_opens _ count _ has may = absurd has

-- What it comes to, by what the site sees.
module _ {site : Site} {table : Table} {shape : ShapeId} {seen : Tree} (at : Sees site table shape seen) where
  pub array_begins : (count : ℕ) → HasElements (def_of table shape.0) count
      → None ≡ init_array_refusal (def_of table shape.0) seen
      → ComesTo site Call.InitArray (Move.Stay (Change.Open (record { tracker = Made.Elements; count = count })))
  array_begins count has is =
      let may = sym (is ∙ array_seen at) in
      remains site Call.InitArray _ refl (λ t. refl) (
        array_opens (def_of site.shapes (shape_at site)) count (cursor_tree site.state)
            (subst (λ (def : Def). HasElements def count) (def_seen at) has) may,
        tt,
        refl,
      ) (λ hooks. rw may refl)

  -- a set, a list or a map, where the state is in order
  module _ (ordered : IsSiteInOrder site) where
    opens_here : (tracker : Tracker) → (is_begun (cursor_tree site.state) ≡ false → Gathers site.shapes (shape_at site) tracker)
        → is_begun_conversion (cursor_tree site.state) ≡ false
        → MayOpenAs (def_of site.shapes (shape_at site)) tracker 0 (cursor_tree site.state)
    opens_here tracker gathers apart =
        opens site.shapes (shape_at site) tracker (cursor_tree site.state) gathers apart (suits_here site ordered)

    -- where it is no conversion, nothing starts anew
    opened_so : is_begun_conversion (cursor_tree site.state) ≡ false → ◌≡◌ {A = Result State ReflectErrorKind}
        (Ok (record site.state {
          tree = change_at site.state.cursor (opened (def_of site.shapes (shape_at site))) site.state.tree;
          calls = one_more_call site.state.calls;
        })) (Ok (record site.state {
          tree = change_at site.state.cursor (opened_here (def_of site.shapes (shape_at site))) site.state.tree;
          calls = one_more_call site.state.calls;
        }))
    opened_so apart =
        let def : Def = def_of site.shapes (shape_at site) in
        ap (λ (t : Tree). Ok (record site.state { tree = t; calls = one_more_call site.state.calls }))
        (alike_here site.state.cursor (opened def) (opened_here def) site.state.tree
        (ap (λ (b : Bool). opened def (if b then fresh def else cursor_tree site.state)) (sym apart)))

    pub set_begins : None ≡ init_set_refusal shape.0 (def_of table shape.0) seen
        → ComesTo site Call.InitSet (Move.Stay (Change.Open (record { tracker = Made.Items MadeItems.Set; count = 0 })))
    set_begins is =
        let may = is ∙ set_seen at in
        remains site Call.InitSet _ refl (λ t. refl) (
          opens_here (as_items ItemsKind.Set) (set_opens site.shapes (shape_at site) (cursor_tree site.state) may)
              (set_apart (shape_at site) _ (cursor_tree site.state) may),
          tt,
          refl,
        )
        (λ hooks. rw (← may) (opened_so (set_apart (shape_at site) _ (cursor_tree site.state) may)))

    of_dynamic : (known : Bool) → known ≡ is_dynamic (def_of table shape.0)
        → is_dynamic (def_of site.shapes (shape_at site)) ≡ known
    of_dynamic known is = sym (is ∙ dynamic_seen at)

    pub list_begins : false ≡ is_dynamic (def_of table shape.0) → None ≡ init_list_refusal shape.0 (def_of table shape.0) seen
        → ComesTo site Call.InitList (Move.Stay (Change.Open (record { tracker = Made.Items MadeItems.List; count = 0 })))
    list_begins other is =
        let may = is ∙ list_seen at in
        let plain = of_dynamic false other in
        remains site Call.InitList _ refl (λ t. refl) (
          opens_here (as_items ItemsKind.List) (list_opens site.shapes (shape_at site) (cursor_tree site.state) plain may)
              (list_apart (shape_at site) _ (cursor_tree site.state) may),
          tt,
          refl,
        )
        (λ hooks. rw (← may, plain) (opened_so (list_apart (shape_at site) _ (cursor_tree site.state) may)))

    pub map_begins : false ≡ is_dynamic (def_of table shape.0) → None ≡ init_map_refusal shape.0 (def_of table shape.0) seen
        → ComesTo site Call.InitMap (Move.Stay (Change.Open (record { tracker = Made.Entries (MadeEntries.Map 0); count = 0 })))
    map_begins other is =
        let may = is ∙ map_seen at in
        let plain = of_dynamic false other in
        remains site Call.InitMap _ refl (λ t. refl) (
          opens_here (as_entries (EntriesKind.Map 0)) (map_opens site.shapes (shape_at site) (cursor_tree site.state) plain may)
              (map_apart (shape_at site) _ (cursor_tree site.state) may),
          tt,
          refl,
        )
        (λ hooks. rw (← may, plain) (opened_so (map_apart (shape_at site) _ (cursor_tree site.state) may)))

    -- a dynamic place gathers elements or entries instead
    pub elements_begin : true ≡ is_dynamic (def_of table shape.0) → None ≡ init_list_refusal shape.0 (def_of table shape.0) seen
        → ComesTo site Call.InitList (Move.Stay (Change.Gather DynamicParts.Elements))
    elements_begin dynamic is =
        let may = is ∙ list_seen at in
        remains site Call.InitList _ refl (λ t. refl) tt (λ hooks. rw (← may, of_dynamic true dynamic) refl)

    pub entries_begin : true ≡ is_dynamic (def_of table shape.0) → None ≡ init_map_refusal shape.0 (def_of table shape.0) seen
        → ComesTo site Call.InitMap (Move.Stay (Change.Gather DynamicParts.Entries))
    entries_begin dynamic is =
        let may = is ∙ map_seen at in
        remains site Call.InitMap _ refl (λ t. refl) tt (λ hooks. rw (← may, of_dynamic true dynamic) refl)
