-- A place at the cursor as its children see it, and the entry of one of them.
use Rattle.std.proofs.Common.{◌≡◌, ◌+◌, ◌<◌, ◌≤◌, ◌∷◌, if◌then◌else◌}
use Rattle.fr_model.proofs.Common.{ℕ, zero, suc, true, false, List, [], length, Option, Some, None, refl, sym, ◌∙◌, ap, subst, arith, Def, ShapeId, StructDef, EnumDef, VariantDef, Field, is_empty_struct, is_nil, Table, def_of, Val, Vals, unit, product, no_vals, first, fits, fields_fit, is_set_tracker, ends_in_hole, array_limit, vals_nth, entered_at, Journal, Held, written, just_entered, untouched, at_least_entered, held, Tracker, as_fields, as_elements, as_content, ContentKind, is_conversion, is_begun_conversion, without_source, Bool, as_entries, EntriesKind, tracker_of, tracker_at, over_base, selected, Tree, hole, entered, whole, begun, Trees, no_trees, branch, tree_nth, change_nth, change_child, child_as, count_trees, holes, wholes, fresh, Mode, strict, deferred, HasParts, opened, enter, enter_child, fields_or_none, variant_fields, HasFieldsOf, IsFullAs, IsBegunAs, IsTouched, IsContent, AreTouched, AreEntries, IsBehindBase, IsBegunRightly, Suits, IsOff, AllOff, MayWorkAt, AtCursor, OffBut, Leads, RestsAround}
use Rattle.fr_model.proofs.JournalBelow.{down, held_down, IsLow, untouched_below, written_below}
use Rattle.fr_model.proofs.Agreement.{IsWhole, by_value, by_entry, Agrees, AgreeAll, agree_change, down_same, down_other}
use Rattle.fr_model.proofs.Wholes.{base_hole}
use Rattle.fr_model.proofs.TokensInTrees.{fresh_is}
use Rattle.fr_model.proofs.Structs.{right_kept, SuitFrom, settled_as, all_from, wholes_suit, count_change, count_holes, holes_suit, suit_change}

-- the place isn't a value
abbrev pub IsOpen : Tree → Type 0
IsOpen (whole v) = ⊥
IsOpen _ = Unit {0}

-- child i of the place of shape s may be entered: a field of a struct, an element of an array that isn't whole and not too large, a
-- field of the variant that is selected, or the value of a map's last entry; of a conversion it is none
pub data Enterable (table : Table) (s i : ℕ) (t : Tree) : Type 0 where
  a_field : (struct : StructDef) → def_of table s ≡ Def.Struct struct → i < length struct.fields → is_begun_conversion t ≡ false
      → Enterable table s i t
  an_element : (item : ShapeId) (n : ℕ) → def_of table s ≡ Def.Array item n → i < n → n ≤ array_limit → IsOpen t
      → is_begun_conversion t ≡ false → Enterable table s i t
  a_variant_field : (k : ℕ) (enumeration : EnumDef) → def_of table s ≡ Def.Enum enumeration → selected t ≡ Some k
      → i < length (variant_fields (def_of table s) k) → Enterable table s i t
  a_value : (key item : ShapeId) → def_of table s ≡ Def.Map key item → (base : ℕ) (children : Trees) → t ≡ begun (as_entries (EntriesKind.Map base)) children
      → suc i ≡ count_trees children → ends_in_hole children ≡ true → Enterable table s i t

pub begun_fields : (struct : StructDef) (tracker : Tracker) (n : ℕ) → is_conversion tracker ≡ false → IsFullAs (Def.Struct struct) tracker n
    → n ≡ length struct.fields
begun_fields struct (as_fields None) n apart full_as = full_as
begun_fields struct (as_content (ContentKind.Source conversion)) n apart full_as = cc
begun_fields struct _ n apart full_as = absurd full_as

pub begun_elements : (item : ShapeId) (m : ℕ) (tracker : Tracker) (n : ℕ) → is_conversion tracker ≡ false
    → IsFullAs (Def.Array item m) tracker n → n ≡ m
begun_elements item m as_elements n apart full_as = full_as
begun_elements item m (as_content (ContentKind.Source conversion)) n apart full_as = cc
begun_elements item m _ n apart full_as = absurd full_as

pub begun_variant : (def : Def) (k n : ℕ) → IsFullAs def (as_fields (Some k)) n → n ≡ length (variant_fields def k)
begun_variant (Def.Enum enumeration) k n full_as = go _ full_as
  where
    go : (found : Option VariantDef) → HasFieldsOf found n → n ≡ length (fields_or_none found)
    go (Some variant) full_as = full_as
    go None full_as = absurd full_as
begun_variant _ k n full_as = absurd full_as

-- a begun place has the child
begun_within : (table : Table) (s i : ℕ) (tracker : Tracker) (ts : Trees) → Enterable table s i (begun tracker ts)
    → IsFullAs (def_of table s) tracker (count_trees ts) → i < count_trees ts
begun_within table s i tracker ts (a_field struct is below apart) full_as =
    omega (arith, below, begun_fields struct tracker _ apart (rw is at full_as))
begun_within table s i tracker ts (an_element item n is below few not_whole apart) full_as =
    omega (arith, below, begun_elements item n tracker _ apart (rw is at full_as))
begun_within table s i (as_fields (Some j)) ts (a_variant_field k enumeration is chosen below) full_as =
    let same : j ≡ k = cc in
    let count : count_trees ts ≡ length _ = subst (λ (n : ℕ). count_trees ts ≡ length (variant_fields (def_of table s) n)) same
    (begun_variant (def_of table s) j (count_trees ts) full_as) in
    omega (arith, below, count)
begun_within table s i _ ts (a_variant_field k enumeration is chosen below) full_as = cc
begun_within table s i tracker ts (a_value key item is base children there last lacking) full_as =
    let same : ts ≡ children = cc in
    let count : count_trees ts ≡ count_trees children = ap count_trees same in
    omega arith

-- and is no conversion
enterable_begun : (table : Table) (s i : ℕ) (tracker : Tracker) (ts : Trees) → Enterable table s i (begun tracker ts)
    → is_conversion tracker ≡ false
enterable_begun table s i tracker ts (a_field struct is below apart) = apart
enterable_begun table s i tracker ts (an_element item n is below few not_whole apart) = apart
enterable_begun table s i (as_fields (Some j)) ts (a_variant_field k enumeration is chosen below) = refl
enterable_begun table s i _ ts (a_variant_field k enumeration is chosen below) = cc
enterable_begun table s i tracker ts (a_value key item is base children there last lacking) =
    let same : tracker ≡ as_entries (EntriesKind.Map base) = cc in ap is_conversion same

-- a place begun so is no set and has no base
abbrev IsApart : Tracker → Type 0
IsApart tracker = (is_set_tracker tracker ≡ false) × ((i : ℕ) → IsBehindBase tracker i)

fields_apart : (struct : StructDef) (tracker : Tracker) (n : ℕ) → IsFullAs (Def.Struct struct) tracker n → IsApart tracker
fields_apart struct (as_fields None) n full_as = (refl, λ i. tt)
fields_apart struct (as_content kind) n full_as = (refl, λ i. tt)
fields_apart struct _ n full_as = absurd full_as

elements_apart : (item : ShapeId) (m : ℕ) (tracker : Tracker) (n : ℕ) → IsFullAs (Def.Array item m) tracker n → IsApart tracker
elements_apart item m as_elements n full_as = (refl, λ i. tt)
elements_apart item m (as_content kind) n full_as = (refl, λ i. tt)
elements_apart item m _ n full_as = absurd full_as

variant_apart : (enumeration : EnumDef) (tracker : Tracker) (n : ℕ) → IsFullAs (Def.Enum enumeration) tracker n → IsApart tracker
variant_apart enumeration (as_fields (Some k)) n full_as = (refl, λ i. tt)
variant_apart enumeration (as_content kind) n full_as = (refl, λ i. tt)
variant_apart enumeration _ n full_as = absurd full_as

map_no_set : (key item : ShapeId) (tracker : Tracker) (n : ℕ) → IsFullAs (Def.Map key item) tracker n → is_set_tracker tracker ≡ false
map_no_set key item (as_entries (EntriesKind.Map base)) n full_as = refl
map_no_set key item (as_content kind) n full_as = refl
map_no_set key item _ n full_as = absurd full_as

-- a place of which a child is entered so is no set, and the child isn't in its base, for that has all its values
pub enterable_apart : (table : Table) (s i : ℕ) (t : Tree) (tracker : Tracker) (n : ℕ) → Enterable table s i t
    → IsFullAs (def_of table s) tracker n → (is_set_tracker tracker ≡ false)
    × (tracker_at (def_of table s) t ≡ tracker → RestsAround [] t → IsBehindBase tracker i)
enterable_apart table s i t tracker n (a_field struct is below apart) full_as =
    let by = fields_apart struct tracker n (rw is at full_as) in (by.0, λ formed rested. by.1 i)
enterable_apart table s i t tracker n (an_element item m is below few not_whole apart) full_as =
    let by = elements_apart item m tracker n (rw is at full_as) in (by.0, λ formed rested. by.1 i)
enterable_apart table s i t tracker n (a_variant_field k enumeration is chosen below) full_as =
    let apart = variant_apart enumeration tracker n (rw is at full_as) in (apart.0, λ formed rested. apart.1 i)
enterable_apart table s i t tracker n (a_value key item is base children there last lacking) full_as = (
  map_no_set key item tracker n (rw is at full_as),
  λ formed rested.
      let rests : RestsAround [] (begun (as_entries (EntriesKind.Map base)) children) = subst (RestsAround []) there rested in
      let same : as_entries _ ≡ tracker = ap (tracker_at _) (sym there) ∙ formed in
      subst (λ (one : Tracker). IsBehindBase one i) same (base_hole base i children rests.0 lacking last),
)

-- a content that is there stays there
pub content_changed : (ts : Trees) (i : ℕ) (change : Tree → Tree) → IsTouched (change (tree_nth i ts)) → IsContent ts
    → IsContent (change_nth i change ts)
content_changed no_trees i change touched has = absurd has
content_changed (branch t ts) zero change touched has = touched
content_changed (branch t ts) (suc i) change touched has = has

all_changed : (ts : Trees) (i : ℕ) (change : Tree → Tree) → IsTouched (change (tree_nth i ts)) → AreTouched ts
    → AreTouched (change_nth i change ts)
all_changed no_trees i change touched has = tt
all_changed (branch t ts) zero change touched has = (touched, has.1)
all_changed (branch t ts) (suc i) change touched has = (has.0, all_changed ts i change touched has.1)

entries_changed : (ts : Trees) (i : ℕ) (change : Tree → Tree) → IsTouched (change (tree_nth i ts)) → AreEntries ts
    → AreEntries (change_nth i change ts)
entries_changed no_trees i change touched are = tt
entries_changed (branch key no_trees) i change touched are = absurd are
entries_changed (branch key (branch value no_trees)) zero change touched are = touched
entries_changed (branch key (branch value no_trees)) (suc zero) change touched are = are
entries_changed (branch key (branch value no_trees)) (suc (suc i)) change touched are = are
entries_changed (branch key (branch value (branch next rest))) zero change touched are = (touched, are.1, are.2)
entries_changed (branch key (branch value (branch next rest))) (suc zero) change touched are = (are.0, touched, are.2)
entries_changed (branch key (branch value (branch next rest))) (suc (suc i)) change touched are =
    entries_after key value i change next rest are (entries_changed (branch next rest) i change touched are.2)
  where
    entries_after : (key value : Tree) (i : ℕ) (change : Tree → Tree) (next : Tree) (rest : Trees)
        → AreEntries (branch key (branch value (branch next rest))) → AreEntries (change_nth i change (branch next rest))
        → AreEntries (branch key (branch value (change_nth i change (branch next rest))))
    entries_after key value zero change next rest are after = (are.0, are.1, after)
    entries_after key value (suc i) change next rest are after = (are.0, are.1, after)

pub rightly_changed : (table : Table) (s : ℕ) (tracker : Tracker) (ts : Trees) (i : ℕ) (change : Tree → Tree)
    → IsTouched (change (tree_nth i ts)) → IsBegunRightly table s tracker ts → IsBegunRightly table s tracker (change_nth i change ts)
rightly_changed table s tracker ts i change touched =
    right_kept table s tracker ts _ (content_changed ts i change touched) (all_changed ts i change touched)
    (entries_changed ts i change touched)

-- the children that a place that is begun so has, or gets when child i is entered
pub record Opening (mode : Mode) (table : Table) (s i : ℕ) (tracker : Tracker) (t : Tree) : Type 0 where
  pub children : Trees
  pub is : opened (def_of table s) t ≡ begun tracker children
  pub begun_as : IsBegunAs (def_of table s) tracker (count_trees children)
  pub suit : SuitFrom table s tracker 0 children
  pub rightly : IsBegunRightly table s tracker children
  pub within : i < count_trees children
  pub apart : is_conversion tracker ≡ false
  pub off : AllOff mode children
  pub agree : (notes : Journal) → Agrees table s notes t → AgreeAll table s tracker notes 0 children × HasParts tracker

-- holes

pub hole_off : (mode : Mode) → IsOff mode hole
hole_off strict = tt
hole_off (deferred start) = tt

pub holes_off : (mode : Mode) (n : ℕ) → AllOff mode (holes n)
holes_off mode zero = tt
holes_off mode (suc n) = (hole_off mode, holes_off mode n)

holes_agree : (table : Table) (s : ℕ) (tracker : Tracker) (n i : ℕ) (notes : Journal)
    → ((j : ℕ) → held (down j notes) [] ≡ untouched) → AgreeAll table s tracker notes i (holes n)
holes_agree table s tracker zero i notes none = tt
holes_agree table s tracker (suc n) i notes none = (none i, holes_agree table s tracker n (suc i) notes none)

-- whole children

pub whole_off : (mode : Mode) (v : Val) → IsOff mode (whole v)
whole_off strict v = tt
whole_off (deferred start) v = tt

pub wholes_off : (mode : Mode) (vs : Vals) → AllOff mode (wholes vs)
wholes_off mode no_vals = tt
wholes_off mode (first v vs) = (whole_off mode v, wholes_off mode vs)

pub wholes_touched : (vs : Vals) → AreTouched (wholes vs)
wholes_touched no_vals = tt
wholes_touched (first v vs) = (tt, wholes_touched vs)

wholes_agree : (table : Table) (s : ℕ) (tracker : Tracker) (vs : Vals) (i : ℕ) (notes : Journal)
    → ((d j : ℕ) → j ≡ i + d → held (down j notes) [] ≡ written (vals_nth vs d)) → AgreeAll table s tracker notes i (wholes vs)
wholes_agree table s tracker no_vals i notes each = tt
wholes_agree table s tracker (first v vs) i notes each = (
  by_value (each 0 i (omega arith)),
  wholes_agree table s tracker vs (suc i) notes (λ d j e. each (suc d) j (omega arith)),
)

-- all that may stand at the cursor

-- the builder may work at what is no conversion
pub may_work : (mode : Mode) (tracker : Tracker) → is_conversion tracker ≡ false → MayWorkAt mode tracker
may_work strict tracker apart = apart
may_work (deferred start) tracker apart = tt

opening_holes : (mode : Mode) (table : Table) (s i n : ℕ) (tracker : Tracker) → HasParts tracker → is_conversion tracker ≡ false
    → opened (def_of table s) entered ≡ begun tracker (holes n) → IsBegunAs (def_of table s) tracker n
    → IsBegunRightly table s tracker (holes n) → i < n → Opening mode table s i tracker entered
opening_holes mode table s i n tracker parts apart is begun_as rightly below = record {
  children = holes n;
  is = is;
  begun_as = subst (λ (m : ℕ). IsBegunAs (def_of table s) tracker m) (sym (count_holes n)) begun_as;
  suit = holes_suit table s tracker 0 n;
  rightly = rightly;
  within = omega (arith, below, count_holes n);
  apart = apart;
  off = holes_off mode n;
  agree = λ notes agrees. (
    holes_agree table s tracker n 0 notes (λ j. sym (held_down j notes []) ∙ untouched_below j notes [] (subst IsLow (sym agrees) tt)),
    parts,
  );
}

opening_entered : (mode : Mode) (table : Table) (s i : ℕ) → Enterable table s i entered
    → Opening mode table s i (tracker_at (def_of table s) entered) entered
opening_entered mode table s i (a_field struct is below apart) =
    subst (λ (tracker : Tracker). Opening mode table s i tracker entered) (sym (ap tracker_of is))
    (opening_holes mode table s i _ _ tt refl (rw is refl) (rw is (refl, omega arith)) tt below)
opening_entered mode table s i (an_element item n is below few not_whole apart) =
    subst (λ (tracker : Tracker). Opening mode table s i tracker entered) (sym (ap tracker_of is))
    (opening_holes mode table s i n as_elements tt refl (rw is refl) (rw is (refl, few)) tt below)
opening_entered mode table s i (a_variant_field k enumeration is chosen below) = cc
opening_entered mode table s i (a_value key item is base children there last lacking) = cc

product_agrees : (table : Table) (s : ℕ) (vs : Vals) (notes : Journal) → IsWhole table s (product vs) (held notes [])
    → AgreeAll table s (as_fields None) notes 0 (wholes vs)
product_agrees table s vs notes (by_value is) =
    wholes_agree table s _ vs 0 notes (λ d j e. sym (held_down j notes []) ∙ written_below j notes [] _ is
    ∙ ap (λ (m : ℕ). written (vals_nth vs m)) (omega arith))
product_agrees table s no_vals notes (by_entry is empty same) = tt
product_agrees table s (first v vs) notes (by_entry is empty same) = cc

opening_product : (mode : Mode) (table : Table) (s i : ℕ) (struct : StructDef) (vs : Vals) → def_of table s ≡ Def.Struct struct
    → i < length struct.fields → fields_fit table struct.fields vs ≡ true → Opening mode table s i (as_fields None) (whole (product vs))
opening_product mode table s i struct vs is below fit =
    let suits = wholes_suit table s struct is 0 struct.fields vs (all_from struct.fields) fit in
    record {
      children = wholes vs;
      is = rw is refl;
      begun_as = rw is (suits.count, omega (arith, suits.count));
      suit = suits.suit;
      rightly = tt;
      within = omega (arith, suits.count, below);
      apart = refl;
      off = wholes_off mode vs;
      agree = λ notes agrees. (product_agrees table s vs notes agrees, tt);
    }

opening_whole : (mode : Mode) (table : Table) (s i : ℕ) (struct : StructDef) (v : Val) → def_of table s ≡ Def.Struct struct
    → i < length struct.fields → fits table s v ≡ true → Opening mode table s i (as_fields None) (whole v)
opening_whole mode table s i struct (product vs) is below fit =
    opening_product mode table s i struct vs is below (rw (settled_as table s is refl) at fit)
opening_whole mode table s i struct unit is below fit = cc
opening_whole mode table s i struct _ is below fit = let none = rw (settled_as table s is refl) at fit in cc

opening_begun : (mode : Mode) (table : Table) (s i : ℕ) (tracker : Tracker) (ts : Trees) → Enterable table s i (begun tracker ts)
    → AllOff mode ts → Suits table s (begun tracker ts) → Opening mode table s i tracker (begun tracker ts)
opening_begun mode table s i tracker ts enterable off suits = record {
  children = ts;
  is = refl;
  begun_as = suits.0;
  suit = suits.1;
  rightly = suits.2;
  within = begun_within table s i tracker ts enterable suits.0.0;
  apart = enterable_begun table s i tracker ts enterable;
  off = off;
  agree = λ notes agrees. (agrees.1, agrees.2);
}

pub opening : (mode : Mode) (table : Table) (s i : ℕ) (t : Tree) → Enterable table s i t → AtCursor mode t → Suits table s t
    → Opening mode table s i (tracker_at (def_of table s) t) t
opening mode table s i hole enterable at suits = absurd at
opening mode table s i entered enterable at suits = opening_entered mode table s i enterable
opening mode table s i (whole v) (a_field struct is below apart) at suits =
    subst (λ (tracker : Tracker). Opening mode table s i tracker (whole v)) (sym (ap (λ (def : Def). over_base (tracker_of def) v) is))
    (opening_whole mode table s i struct v is below suits)
opening mode table s i (whole v) (an_element item n is below few not_whole apart) at suits = absurd not_whole
opening mode table s i (whole v) (a_variant_field k enumeration is chosen below) at suits = cc
opening mode table s i (whole v) (a_value key item is base children there last lacking) at suits = cc
opening mode table s i (begun tracker ts) enterable at suits = opening_begun mode table s i tracker ts enterable at.1 suits

-- a fresh place

pub fresh_suits : (table : Table) (s : ℕ) → Suits table s (fresh (def_of table s))
fresh_suits table s = fresh_is (Suits table s) _ (of_def _ refl) (λ e. e)
  where
    empty_fits : (struct : StructDef) → def_of table s ≡ Def.Struct struct → is_nil struct.fields ≡ true
        → fits table s (product no_vals) ≡ true
    empty_fits struct is none = rw (settled_as table s is refl) (of_fields struct.fields none)
      where
        of_fields : (fields : List Field) → is_nil fields ≡ true → fields_fit table fields no_vals ≡ true
        of_fields [] none = refl
        of_fields _ none = cc

    of_def : (def : Def) → def_of table s ≡ def → is_empty_struct def ≡ true → fits table s (product no_vals) ≡ true
    of_def (Def.Struct struct) is none = empty_fits struct is none
    of_def _ is none = cc

pub fresh_at_cursor : (mode : Mode) (def : Def) → AtCursor mode (fresh def)
fresh_at_cursor mode def = fresh_is (AtCursor mode) def (λ e. tt) (λ e. tt)

-- a place that starts anew where it is a conversion

pub without_source_is : (Is : Tree → Type 0) (def : Def) (t : Tree) → (is_begun_conversion t ≡ true → Is (fresh def))
    → (is_begun_conversion t ≡ false → Is t) → Is (without_source def t)
without_source_is Is def t anew same = go (is_begun_conversion t) refl
  where
    go : (b : Bool) → is_begun_conversion t ≡ b → Is (if b then fresh def else t)
    go true conversion = anew conversion
    go false apart = same apart

pub without_source_suits : (table : Table) (s : ℕ) (t : Tree) → Suits table s t → Suits table s (without_source (def_of table s) t)
without_source_suits table s t suits = without_source_is (Suits table s) _ t (λ anew. fresh_suits table s) (λ apart. suits)

pub without_source_at : (mode : Mode) (def : Def) (t : Tree) → AtCursor mode t → AtCursor mode (without_source def t)
without_source_at mode def t at = without_source_is (AtCursor mode) def t (λ anew. fresh_at_cursor mode def) (λ apart. at)

pub fresh_apart : (def : Def) → is_begun_conversion (fresh def) ≡ false
fresh_apart def = fresh_is (λ t. is_begun_conversion t ≡ false) def (λ e. refl) (λ e. refl)

pub without_source_apart : (def : Def) (t : Tree) → is_begun_conversion (without_source def t) ≡ false
without_source_apart def t = without_source_is (λ u. is_begun_conversion u ≡ false) def t (λ anew. fresh_apart def) (λ apart. apart)

pub fresh_agrees : (table : Table) (s : ℕ) (notes : Journal) → held notes [] ≡ just_entered → Agrees table s notes (fresh (def_of table s))
fresh_agrees table s notes agrees = fresh_is (Agrees table s notes) _ (λ empty. by_entry agrees empty refl) (λ e. agrees)

-- one child entered

enter_suits : (table : Table) (s : ℕ) (t : Tree) → Suits table s t → Suits table s (enter (def_of table s) t)
enter_suits table s hole suits = fresh_suits table s
enter_suits table s _ suits = suits

-- in deferred mode whatever stands off the way may be half done
pub all_deferred : (start : ℕ) (ts : Trees) → AllOff (deferred start) ts
all_deferred start no_trees = tt
all_deferred start (branch t ts) = (tt, all_deferred start ts)

enter_at_cursor : (mode : Mode) (def : Def) (t : Tree) → IsOff mode t → AtCursor mode (enter def t)
enter_at_cursor mode def hole off = fresh_at_cursor mode def
enter_at_cursor strict def (begun tracker ts) off = absurd off
enter_at_cursor (deferred start) def (begun tracker ts) off = (tt, all_deferred start ts)
enter_at_cursor mode def _ off = tt

enter_leads : (mode : Mode) (def : Def) (i : ℕ) (ts : Trees) → AllOff mode ts → i < count_trees ts
    → OffBut mode i (λ child. AtCursor mode child) (change_nth i (enter def) ts)
enter_leads mode def i no_trees off within = absurd (omega arith)
enter_leads mode def zero (branch t ts) off within = (enter_at_cursor mode def t off.0, off.1)
enter_leads mode def (suc i) (branch t ts) off within = (off.0, enter_leads mode def i ts off.1 (omega arith))

whole_entered : (table : Table) (s : ℕ) (v : Val) (h : Held) → IsWhole table s v h → IsWhole table s v (at_least_entered h)
whole_entered table s v h (by_value e) = by_value (ap at_least_entered e)
whole_entered table s v h (by_entry e empty same) = by_entry (ap at_least_entered e) empty same

enter_agrees : (table : Table) (s : ℕ) (t : Tree) (notes : Journal) → Agrees table s notes t
    → Agrees table s (entered_at [] ∷ notes) (enter (def_of table s) t)
enter_agrees table s hole notes agrees = fresh_agrees table s _ (ap at_least_entered agrees)
enter_agrees table s entered notes agrees = ap at_least_entered agrees
enter_agrees table s (whole v) notes agrees = whole_entered table s v _ agrees
enter_agrees table s (begun tracker ts) notes agrees = (ap at_least_entered agrees.0, seen_alike ts 0 notes agrees.1, agrees.2)
  where
    seen_alike : (ts : Trees) (i : ℕ) (notes : Journal) → AgreeAll table s tracker notes i ts
        → AgreeAll table s tracker (entered_at [] ∷ notes) i ts
    seen_alike no_trees i notes agrees = tt
    seen_alike (branch t ts) i notes agrees = (agrees.0, seen_alike ts (suc i) notes agrees.1)

-- child i entered: the place suits as before, the cursor may go there, and notes agree
pub record Entry (mode : Mode) (table : Table) (s i : ℕ) (t after : Tree) : Type 0 where
  pub suits : Suits table s after
  pub leads : Leads mode (i ∷ []) after
  pub agrees : (notes : Journal) → Agrees table s notes t → Agrees table s (entered_at (i ∷ []) ∷ notes) after

pub enter_touched : (def : Def) (t : Tree) → IsTouched (enter def t)
enter_touched def hole = fresh_is IsTouched def (λ e. tt) (λ e. tt)
enter_touched def _ = tt

entry_opened : (mode : Mode) (table : Table) (s : ℕ) (tracker : Tracker) (i : ℕ) (t : Tree) → Opening mode table s i tracker t
    → Entry mode table s i t (change_child i (enter (def_of table (child_as table s tracker i))) (opened (def_of table s) t))
entry_opened mode table s tracker i t place =
    subst (λ (u : Tree). Entry mode table s i t (change_child i (enter (def_of table (child_as table s tracker i))) u))
    (sym place.is) (record {
      suits = (
        subst (λ (n : ℕ). IsBegunAs (def_of table s) tracker n) (sym (count_change i _ place.children)) place.begun_as,
        suit_change table s tracker i 0 place.children i _ (omega arith) place.suit (λ h. enter_suits table _ _ h),
        rightly_changed table s tracker place.children i _
            (enter_touched (def_of table (child_as table s tracker i)) (tree_nth i place.children)) place.rightly,
      );
      leads = enter_leads mode _ i place.children place.off place.within;
      agrees = λ notes agrees. (
        refl,
        agree_change table s tracker i 0 place.children i notes _ _ (omega arith)
            (λ j apart. down_other i j (entered_at []) notes apart) (place.agree notes agrees).0 (λ h. subst
            (λ (seen : Journal). Agrees table (child_as table s tracker i) seen
            (enter (def_of table (child_as table s tracker i)) (tree_nth i place.children))) (sym (down_same i (entered_at []) notes))
            (enter_agrees table (child_as table s tracker i) (tree_nth i place.children) (down i notes) h)),
        (place.agree notes agrees).1,
      );
    })

pub entry : (mode : Mode) (table : Table) (s i : ℕ) (t : Tree) → Enterable table s i t → AtCursor mode t → Suits table s t
    → Entry mode table s i t (enter_child table s i t)
entry mode table s i t enterable at suits = entry_opened mode table s _ i t (opening mode table s i t enterable at suits)
