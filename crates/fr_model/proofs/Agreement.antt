-- When a journal and a tree say the same, and that they then complete to the same.
use Rattle.std.proofs.Common.{◌≡◌, ◌+◌, ◌<◌, ◌≤◌, ◌==◌, ◌∷◌, ◌++◌}
use Rattle.fr_model.proofs.Common.{ℕ, zero, suc, true, false, List, [], length, Option, Some, None, refl, sym, ◌∙◌, ap, ap₂, subst, arith, option_or, Def, Field, IsChecked, preset_of, is_empty_struct, Meanings, Table, def_of, field_in, is_nil, Val, product, no_vals, Place, Column, count_children, child_count, one_more, product_of, each_child, child_shape, fill_of_field, fill_at, Note, entered_at, wrote_at, Journal, Held, in_parts, written, just_entered, untouched, held, longest, entered_struct, by_entered, entered_value, by_held, by_parts, child_makes, completes_within, completes, Tracker, as_fields, as_elements, Tree, hole, entered, whole, begun, Trees, no_trees, branch, tree_nth, change_nth, tree_at, change_at, shape_in, child_as, count_trees, Mode, complete, complete_all, valid_child, hole_takes, made, made_by, made_of_entered, IsBegunAs, IsTouched, Suits, OffBut, Leads, HasParts}
use Rattle.std.proofs.lemmas.Bool.{eq-eqb}
use Rattle.fr_model.proofs.JournalBelow.{down, along, each_same, child_value, held_down, completes_down, completes_along, longest_down, longest_along, parts_long}
use Rattle.fr_model.proofs.Structs.{made_product, SuitFrom}
use Rattle.fr_model.proofs.Templates.{option_preset}
use Rattle.fr_model.proofs.Plain.{AllPlain, plain_child, valid_same}

-- what a journal holds of a whole place of shape s: its value, or, of a struct without fields, that it was entered
pub data IsWhole (table : Table) (s : ℕ) (v : Val) (h : Held) : Type 0 where
  by_value : h ≡ written v → IsWhole table s v h
  by_entry : h ≡ just_entered → is_empty_struct (def_of table s) ≡ true → v ≡ product no_vals → IsWhole table s v h

-- at each node of the tree, at a place of shape s, the journal holds what the node is
abbrev mutual
  pub Agrees : Table → ℕ → Journal → Tree → Type 0
  Agrees table s notes hole = held notes [] ≡ untouched
  Agrees table s notes entered = held notes [] ≡ just_entered
  Agrees table s notes (whole v) = IsWhole table s v (held notes [])
  Agrees table s notes (begun tracker ts) = (held notes [] ≡ in_parts) × AgreeAll table s tracker notes 0 ts × HasParts tracker

  pub AgreeAll : Table → ℕ → Tracker → Journal → ℕ → Trees → Type 0
  AgreeAll table s tracker notes i no_trees = Unit {0}
  AgreeAll table s tracker notes i (branch t ts) =
      Agrees table (child_as table s tracker i) (down i notes) t × AgreeAll table s tracker notes (suc i) ts

-- completing

by_held_is : (h k : Held) (parts of_entered : Option Val) → h ≡ k → by_held h parts of_entered ≡ by_held k parts of_entered
by_held_is h k parts of_entered e = ap (λ (other : Held). by_held other parts of_entered) e

pub begun_count : (def : Def) (tracker : Tracker) (n : ℕ) → HasParts tracker → IsBegunAs def tracker n → n ≡ count_children def
begun_count (Def.Struct struct) (as_fields None) n parts begun_as = begun_as.0
begun_count (Def.Array t m) as_elements n parts begun_as = begun_as.0
begun_count _ (as_fields None) n parts begun_as = absurd begun_as.0
begun_count _ as_elements n parts begun_as = absurd begun_as.0
begun_count _ _ n parts begun_as = absurd parts

-- what is begun has parts
begun_makes : (def : Def) (tracker : Tracker) (n : ℕ) (of_parts : Option Val) → HasParts tracker → IsBegunAs def tracker n
    → by_parts def of_parts ≡ of_parts
begun_makes (Def.Struct struct) (as_fields None) n of_parts parts begun_as = refl
begun_makes (Def.Array t m) as_elements n of_parts parts begun_as = refl
begun_makes _ (as_fields None) n of_parts parts begun_as = absurd begun_as.0
begun_makes _ as_elements n of_parts parts begun_as = absurd begun_as.0
begun_makes _ _ n of_parts parts begun_as = absurd parts

-- a hole takes what the journal says of an untouched child
pub begun_takes : (column : Column) (table : Table) (s : ℕ) (tracker : Tracker) (n : ℕ) → HasParts tracker
    → IsBegunAs (def_of table s) tracker n → (k : ℕ) → fill_at column table s k ≡ hole_takes column table s tracker k
begun_takes column table s (as_fields None) n parts count k = refl
begun_takes column table s as_elements n parts count k = go _ count
  where
    go : (def : Def) → IsBegunAs def as_elements n → fill_of_field column table s false (field_in def None k) ≡ None
    go (Def.Array t m) count = refl
    go _ count = absurd count.0
begun_takes column table s _ n parts count k = absurd parts

-- an entered place

entered_same : (column : Column) (hooks : Meanings) (table : Table) (s : ℕ) → IsChecked table → AllPlain table s
    → is_empty_struct (def_of table s) ≡ false → entered_value column table s ≡ made_of_entered column hooks table s
entered_same column hooks table s checked plain fields =
    go (def_of table s) (preset_of table s) refl refl (product_of (each_child (λ k. fill_at column table s k) (child_count table s) 0))
    (product_of (each_child (λ k. valid_child hooks table s (as_fields None) k (fill_at column table s k)) (child_count table s) 0))
    (ap product_of
    (each_same (λ k. fill_at column table s k) (λ k. valid_child hooks table s (as_fields None) k (fill_at column table s k))
    (child_count table s) 0 (λ k. sym (valid_same hooks table s (as_fields None) k (fill_at column table s k) tt plain)))) fields
  where
    with_fields : (all : List Field) (preset fills valid : Option Val) → fills ≡ valid → is_nil all ≡ false
        → entered_struct (length all) preset fills ≡ option_or preset valid
    with_fields [] preset fills valid e some = cc
    with_fields (field ∷ rest) (Some v) fills valid e some = refl
    with_fields (field ∷ rest) None fills valid e some = e

    go : (def : Def) (preset : Option Val) → def_of table s ≡ def → preset_of table s ≡ preset
        → (fills valid : Option Val) → fills ≡ valid → is_empty_struct def ≡ false → by_entered def preset fills ≡ made_by def preset valid
    go (Def.Struct struct) preset is there fills valid e some = with_fields struct.fields preset fills valid e some
    go (Def.Option t) (Some v) is there fills valid e some = ap Some (option_preset table s t.0 v checked is there)
    go (Def.Option t) None is there fills valid e some = refl
    go _ preset is there fills valid e some = refl

-- a struct without fields makes the empty product
entered_empty : (column : Column) (table : Table) (s : ℕ) → is_empty_struct (def_of table s) ≡ true
    → entered_value column table s ≡ Some (product no_vals)
entered_empty column table s none = go _ _ (product_of (each_child (λ k. fill_at column table s k) _ 0)) none
  where
    without_fields : (all : List Field) (preset fills : Option Val) → is_nil all ≡ true
        → entered_struct (length all) preset fills ≡ Some (product no_vals)
    without_fields [] preset fills none = refl
    without_fields _ preset fills none = cc

    go : (def : Def) (preset fills : Option Val) → is_empty_struct def ≡ true → by_entered def preset fills ≡ Some (product no_vals)
    go (Def.Struct struct) preset fills none = without_fields struct.fields preset fills none
    go _ preset fills none = cc

whole_same : (column : Column) (table : Table) (s : ℕ) (v : Val) (h : Held) (parts : Option Val) → IsWhole table s v h
    → by_held h parts (entered_value column table s) ≡ Some v
whole_same column table s v h parts (by_value e) = by_held_is h (written v) parts _ e
whole_same column table s v h parts (by_entry e none is) =
    by_held_is h just_entered parts _ e ∙ entered_empty column table s none ∙ ap Some (sym is)

-- a child that isn't a hole makes its own value

makes_own : (table : Table) (s : ℕ) (t : Tree) (notes : Journal) (fill own : Option Val) → IsTouched t
    → Agrees table s notes t → child_makes (held notes []) fill own ≡ own
makes_own table s hole notes fill own touched agrees = absurd touched
makes_own table s entered notes fill own touched agrees = rw agrees refl
makes_own table s (whole v) notes fill own touched (by_value e) = rw e refl
makes_own table s (whole v) notes fill own touched (by_entry e none is) = rw e refl
makes_own table s (begun tracker ts) notes fill own touched agrees = rw agrees.0 refl

pub hole_makes : (h : Held) (fill own : Option Val) → h ≡ untouched → child_makes h fill own ≡ fill
hole_makes h fill own e = rw e refl

pub child_as_is : (table : Table) (s : ℕ) (tracker : Tracker) (i : ℕ) → HasParts tracker
    → child_as table s tracker i ≡ child_shape table s i
child_as_is table s (as_fields None) i parts = refl
child_as_is table s as_elements i parts = refl
child_as_is table s _ i parts = absurd parts

touched_child : (column : Column) (hooks : Meanings) (table : Table) (s : ℕ) (tracker : Tracker) (i : ℕ) (t : Tree) (notes : Journal)
    (steps : ℕ) → HasParts tracker → AllPlain table s → IsTouched t → Agrees table (child_as table s tracker i) (down i notes) t
    → completes_within column table steps (down i notes) (child_as table s tracker i) []
    ≡ complete column hooks table (child_as table s tracker i) t → child_value column table steps notes s [] i
    ≡ valid_child hooks table s tracker i (complete column hooks table (child_as table s tracker i) t)
touched_child column hooks table s tracker i t notes steps parts plain touched agrees e =
    ap₂ (λ (h : Held) (own : Option Val). child_makes h (fill_at column table s i) own) (held_down i notes [])
    (completes_down column table steps notes (child_shape table s i) i []
    ∙ ap (λ (m : ℕ). completes_within column table steps (down i notes) m []) (sym (child_as_is table s tracker i parts)) ∙ e)
    ∙ makes_own table (child_as table s tracker i) t (down i notes) (fill_at column table s i)
    (complete column hooks table (child_as table s tracker i) t) touched agrees
    ∙ sym (valid_same hooks table s tracker i (complete column hooks table (child_as table s tracker i) t) parts plain)

mutual
  pub completes_tree : (column : Column) (hooks : Meanings) (table : Table) (t : Tree) (steps s : ℕ) (notes : Journal)
      → IsChecked table → AllPlain table s → Suits table s t → Agrees table s notes t → longest notes < suc steps
      → completes_within column table (suc steps) notes s [] ≡ complete column hooks table s t
  completes_tree column hooks table hole steps s notes checked plain suits agrees long = by_held_is (held notes []) untouched _ _ agrees
  completes_tree column hooks table entered steps s notes checked plain suits agrees long =
      by_held_is (held notes []) just_entered _ _ agrees ∙ entered_same column hooks table s checked plain suits
  completes_tree column hooks table (whole v) steps s notes checked plain suits agrees long =
      whole_same column table s v (held notes []) _ agrees
  completes_tree column hooks table (begun tracker ts) steps s notes checked plain suits agrees long =
      by_held_is (held notes []) in_parts _ _ agrees.0 ∙ begun_makes (def_of table s) tracker (count_trees ts) _ agrees.2 suits.0
      ∙ ap (λ (n : ℕ). product_of (each_child (child_value column table steps notes s []) n 0))
      (sym (begun_count (def_of table s) tracker (count_trees ts) agrees.2 suits.0))
      ∙ sym (made_product tracker (each_child (child_value column table steps notes s []) (count_trees ts) 0) agrees.2)
      ∙ ap (made tracker) (children_complete column hooks table ts steps s tracker 0 notes agrees.2 checked plain
      (let count = begun_count (def_of table s) tracker (count_trees ts) agrees.2 suits.0 in
      omega arith)
      (begun_takes column table s tracker (count_trees ts) agrees.2 suits.0) suits.1 agrees.1 (parts_long notes agrees.0) (omega arith))

  children_complete : (column : Column) (hooks : Meanings) (table : Table) (ts : Trees) (steps s : ℕ) (tracker : Tracker) (i : ℕ)
      (notes : Journal) → HasParts tracker → IsChecked table → AllPlain table s → i + count_trees ts ≡ child_count table s
      → ((k : ℕ) → fill_at column table s k ≡ hole_takes column table s tracker k) → SuitFrom table s tracker i ts
      → AgreeAll table s tracker notes i ts → 1 ≤ longest notes → longest notes ≤ steps
      → each_child (child_value column table steps notes s []) (count_trees ts) i ≡ complete_all column hooks table s tracker i ts
  children_complete column hooks table no_trees steps s tracker i notes parts checked plain count takes suits agrees some long = refl
  children_complete column hooks table (branch t ts) zero s tracker i notes parts checked plain count takes suits agrees some long =
      absurd (omega arith)
  children_complete column hooks table (branch hole ts) (suc steps) s tracker i notes parts checked plain count takes suits agrees some
      long =
      ap₂ one_more (hole_makes (held notes (i ∷ [])) (fill_at column table s i) _ (held_down i notes [] ∙ agrees.0)
      ∙ takes i ∙ sym (valid_same hooks table s tracker i (hole_takes column table s tracker i) parts plain))
      (children_complete column hooks table ts (suc steps) s tracker (suc i) notes parts checked plain (omega arith) takes suits.1 agrees.1 some
      long)
  children_complete column hooks table (branch t ts) (suc steps) s tracker i notes parts checked plain count takes suits agrees some long =
      let below : longest (down i notes) < suc steps = omega (arith, longest_down i notes) in
      ap₂ one_more (touched_child column hooks table s tracker i t notes (suc steps) parts plain tt agrees.0
      (completes_tree column hooks table t steps (child_as table s tracker i) (down i notes) checked
      (plain_child table s tracker i parts (omega arith) plain) suits.0 agrees.0 below))
      (children_complete column hooks table ts (suc steps) s tracker (suc i) notes parts checked plain (omega arith) takes suits.1 agrees.1 some
      long)

-- one child that agrees with something else

module _ (table : Table) (s : ℕ) (tracker : Tracker) where
  pub agree_same : (ts : Trees) (k : ℕ) (notes after : Journal) → ((j : ℕ) → k ≤ j → down j after ≡ down j notes)
      → AgreeAll table s tracker notes k ts → AgreeAll table s tracker after k ts
  agree_same no_trees k notes after same agrees = tt
  agree_same (branch t ts) k notes after same agrees = (
    subst (λ (seen : Journal). Agrees table (child_as table s tracker k) seen t) (sym (same k (omega arith))) agrees.0,
    agree_same ts (suc k) notes after (λ j h. same j (omega arith)) agrees.1,
  )

  pub agree_change : (d k : ℕ) (ts : Trees) (i : ℕ) (notes after : Journal) (change : Tree → Tree) → i ≡ k + d
      → ((j : ℕ) → (j ≡ i → ⊥) → down j after ≡ down j notes) → AgreeAll table s tracker notes k ts
      → (Agrees table (child_as table s tracker i) (down i notes) (tree_nth d ts)
      → Agrees table (child_as table s tracker i) (down i after) (change (tree_nth d ts)))
      → AgreeAll table s tracker after k (change_nth d change ts)
  agree_change d k no_trees i notes after change e other agrees step = tt
  agree_change zero k (branch t ts) i notes after change e other agrees step =
      let here : i ≡ k = omega arith in (
        subst (λ (m : ℕ). Agrees table (child_as table s tracker m) (down m after) (change t)) here
            (step (subst (λ (m : ℕ). Agrees table (child_as table s tracker m) (down m notes) t) (sym here) agrees.0)),
        agree_same ts (suc k) notes after (λ j h. other j (λ same. omega arith)) agrees.1,
      )
  agree_change (suc d) k (branch t ts) i notes after change e other agrees step = (
    subst (λ (seen : Journal). Agrees table (child_as table s tracker k) seen t) (sym (other k (λ same. omega arith))) agrees.0,
    agree_change d (suc k) ts i notes after change (omega arith) other agrees.1 step,
  )

  pub agree_nth : (d k : ℕ) (ts : Trees) (i : ℕ) (notes : Journal) → i ≡ k + d → d < count_trees ts
      → AgreeAll table s tracker notes k ts → Agrees table (child_as table s tracker i) (down i notes) (tree_nth d ts)
  agree_nth d k no_trees i notes e within agrees = absurd (omega arith)
  agree_nth zero k (branch t ts) i notes e within agrees =
      let here : i ≡ k = omega arith in
      subst (λ (m : ℕ). Agrees table (child_as table s tracker m) (down m notes) t) (sym here) agrees.0
  agree_nth (suc d) k (branch t ts) i notes e within agrees = agree_nth d (suc k) ts i notes (omega arith) (omega arith) agrees.1

-- notes beneath a place

-- the note, at a place counted from the parent of child i on
abbrev pub in_child : ℕ → Note → Note
in_child i (entered_at place) = entered_at (i ∷ place)
in_child i (wrote_at place v) = wrote_at (i ∷ place) v

-- the note, at a place counted from as far above
abbrev pub under : Place → Note → Note
under [] note = note
under (i ∷ here) note = in_child i (under here note)

pub under_entered : (here place : Place) → under here (entered_at place) ≡ entered_at (here ++ place)
under_entered [] place = refl
under_entered (i ∷ here) place = ap (in_child i) (under_entered here place)

pub under_wrote : (here : Place) (v : Val) → under here (wrote_at [] v) ≡ wrote_at here v
under_wrote [] v = refl
under_wrote (i ∷ here) v = ap (in_child i) (under_wrote here v)

pub down_same : (i : ℕ) (note : Note) (notes : Journal) → down i (in_child i note ∷ notes) ≡ note ∷ down i notes
down_same i (entered_at place) notes = rw (eq-eqb i i refl) refl
down_same i (wrote_at place v) notes = rw (eq-eqb i i refl) refl

not_equal : (i j : ℕ) → (j ≡ i → ⊥) → (i == j) ≡ false
not_equal i j apart = grind arith

pub down_other : (i j : ℕ) (note : Note) (notes : Journal) → (j ≡ i → ⊥) → down j (in_child i note ∷ notes) ≡ down j notes
down_other i j (entered_at place) notes apart = rw (not_equal i j apart) refl
down_other i j (wrote_at place v) notes apart = rw (not_equal i j apart) refl

held_above : (i : ℕ) (note : Note) (notes : Journal) → held (in_child i note ∷ notes) [] ≡ in_parts
held_above i (entered_at place) notes = refl
held_above i (wrote_at place v) notes = refl

-- the place to which a cursor leads

pub leads_within : (mode : Mode) (i : ℕ) (Below : Tree → Type 0) (ts : Trees) → OffBut mode i Below ts → i < count_trees ts
leads_within mode i Below no_trees off = absurd off
leads_within mode zero Below (branch t ts) off = omega arith
leads_within mode (suc i) Below (branch t ts) off = let rest = leads_within mode i Below ts off.1 in omega arith

pub leads_child : (mode : Mode) (i : ℕ) (Below : Tree → Type 0) (ts : Trees) → OffBut mode i Below ts → Below (tree_nth i ts)
leads_child mode i Below no_trees off = absurd off
leads_child mode zero Below (branch t ts) off = off.0
leads_child mode (suc i) Below (branch t ts) off = leads_child mode i Below ts off.1

pub agree_along : (mode : Mode) (table : Table) (s : ℕ) (here : Place) (t : Tree) (notes : Journal) → Leads mode here t
    → Agrees table s notes t → Agrees table (shape_in table s here t) (along here notes) (tree_at here t)
agree_along mode table s [] t notes leads agrees = agrees
agree_along mode table s (i ∷ here) (begun tracker ts) notes leads agrees =
    agree_along mode table _ here _ (down i notes) (leads_child mode i (λ child. Leads mode here child) ts leads)
    (agree_nth table s tracker i 0 ts i notes (omega arith) (leads_within mode i (λ child. Leads mode here child) ts leads) agrees.1)
agree_along mode table s (i ∷ here) _ notes leads agrees = absurd leads

-- a note at the place to which the cursor leads, and the tree changed there alike, agree again
pub follow : (mode : Mode) (table : Table) (s : ℕ) (here : Place) (t : Tree) (notes : Journal) (note : Note)
    (change : Tree → Tree) → Leads mode here t → Agrees table s notes t
    → (Agrees table (shape_in table s here t) (along here notes) (tree_at here t)
    → Agrees table (shape_in table s here t) (note ∷ along here notes) (change (tree_at here t)))
    → Agrees table s (under here note ∷ notes) (change_at here change t)
follow mode table s [] t notes note change leads agrees step = step agrees
follow mode table s (i ∷ here) (begun tracker ts) notes note change leads agrees step = (
  held_above i _ notes,
  agree_change table s tracker i 0 ts i notes _
      (λ child. change_at here change child) (omega arith) (λ j apart. down_other i j _ notes apart) agrees.1
      (λ child. subst (λ (seen : Journal). Agrees table (child_as table s tracker i) seen (change_at here change (tree_nth i ts)))
      (sym (down_same i _ notes)) (follow mode table _ here _ (down i notes) note change
      (leads_child mode i (λ c. Leads mode here c) ts leads) child step)),
  agrees.2,
)
follow mode table s (i ∷ here) _ notes note change leads agrees step = absurd leads

-- what the place at the cursor completes to, by the journal and by the tree
pub completes_at : (mode : Mode) (column : Column) (hooks : Meanings) (table : Table) (s : ℕ) (here : Place) (t : Tree)
    (notes : Journal) → IsChecked table → AllPlain table (shape_in table s here t) → Leads mode here t
    → Suits table (shape_in table s here t) (tree_at here t) → Agrees table s notes t
    → completes column table notes (shape_in table s here t) here
    ≡ complete column hooks table (shape_in table s here t) (tree_at here t)
completes_at mode column hooks table s here t notes checked plain leads suits agrees =
    completes_along column table (suc (longest notes)) notes (shape_in table s here t) here
    ∙ completes_tree column hooks table (tree_at here t) (longest notes) (shape_in table s here t) (along here notes) checked
    plain suits (agree_along mode table s here t notes leads agrees) (omega (arith, longest_along here notes))
