-- The end of deferred mode does the same to the tree and to the journal.
use Rattle.std.proofs.Common.{◌≡◌, ◌≢◌, ◌+◌, ◌<◌, ◌≤◌, ◌==◌, if◌then◌else◌, ◌∷◌, ◌++◌}
use Rattle.fr_model.proofs.Common.{ℕ, zero, suc, Bool, true, false, eq-eqb, [], map, append_assoc, Option, Some, None, refl, sym, ◌∙◌, ap, ap₂, subst, arith, option_map, IsChecked, Meanings, Table, def_of, Val, Vals, complete, complete_all, hole_takes, valid_child, closed, one_more_tree, closed_all, closed_but, begun_with, finished_here, finished, Note, entered_at, wrote_at, Journal, Held, in_parts, untouched, held, longest, child_makes, completes, both_notes, each_notes, writing, closing_by, closing, closing_beside, closing_parts, closing_here_by, closing_here, finish_notes, Place, deferred_column, child_count, child_shape, part, one_more, fill_at, Tracker, as_fields, as_elements, Tree, hole, entered, whole, begun, Trees, no_trees, branch, for_hole, tree_nth, child_as, count_trees, wholes, Mode, State, HasParts, IsBegunAs, IsTouched, Suits, AtCursor, Leads, IsInOrder}
use Rattle.std.proofs.lemmas.List.{map-append}
use Rattle.fr_model.proofs.Basis.{IsWhole, by_value, by_entry, Agrees, AgreeAll, agree_nth, agree_same, begun_count, begun_takes, child_as_is, completes_tree, in_child, under, under_wrote, down_same, down_other, leads_child, leads_within, down, along, held_along, completes_along, longest_along, hole_makes, touched_makes, AllPlain, plain_child, valid_same, SuitFrom, suit_nth}

-- a begun place of which the journal holds parts stays begun
stays_begun : (tracker : Tracker) (vs : Vals) → HasParts tracker → begun_with tracker vs ≡ begun tracker (wholes vs)
stays_begun (as_fields None) vs parts = refl
stays_begun as_elements vs parts = refl
stays_begun _ vs parts = absurd parts

-- journals that are joined, and notes at children

noted_or : (b : Bool) (note : Note) (some others all : Journal) → all ≡ some ++ others
    → (if b then note ∷ all else all) ≡ (if b then note ∷ some else some) ++ others
noted_or true note some others all same = ap (λ (notes : Journal). note ∷ notes) same
noted_or false note some others all same = same

pub down_append : (i : ℕ) (some others : Journal) → down i (some ++ others) ≡ down i some ++ down i others
down_append i [] others = refl
down_append i (entered_at [] ∷ some) others = down_append i some others
down_append i (entered_at (j ∷ place) ∷ some) others = noted_or (j == i) (entered_at place) _ _ _ (down_append i some others)
down_append i (wrote_at [] v ∷ some) others = ap (λ (notes : Journal). wrote_at [] (part v i) ∷ notes) (down_append i some others)
down_append i (wrote_at (j ∷ place) v ∷ some) others = noted_or (j == i) (wrote_at place v) _ _ _ (down_append i some others)

-- notes, at places counted from the parent of child i on
abbrev all_in_child : ℕ → Journal → Journal
all_in_child i notes = map (in_child i) notes

-- notes, at places counted from as far above
abbrev all_under : Place → Journal → Journal
all_under above notes = map (under above) notes

down_in : (i : ℕ) (notes : Journal) → down i (all_in_child i notes) ≡ notes
down_in i [] = refl
down_in i (note ∷ notes) = down_same i note (all_in_child i notes) ∙ ap (λ (some : Journal). note ∷ some) (down_in i notes)

down_beside : (i j : ℕ) (notes : Journal) → (j ≡ i → ⊥) → down j (all_in_child i notes) ≡ []
down_beside i j [] apart = refl
down_beside i j (note ∷ notes) apart = down_other i j note (all_in_child i notes) apart ∙ down_beside i j notes apart

along_on : (above : Place) (i : ℕ) (notes : Journal) → along (above ++ i ∷ []) notes ≡ down i (along above notes)
along_on [] i notes = refl
along_on (j ∷ above) i notes = along_on above i (down j notes)

under_on : (above : Place) (i : ℕ) (note : Note) → under (above ++ i ∷ []) note ≡ under above (in_child i note)
under_on [] i note = refl
under_on (j ∷ above) i note = ap (in_child j) (under_on above i note)

all_under_on : (above : Place) (i : ℕ) (notes : Journal) → all_under (above ++ i ∷ []) notes ≡ all_under above (all_in_child i notes)
all_under_on above i [] = refl
all_under_on above i (note ∷ notes) =
    ap₂ (λ (first : Note) (rest : Journal). first ∷ rest) (under_on above i note) (all_under_on above i notes)

-- notes at children leave parts where there were parts
parts_stay : (i : ℕ) (some notes : Journal) → held notes [] ≡ in_parts → held (all_in_child i some ++ notes) [] ≡ in_parts
parts_stay i [] notes parts = parts
parts_stay i (entered_at place ∷ some) notes parts = refl
parts_stay i (wrote_at place v ∷ some) notes parts = refl

-- what becomes of a place and of its children

-- Of a place of shape s, of which the journal says what is seen: there are a tree and notes, counted from the place on, and the
-- notes before what is seen agree with the tree; or neither is there.
pub data BothEnd (table : Table) (s : ℕ) (here : Place) (seen : Journal) (tree : Option Tree) (found : Option Journal) : Type 0 where
  both_end : (after : Tree) (added : Journal) → tree ≡ Some after → found ≡ Some (all_under here added)
      → Agrees table s (added ++ seen) after → BothEnd table s here seen tree found
  neither : tree ≡ None → found ≡ None → BothEnd table s here seen tree found

-- the same of the children from number k on
pub data AllEnd (table : Table) (s : ℕ) (tracker : Tracker) (above : Place) (seen : Journal) (k : ℕ) (trees : Option Trees)
    (found : Option Journal) : Type 0 where
  all_end : (after : Trees) (added : Journal) → trees ≡ Some after → found ≡ Some (all_under above added)
      → ((j : ℕ) → j < k → down j added ≡ []) → ((notes : Journal) → held notes [] ≡ in_parts → held (added ++ notes) [] ≡ in_parts)
      → AgreeAll table s tracker (added ++ seen) k after → AllEnd table s tracker above seen k trees found
  one_fails : trees ≡ None → found ≡ None → AllEnd table s tracker above seen k trees found

not_same : (j k : ℕ) → j ≢ k → (j == k) ≡ false
not_same j k other = grind arith

module _ (table : Table) (s : ℕ) (tracker : Tracker) (above : Place) (seen : Journal) where
  -- no child is left
  nothing_left : (k : ℕ) → AllEnd table s tracker above seen k (Some no_trees) (Some [])
  nothing_left k = all_end no_trees [] refl refl (λ j below. refl) (λ notes parts. parts) tt

  -- child k and the ones after it
  one_more_ends : (k : ℕ) (tree : Option Tree) (trees : Option Trees) (found others : Option Journal)
      → BothEnd table (child_as table s tracker k) (above ++ k ∷ []) (down k seen) tree found
      → AllEnd table s tracker above seen (suc k) trees others
      → AllEnd table s tracker above seen k (one_more_tree tree trees) (both_notes found others)
  one_more_ends k tree trees found others (neither no_tree no_note) rest = rw (no_tree, no_note) (one_fails refl refl)
  one_more_ends k tree trees found others (both_end after added is noted agrees) (one_fails none_left none_noted) =
      rw (is, noted, none_left, none_noted) (one_fails refl refl)
  one_more_ends k tree trees found others (both_end after added is noted agrees)
      (all_end afters addeds are all_noted lower parts agree) =
      all_end (branch after afters) (all_in_child k added ++ addeds) (rw (is, are) refl) (rw (noted, all_noted) (ap Some
      (ap (λ (some : Journal). some ++ all_under above addeds) (all_under_on above k added)
      ∙ sym (map-append (under above) (all_in_child k added) addeds)))) (λ j below. down_append j (all_in_child k added) addeds
      ∙ ap₂ (λ (some others : Journal). some ++ others) (down_beside k j added (λ same. omega arith)) (lower j (omega arith)))
      (λ notes has. subst (λ (all : Journal). held all [] ≡ in_parts) (sym (append_assoc (all_in_child k added) addeds notes))
      (parts_stay k added (addeds ++ notes) (parts notes has)))
      (subst (λ (all : Journal). AgreeAll table s tracker all k (branch after afters))
      (sym (append_assoc (all_in_child k added) addeds seen)) (
        subst (λ (all : Journal). Agrees table (child_as table s tracker k) all after) (sym at_k) agrees,
        agree_same table s tracker afters (suc k) (addeds ++ seen) (all_in_child k added ++ (addeds ++ seen))
            (λ j above. at_later j above) agree,
      ))
    where
      at_k : down k (all_in_child k added ++ (addeds ++ seen)) ≡ added ++ down k seen
      at_k =
          down_append k (all_in_child k added) (addeds ++ seen) ∙ ap₂ (λ (some others : Journal). some ++ others) (down_in k added)
          (down_append k addeds seen ∙ ap (λ (some : Journal). some ++ down k seen) (lower k (omega arith)))

      at_later : (j : ℕ) → suc k ≤ j → down j (all_in_child k added ++ (addeds ++ seen)) ≡ down j (addeds ++ seen)
      at_later j later =
          down_append j (all_in_child k added) _
          ∙ ap (λ (some : Journal). some ++ down j (addeds ++ seen)) (down_beside k j added (λ same. omega arith))

-- what a journal that agrees holds of such a tree
touched_held : (table : Table) (s : ℕ) (t : Tree) (notes : Journal) → IsTouched t → Agrees table s notes t → held notes [] ≢ untouched
touched_held table s hole notes touched agrees e = touched
touched_held table s entered notes touched agrees e = cc
touched_held table s (whole v) notes touched (by_value is) e = cc
touched_held table s (whole v) notes touched (by_entry is empty same) e = cc
touched_held table s (begun tracker ts) notes touched agrees e = let parts = agrees.0 in cc

touched_closes : (h : Held) (own : Option Journal) → h ≢ untouched → closing_by h own ≡ own
touched_closes untouched own touched = absurd (touched refl)
touched_closes _ own touched = refl

-- a value that is written to a place, if it is there
write_ends : (table : Table) (s : ℕ) (here : Place) (seen : Journal) (tree value : Option Val) → value ≡ tree
    → BothEnd table s here seen (option_map whole tree) (writing here value)
write_ends table s here seen None value same = rw same (neither refl refl)
write_ends table s here seen (Some v) value same =
    rw same (both_end (whole v) (wrote_at [] v ∷ []) refl
    (ap (λ (note : Note). Some (note ∷ [])) (sym (under_wrote here v))) (by_value refl))

-- what is begun has as many trees as its shape has children
all_of_them : (table : Table) (s : ℕ) (tracker : Tracker) (ts : Trees) → HasParts tracker
    → IsBegunAs (def_of table s) tracker (count_trees ts) → 0 + count_trees ts ≡ child_count table s
all_of_them table s tracker ts parts begun_as = let count = begun_count _ tracker _ parts begun_as in omega arith

-- the place at which a builder works has parts, or a value of its own
closes_itself : (h : Held) (of_parts of_itself : Option Journal) → h ≢ in_parts → closing_here_by h of_parts of_itself ≡ of_itself
closes_itself in_parts of_parts of_itself no_parts = absurd (no_parts refl)
closes_itself _ of_parts of_itself no_parts = refl

whole_held : (table : Table) (s : ℕ) (v : Val) (h : Held) → IsWhole table s v h → h ≢ in_parts
whole_held table s v h (by_value is) e = cc
whole_held table s v h (by_entry is empty same) e = cc

-- where the child on the way has no end, neither have the children
child_fails : (hooks : Meanings) (table : Table) (s : ℕ) (tracker : Tracker) (on_way d k : ℕ) (ts : Trees)
    (becomes : ℕ → Tree → Option Tree) → on_way ≡ k + d → d < count_trees ts
    → becomes (child_as table s tracker on_way) (tree_nth d ts) ≡ None → closed_but hooks table s tracker d becomes k ts ≡ None
child_fails hooks table s tracker on_way d k no_trees becomes at within fails = absurd (omega arith)
child_fails hooks table s tracker on_way zero k (branch t ts) becomes at within fails =
    let here : on_way ≡ k = omega arith in
    let none : becomes _ t ≡ None = subst (λ (m : ℕ). becomes (child_as table s tracker m) t ≡ None) here fails in
    rw none refl
child_fails hooks table s tracker on_way (suc d) k (branch t ts) becomes at within fails =
    rw (child_fails hooks table s tracker on_way d (suc k) ts becomes (omega arith) (omega arith) fails)
    (none_after (closed hooks table (child_as table s tracker k) t))
  where
    none_after : (tree : Option Tree) → one_more_tree tree None ≡ None
    none_after None = refl
    none_after (Some t) = refl

none_noted : (found : Option Journal) → both_notes found None ≡ None
none_noted None = refl
none_noted (Some some) = refl

module _ (hooks : Meanings) (table : Table) (checked : IsChecked table) (notes : Journal) where
  -- what a place makes, by the journal and by the tree
  value_at : (s : ℕ) (here : Place) (t : Tree) → AllPlain table s → Suits table s t → Agrees table s (along here notes) t
      → completes deferred_column table notes s here ≡ complete deferred_column hooks table s t
  value_at s here t plain suits agrees =
      completes_along deferred_column table (suc (longest notes)) notes s here
      ∙ completes_tree deferred_column hooks table t (longest notes) s (along here notes) checked plain suits agrees
      (omega (arith, longest_along here notes))

  left_ends : (s : ℕ) (here : Place) (seen : Journal) (t : Tree) → IsTouched t
      → completes deferred_column table notes s here ≡ complete deferred_column hooks table s t → Agrees table s (along here notes) t
      → BothEnd table s here seen (option_map whole (complete deferred_column hooks table s t)) (closing table notes s here)
  left_ends s here seen t touched value agrees =
      subst (λ (found : Option Journal). BothEnd table s here seen (option_map whole (complete deferred_column hooks table s t)) found)
      (sym (ap (λ (h : Held). closing_by h (writing here (completes deferred_column table notes s here))) (held_along notes here)
      ∙ touched_closes (held (along here notes) []) _ (touched_held table s t (along here notes) touched agrees)))
      (write_ends table s here seen _ _ value)

  -- a place off the way
  closed_ends : (s : ℕ) (here : Place) (seen : Journal) (t : Tree) → seen ≡ along here notes → AllPlain table s → Suits table s t
      → Agrees table s (along here notes) t → BothEnd table s here seen (closed hooks table s t) (closing table notes s here)
  closed_ends s here seen hole same plain suits agrees =
      both_end hole [] refl (ap (λ (h : Held). closing_by h (writing here (completes deferred_column table notes s here)))
      (held_along notes here ∙ agrees)) (ap (λ (some : Journal). held some []) same ∙ agrees)
  closed_ends s here seen t same plain suits agrees = left_ends s here seen t tt (value_at s here t plain suits agrees) agrees

  -- the children of a place that is begun, all but the one on the way
  module _ (s : ℕ) (tracker : Tracker) (has : HasParts tracker) (above : Place) (plain : AllPlain table s) (on_way : ℕ) (base : Journal)
      (apart : (j : ℕ) → j ≢ on_way → down j base ≡ down j (along above notes)) where
    abbrev beside : ℕ → Option Journal
    beside j = if j == on_way then Some [] else closing table notes (child_shape table s j) (above ++ j ∷ [])

    off_ends : (k : ℕ) (t : Tree) → k ≢ on_way → k < child_count table s → Suits table (child_as table s tracker k) t
        → Agrees table (child_as table s tracker k) (down k (along above notes)) t
        → BothEnd table (child_as table s tracker k) (above ++ k ∷ []) (down k base) (closed hooks table (child_as table s tracker k) t)
        (beside k)
    off_ends k t other there suits agrees =
        subst (λ (b : Bool). BothEnd table (child_as table s tracker k) (above ++ k ∷ []) (down k base)
        (closed hooks table (child_as table s tracker k) t)
        (if b then Some [] else closing table notes (child_shape table s k) (above ++ k ∷ []))) (sym (not_same k on_way other))
        (subst (λ (m : ℕ). BothEnd table (child_as table s tracker k) (above ++ k ∷ []) (down k base)
        (closed hooks table (child_as table s tracker k) t) (closing table notes m (above ++ k ∷ [])))
        (child_as_is table s tracker k has) (closed_ends (child_as table s tracker k) (above ++ k ∷ []) (down k base) t
        (apart k other ∙ sym (along_on above k notes)) (plain_child table s tracker k has there plain) suits
        (subst (λ (some : Journal). Agrees table (child_as table s tracker k) some t) (sym (along_on above k notes)) agrees)))

    all_closed : (ts : Trees) (k : ℕ) → on_way < k → k + count_trees ts ≡ child_count table s → SuitFrom table s tracker k ts
        → AgreeAll table s tracker (along above notes) k ts
        → AllEnd table s tracker above base k (closed_all hooks table s tracker k ts) (each_notes beside (count_trees ts) k)
    all_closed no_trees k past count suits agrees = nothing_left table s tracker above base k
    all_closed (branch t ts) k past count suits agrees =
        one_more_ends table s tracker above base k (closed hooks table (child_as table s tracker k) t)
        (closed_all hooks table s tracker (suc k) ts) (beside k) (each_notes beside (count_trees ts) (suc k))
        (off_ends k t (λ same. omega arith) (omega arith) suits.0 agrees.0)
        (all_closed ts (suc k) (omega arith) (omega arith) suits.1 agrees.1)

    but_closed : (d : ℕ) (ts : Trees) (k : ℕ) (becomes : ℕ → Tree → Option Tree) → on_way ≡ k + d → d < count_trees ts
        → k + count_trees ts ≡ child_count table s → SuitFrom table s tracker k ts → AgreeAll table s tracker (along above notes) k ts
        → BothEnd table (child_as table s tracker on_way) (above ++ on_way ∷ []) (down on_way base)
        (becomes (child_as table s tracker on_way) (tree_nth d ts)) (Some [])
        → AllEnd table s tracker above base k (closed_but hooks table s tracker d becomes k ts) (each_notes beside (count_trees ts) k)
    but_closed d no_trees k becomes at within count suits agrees child = absurd (omega arith)
    but_closed zero (branch t ts) k becomes at within count suits agrees child =
        let here : on_way ≡ k = omega arith in
        one_more_ends table s tracker above base k (becomes (child_as table s tracker k) t) (closed_all hooks table s tracker (suc k) ts)
        (beside k) (each_notes beside (count_trees ts) (suc k))
        (subst (λ (b : Bool). BothEnd table (child_as table s tracker k) (above ++ k ∷ []) (down k base)
        (becomes (child_as table s tracker k) t)
        (if b then Some [] else closing table notes (child_shape table s k) (above ++ k ∷ []))) (sym (eq-eqb k on_way (sym here)))
        (subst (λ (m : ℕ). BothEnd table (child_as table s tracker m) (above ++ m ∷ []) (down m base)
        (becomes (child_as table s tracker m) t) (Some [])) here child))
        (all_closed ts (suc k) (omega arith) (omega arith) suits.1 agrees.1)
    but_closed (suc d) (branch t ts) k becomes at within count suits agrees child =
        one_more_ends table s tracker above base k (closed hooks table (child_as table s tracker k) t)
        (closed_but hooks table s tracker d becomes (suc k) ts) (beside k) (each_notes beside (count_trees ts) (suc k))
        (off_ends k t (λ same. omega arith) (omega arith) suits.0 agrees.0)
        (but_closed d ts (suc k) becomes (omega arith) (omega arith) (omega arith) suits.1 agrees.1 child)

  -- the children of the place at which a builder works, which is begun
  module _ (s : ℕ) (tracker : Tracker) (has : HasParts tracker) (above : Place) (plain : AllPlain table s)
      (takes : (k : ℕ) → fill_at deferred_column table s k ≡ hole_takes deferred_column table s tracker k) where
    abbrev seen : Journal
    seen = along above notes

    -- what child k makes, by the journal and by the tree
    abbrev part_value : ℕ → Option Val
    part_value k =
        child_makes (held notes (above ++ k ∷ [])) (fill_at deferred_column table s k)
        (completes deferred_column table notes (child_shape table s k) (above ++ k ∷ []))

    abbrev part_made : ℕ → Tree → Option Val
    part_made k t =
        valid_child hooks table s tracker k (for_hole t (hole_takes deferred_column table s tracker k)
        (complete deferred_column hooks table (child_as table s tracker k) t))

    held_part : (k : ℕ) → held notes (above ++ k ∷ []) ≡ held (down k seen) []
    held_part k = held_along notes (above ++ k ∷ []) ∙ ap (λ (some : Journal). held some []) (along_on above k notes)

    touched_part : (k : ℕ) (t : Tree) → IsTouched t → k < child_count table s → Suits table (child_as table s tracker k) t
        → Agrees table (child_as table s tracker k) (down k seen) t
        → part_value k ≡ valid_child hooks table s tracker k (complete deferred_column hooks table (child_as table s tracker k) t)
    touched_part k t touched there suits agrees =
        touched_makes (held notes (above ++ k ∷ [])) _ _
        (λ e. touched_held table (child_as table s tracker k) t (down k seen) touched agrees (sym (held_part k) ∙ e))
        ∙ ap (λ (m : ℕ). completes deferred_column table notes m (above ++ k ∷ [])) (sym (child_as_is table s tracker k has))
        ∙ value_at (child_as table s tracker k) (above ++ k ∷ []) t (plain_child table s tracker k has there plain) suits
        (subst (λ (some : Journal). Agrees table (child_as table s tracker k) some t) (sym (along_on above k notes)) agrees)
        ∙ sym (valid_same hooks table s tracker k _ has plain)

    part_same : (k : ℕ) (t : Tree) → k < child_count table s → Suits table (child_as table s tracker k) t
        → Agrees table (child_as table s tracker k) (down k seen) t → part_value k ≡ part_made k t
    part_same k hole there suits agrees =
        hole_makes (held notes (above ++ k ∷ [])) _ _ (held_part k ∙ agrees) ∙ takes k
        ∙ sym (valid_same hooks table s tracker k _ has plain)
    part_same k t there suits agrees = touched_part k t tt there suits agrees

    whole_parts : (value : Option Val) (values : Option Vals)
        → one_more_tree (option_map whole value) (option_map wholes values) ≡ option_map wholes (one_more value values)
    whole_parts None values = refl
    whole_parts (Some v) None = refl
    whole_parts (Some v) (Some vs) = refl

    parts_end : (ts : Trees) (k : ℕ) → k + count_trees ts ≡ child_count table s → SuitFrom table s tracker k ts
        → AgreeAll table s tracker seen k ts
        → AllEnd table s tracker above seen k (option_map wholes (complete_all deferred_column hooks table s tracker k ts))
        (each_notes (λ j. writing (above ++ j ∷ []) (part_value j)) (count_trees ts) k)
    parts_end no_trees k count suits agrees = nothing_left table s tracker above seen k
    parts_end (branch t ts) k count suits agrees =
        subst (λ (trees : Option Trees). AllEnd table s tracker above seen k trees
        (both_notes (writing (above ++ k ∷ []) (part_value k))
        (each_notes (λ j. writing (above ++ j ∷ []) (part_value j)) (count_trees ts) (suc k))))
        (whole_parts (part_made k t) (complete_all deferred_column hooks table s tracker (suc k) ts))
        (one_more_ends table s tracker above seen k (option_map whole (part_made k t))
        (option_map wholes (complete_all deferred_column hooks table s tracker (suc k) ts)) (writing (above ++ k ∷ []) (part_value k))
        (each_notes (λ j. writing (above ++ j ∷ []) (part_value j)) (count_trees ts) (suc k))
        (write_ends table (child_as table s tracker k) (above ++ k ∷ []) (down k seen) (part_made k t) (part_value k)
        (part_same k t (omega arith) suits.0 agrees.0)) (parts_end ts (suc k) (omega arith) suits.1 agrees.1))

  -- the place at which a builder works
  ends_here : (mode : Mode) (t : Tree) (s : ℕ) (here : Place) → AllPlain table s → AtCursor mode t → Suits table s t
      → Agrees table s (along here notes) t
      → BothEnd table s here (along here notes) (finished_here hooks table s t) (closing_here table notes s here)
  ends_here mode hole s here plain leads suits agrees = absurd leads
  ends_here mode entered s here plain leads suits agrees =
      subst (λ (found : Option Journal). BothEnd table s here (along here notes) (finished_here hooks table s entered) found)
      (sym (closes_itself (held notes here) (closing_parts table notes s here) _ (λ e. apart (sym (held_along notes here) ∙ e))))
      (write_ends table s here (along here notes) _ _ (value_at s here entered plain suits agrees))
    where
      apart : held (along here notes) [] ≢ in_parts
      apart e = cc
  ends_here mode (whole v) s here plain leads suits agrees =
      subst (λ (found : Option Journal). BothEnd table s here (along here notes) (finished_here hooks table s (whole v)) found)
      (sym (closes_itself (held notes here) (closing_parts table notes s here) _ (λ e.
      whole_held table s v (held (along here notes) []) agrees (sym (held_along notes here) ∙ e))))
      (write_ends table s here (along here notes) (Some v) _ (value_at s here (whole v) plain suits agrees))
  ends_here mode (begun tracker ts) s here plain leads suits agrees =
      subst (λ (h : Held). BothEnd table s here (along here notes) (finished_here hooks table s (begun tracker ts))
      (closing_here_by h (closing_parts table notes s here) (writing here (completes deferred_column table notes s here))))
      (sym (held_along notes here ∙ agrees.0))
      (go (complete_all deferred_column hooks table s tracker 0 ts) (closing_parts table notes s here)
      (subst (λ (n : ℕ). AllEnd table s tracker here (along here notes) 0
      (option_map wholes (complete_all deferred_column hooks table s tracker 0 ts))
      (each_notes (λ j. writing (here ++ j ∷ []) (part_value s tracker agrees.2 here plain takes j)) n 0))
      (begun_count (def_of table s) tracker (count_trees ts) agrees.2 suits.0) (parts_end s tracker agrees.2 here plain takes ts 0
      (all_of_them table s tracker ts agrees.2 suits.0) suits.1 agrees.1)))
    where
      takes : (k : ℕ) → fill_at deferred_column table s k ≡ hole_takes deferred_column table s tracker k
      takes = begun_takes deferred_column table s tracker (count_trees ts) agrees.2 suits.0

      go : (values : Option Vals) (found : Option Journal)
          → AllEnd table s tracker here (along here notes) 0 (option_map wholes values) found
          → BothEnd table s here (along here notes) (option_map (begun_with tracker) values) found
      go None found (one_fails none none_found) = neither refl none_found
      go None found (all_end after added is noted lower parts agree) = cc
      go (Some vs) found (one_fails none none_found) = cc
      go (Some vs) found (all_end after added is noted lower parts agree) =
          let same : wholes vs ≡ after = cc in
          both_end (begun tracker (wholes vs)) added (ap Some (stays_begun tracker vs agrees.2)) noted (
            parts (along here notes) agrees.0,
            subst (λ (all : Trees). AgreeAll table s tracker (added ++ along here notes) 0 all) (sym same) agree,
            agrees.2,
          )

  -- a place above it, by what becomes of the child on the way
  way_ends : (tracker : Tracker) (ts : Trees) (s i : ℕ) (above : Place) (becomes : ℕ → Tree → Option Tree) (found : Option Journal)
      → AllPlain table s → i < count_trees ts → Suits table s (begun tracker ts) → Agrees table s (along above notes) (begun tracker ts)
      → BothEnd table (child_as table s tracker i) (above ++ i ∷ []) (along (above ++ i ∷ []) notes)
      (becomes (child_as table s tracker i) (tree_nth i ts)) found
      → BothEnd table s above (along above notes) (option_map (begun tracker) (closed_but hooks table s tracker i becomes 0 ts))
      (both_notes (closing_beside table notes s above i) found)
  way_ends tracker ts s i above becomes found plain within suits agrees (neither none none_found) =
      rw (child_fails hooks table s tracker i i 0 ts becomes (omega arith) within none, none_found)
      (neither refl (none_noted (closing_beside table notes s above i)))
  way_ends tracker ts s i above becomes found plain within suits agrees (both_end after added is noted agree) =
      go (closed_but hooks table s tracker i becomes 0 ts) (closing_beside table notes s above i)
      (subst (λ (n : ℕ). AllEnd table s tracker above base 0 (closed_but hooks table s tracker i becomes 0 ts)
      (each_notes (beside s tracker agrees.2 above plain i base apart) n 0))
      (begun_count (def_of table s) tracker (count_trees ts) agrees.2 suits.0)
      (but_closed s tracker agrees.2 above plain i base apart i ts 0 becomes (omega arith) within
      (all_of_them table s tracker ts agrees.2 suits.0) suits.1 agrees.1 (both_end after [] is refl
      (subst (λ (all : Journal). Agrees table (child_as table s tracker i) all after) (sym at_child) agree))))
    where
      base : Journal
      base = all_in_child i added ++ along above notes

      apart : (j : ℕ) → j ≢ i → down j base ≡ down j (along above notes)
      apart j other =
          down_append j (all_in_child i added) _
          ∙ ap (λ (some : Journal). some ++ down j (along above notes)) (down_beside i j added other)

      at_child : down i base ≡ added ++ along (above ++ i ∷ []) notes
      at_child =
          down_append i (all_in_child i added) _
          ∙ ap₂ (λ (some others : Journal). some ++ others) (down_in i added) (sym (along_on above i notes))

      go : (trees : Option Trees) (others : Option Journal) → AllEnd table s tracker above base 0 trees others
          → BothEnd table s above (along above notes) (option_map (begun tracker) trees) (both_notes others found)
      go trees others (one_fails none none_others) = rw (none, none_others) (neither refl refl)
      go trees others (all_end afters addeds are all_noted lower parts all) =
          both_end (begun tracker afters) _ (rw are refl) (rw (all_noted, noted) (ap Some
          (ap (λ (some : Journal). all_under above addeds ++ some) (all_under_on above i added)
          ∙ sym (map-append (under above) addeds _)))) (subst (λ (some : Journal). Agrees table s some (begun tracker afters))
          (sym (append_assoc addeds (all_in_child i added) (along above notes)))
          (parts base (parts_stay i added (along above notes) agrees.0), all, agrees.2))

  -- from a place above it, or it, on
  ends_from : (mode : Mode) (cursor : Place) (t : Tree) (s : ℕ) (above : Place) → AllPlain table s → Leads mode cursor t
      → Suits table s t → Agrees table s (along above notes) t
      → BothEnd table s above (along above notes) (finished hooks table s cursor t) (finish_notes table notes s above cursor)
  ends_from mode [] t s above plain leads suits agrees = ends_here mode t s above plain leads suits agrees
  ends_from mode (i ∷ cursor) (begun tracker ts) s above plain leads suits agrees =
      let within = leads_within mode i (λ child. Leads mode cursor child) ts leads in
      let count = begun_count (def_of table s) tracker (count_trees ts) agrees.2 suits.0 in
      way_ends tracker ts s i above (λ shape child. finished hooks table shape cursor child)
      (finish_notes table notes (child_shape table s i) (above ++ i ∷ []) cursor) plain within suits agrees
      (subst (λ (m : ℕ). BothEnd table (child_as table s tracker i) (above ++ i ∷ []) (along (above ++ i ∷ []) notes)
      (finished hooks table (child_as table s tracker i) cursor (tree_nth i ts))
      (finish_notes table notes m (above ++ i ∷ []) cursor)) (child_as_is table s tracker i agrees.2)
      (ends_from mode cursor (tree_nth i ts) (child_as table s tracker i) (above ++ i ∷ [])
      (plain_child table s tracker i agrees.2 (omega arith) plain) (leads_child mode i (λ child. Leads mode cursor child) ts leads)
      (suit_nth table s tracker i 0 ts i (omega arith) suits.1)
      (subst (λ (some : Journal). Agrees table (child_as table s tracker i) some (tree_nth i ts)) (sym (along_on above i notes))
      (agree_nth table s tracker i 0 ts i (along above notes) (omega arith) within agrees.1))))
  ends_from mode (i ∷ cursor) _ s above plain leads suits agrees = absurd leads

-- The tree that is finished and the notes that are added agree again, or neither is there.
abbrev pub BothFinish : Table → ℕ → Journal → Option Tree → Option Journal → Type 0
BothFinish table root notes (Some tree) (Some added) = Agrees table root (added ++ notes) tree
BothFinish table root notes (Some tree) None = ⊥
BothFinish table root notes None (Some added) = ⊥
BothFinish table root notes None None = Unit {0}

all_under_root : (notes : Journal) → all_under [] notes ≡ notes
all_under_root [] = refl
all_under_root (note ∷ notes) = ap (λ (some : Journal). note ∷ some) (all_under_root notes)

-- over a checked table that is plain for the root, whatever the hooks mean
pub finish_agrees : (hooks : Meanings) (table : Table) (root : ℕ) (state : State) (notes : Journal) → IsChecked table
    → AllPlain table root → IsInOrder table root state → Agrees table root notes state.tree
    → BothFinish table root notes (finished hooks table root state.cursor state.tree) (finish_notes table notes root [] state.cursor)
finish_agrees hooks table root state notes checked plain order agrees =
    go (finished hooks table root state.cursor state.tree) (finish_notes table notes root [] state.cursor)
    (ends_from hooks table checked notes state.mode state.cursor state.tree root [] plain order.leads order.suits agrees)
  where
    go : (tree : Option Tree) (found : Option Journal) → BothEnd table root [] notes tree found → BothFinish table root notes tree found
    go tree found (both_end after added is noted agree) = rw (is, noted, all_under_root added) agree
    go tree found (neither none none_found) = rw (none, none_found) tt
