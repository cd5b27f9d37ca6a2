-- Laws of conversions that fail, for proofs: each is told at the turn of its source.
use Rattle.std.proofs.Common.{◌≡◌, ◌≢◌, ◌⊎◌, ℕ, zero, suc, ◌<◌, Bool, true, false, List, [], ◌∷◌, ◌++◌, append-nil, append_assoc, Option, Some, None, inl, inr, refl, sym, ◌∙◌, ap, ap₂, subst, arith}
use Rattle.std.specs.List.{Contains}
use Rattle.std.specs.Option.{option_map, option_or}
use Rattle.std.specs.Prelude.{is_none, not, if◌then◌else◌}
use Rattle.std.proofs.lemmas.List.{same_from_push}
use Rattle.fr_store.specs.Common.{AllMarked, AreLeftRightly, ContentKind, Conversion, Failure, HasATurn, HasPlace, IsHalfDone, IsStoredAt, Kid, Kids, LackingFails, LeadsUnstored, Meanings, PathStep, Place, Reaches, ReflectErrorKind, Suits, Table, Tracker, Tree, Trees, Val, as_content, at, begun, begun_plot, below_root, branch, child_as, child_tree, closed_at, complete, count_trees, deferred_column, entered, failure_at, failures, failures_off, hole, entered_plot, gone, is_begun_conversion, kid, kid_at, kid_at_append, leads_reach, left_at, lack_of_begun, no_kids, no_trees, or_itself, own_lack, put_at, shape_in, step_as, steps_in, there, tree_at, tree_nth, tree_of, tree_of_at, tree_put_at, trees_in, turn_of, whole, whole_plot}
use Rattle.fr_model.specs.Failing.{failing_path}
use Rattle.fr_model.specs.Finish.{closed}
use Rattle.fr_model.specs.Laws.{CompletesOrFails}
use Rattle.fr_shape.specs.Lists.{is_nil}
use Rattle.fr_model.specs.Conversions.{failing_source}
use Rattle.fr_model.specs.DueNotes.{IsOffTheWay}
use Rattle.fr_model.specs.FailingLaws.{ChildrenAreOff, failures_beneath}
use Rattle.fr_model.specs.FinishLaws.{Closes, ClosingKeepsFailuresOff}
use Rattle.fr_model.specs.Tree.{deferred, shape_below}
use Rattle.fr_model.specs.Well.{IsContent, IsTouched, Leads}
use Rattle.fr_store.proofs.ClosingLaws.{closes_with, count_changed, nth_changed, shape_append, suits_at, tree_append}
use Rattle.fr_store.proofs.HeadLaws.{reaches_child}
use Rattle.fr_store.proofs.OffLaws.{beneath_or_not, marked_off, reach_place, way_off}

-- Turns.

pub turn_itself : (here : Place) (tree : Tree) → is_begun_conversion (tree_at here tree) ≡ false → turn_of here tree ≡ here
turn_itself here tree e = ap (λ (b : Bool). if b then here ++ 0 ∷ [] else here) e

pub turn_source : (here : Place) (tree : Tree) → is_begun_conversion (tree_at here tree) ≡ true → turn_of here tree ≡ here ++ 0 ∷ []
turn_source here tree e = ap (λ (b : Bool). if b then here ++ 0 ∷ [] else here) e

-- within a part
pub turn_within : (c here at_turn : Place) (k : Kid) → here ≢ [] → turn_of at_turn (tree_of k) ≡ c ++ here
    → (way : Place) × (at_turn ≡ c ++ way) × (turn_of way (tree_of (kid_at c k)) ≡ here)
turn_within c here at_turn k low turn = go (is_begun_conversion (tree_at at_turn (tree_of k))) refl
  where
    below : (way : Place) → at_turn ≡ c ++ way
        → is_begun_conversion (tree_at way (tree_of (kid_at c k))) ≡ is_begun_conversion (tree_at at_turn (tree_of k))
    below way e =
        ap is_begun_conversion (ap (tree_at way) (tree_of_at c k) ∙ sym (tree_append c way (tree_of k))
        ∙ ap (λ (p : Place). tree_at p (tree_of k)) (sym e))

    split : (p : Place) → here ≡ p → is_begun_conversion (tree_at at_turn (tree_of k)) ≡ true
        → (way : Place) × (at_turn ≡ c ++ way) × (turn_of way (tree_of (kid_at c k)) ≡ here)
    split [] e converting = absurd (low e)
    split (j ∷ p) e converting =
        let two = below_root (j ∷ p) refl in
        let is : here ≡ two.0 ++ two.1 ∷ [] = e ∙ two.2 in
        let both = same_from_push at_turn (c ++ two.0) 0 two.1
        (sym (turn_source at_turn (tree_of k) converting) ∙ turn ∙ ap (λ (q : Place). c ++ q) is
        ∙ sym (append_assoc c two.0 (two.1 ∷ []))) in (
          two.0,
          both.0,
          turn_source two.0 (tree_of (kid_at c k)) (below two.0 both.0 ∙ converting)
              ∙ ap (λ (i : ℕ). two.0 ++ i ∷ []) both.1 ∙ sym is,
        )

    go : (b : Bool) → is_begun_conversion (tree_at at_turn (tree_of k)) ≡ b
        → (way : Place) × (at_turn ≡ c ++ way) × (turn_of way (tree_of (kid_at c k)) ≡ here)
    go false e =
        let same : at_turn ≡ c ++ here = sym (turn_itself at_turn (tree_of k) e) ∙ turn in
        (here, same, turn_itself here (tree_of (kid_at c k)) (below here same ∙ e))
    go true e = split here refl e

-- What is begun as a conversion, with its source.
pub record Converts (t : Tree) : Type 0 where
  pub conversion : Conversion
  pub source : Tree
  pub is : t ≡ begun (as_content (ContentKind.Source conversion)) (branch source no_trees)
  pub touched : IsTouched source

one_source : (conversion : Conversion) (ts : Trees) → count_trees ts ≡ 1 → IsContent ts
    → Converts (begun (as_content (ContentKind.Source conversion)) ts)
one_source conversion no_trees one content = absurd content
one_source conversion (branch t no_trees) one content = record { conversion = conversion; source = t; is = refl; touched = content }
one_source conversion (branch t (branch u us)) one content = absurd (omega (arith, one))

pub converts_of : (table : Table) (s : ℕ) (t : Tree) → Suits table s t → is_begun_conversion t ≡ true → Converts t
converts_of table s (begun (as_content (ContentKind.Source conversion)) ts) suits e = one_source conversion ts suits.0.0 suits.2.0
converts_of table s (begun _ ts) suits e = absurd (cc)
converts_of table s _ suits e = absurd (cc)

or_none : {X : Type 0} (x : Option X) → option_or x None ≡ x
or_none (Some x) = refl
or_none None = refl

-- it lacks that its source isn't converted
pub lack_is : (hooks : Meanings) (table : Table) (s : ℕ) (c : Conversion) (source : Tree) → IsTouched source
    → lack_of_begun hooks table s (as_content (ContentKind.Source c)) (branch source no_trees)
    ≡ failing_source hooks table s c (complete deferred_column hooks table c.source source)
lack_is hooks table s c hole touched = absurd touched
lack_is hooks table s c source touched = or_none (failing_source hooks table s c (complete deferred_column hooks table c.source source))

makes_of : (hooks : Meanings) (table : Table) (s : ℕ) (c : Conversion) (value : Option Val) {kind : ReflectErrorKind}
    → failing_source hooks table s c value ≡ Some kind → (v : Val) × (value ≡ Some v)
makes_of hooks table s c (Some v) e = (v, refl)
makes_of hooks table s c None e = cc

module _ (hooks : Meanings) (table : Table) (s : ℕ) {t : Tree} (converts : Converts t) {kind : ReflectErrorKind}
    (lacks : own_lack hooks table s t ≡ Some kind) where
  abbrev c : Conversion
  c = converts.conversion

  lacks_so : failing_source hooks table s c (complete deferred_column hooks table c.source converts.source) ≡ Some kind
  lacks_so = sym (lack_is hooks table s c converts.source converts.touched) ∙ ap (own_lack hooks table s) (sym converts.is) ∙ lacks

  -- so its source makes a value
  pub source_makes : (v : Val) × (complete deferred_column hooks table (shape_below table s 0 t) (child_tree 0 t) ≡ Some v)
  source_makes =
      let made = makes_of hooks table s c (complete deferred_column hooks table c.source converts.source) lacks_so in (
        made.0,
        ap (λ (x : Tree). complete deferred_column hooks table (shape_below table s 0 x) (child_tree 0 x)) converts.is ∙ made.1,
      )

  -- and it lacks the same once the source is whole with that
  pub lacks_whole : own_lack hooks table s (closed_at (0 ∷ []) source_makes.0 t) ≡ Some kind
  unfolding source_makes
  lacks_whole =
      let made = makes_of hooks table s c (complete deferred_column hooks table c.source converts.source) lacks_so in
      ap (λ (x : Tree). own_lack hooks table s (closed_at (0 ∷ []) made.0 x)) converts.is
      ∙ lack_is hooks table s c (whole made.0) tt ∙ ap (failing_source hooks table s c) (sym made.1) ∙ lacks_so

-- its child is whole then
pub whole_off : {t : Tree} (converts : Converts t) (v : Val) → ChildrenAreOff (closed_at (0 ∷ []) v t)
whole_off {t} converts v = subst (λ (x : Tree). ChildrenAreOff (closed_at (0 ∷ []) v x)) (sym converts.is) (tt, tt)

whole_half : {t : Tree} (converts : Converts t) (v : Val) → IsHalfDone (closed_at (0 ∷ []) v t)
whole_half {t} converts v = subst (λ (x : Tree). IsHalfDone (closed_at (0 ∷ []) v x)) (sym converts.is) tt

whole_converts : {t : Tree} (converts : Converts t) (v : Val) → is_begun_conversion (closed_at (0 ∷ []) v t) ≡ true
whole_converts {t} converts v = ap (λ (x : Tree). is_begun_conversion (closed_at (0 ∷ []) v x)) converts.is

-- What lacks something makes no value, and what closes does.

pub touched_source : {t : Tree} → Converts t → IsTouched (child_tree 0 t)
touched_source {t} converts = subst (λ (x : Tree). IsTouched (child_tree 0 x)) (sym converts.is) converts.touched

-- what is there and makes no value doesn't close
pub closes_none : (hooks : Meanings) (table : Table) (s : ℕ) (t : Tree) → is_none (closed hooks table s t) ≡ false → IsTouched t
    → complete deferred_column hooks table s t ≡ None → ⊥
closes_none hooks table s hole closes touched none = touched
closes_none hooks table s t closes touched none =
    let wrong : true ≡ false = sym (ap (λ (value : Option Val). is_none (option_map whole value)) none) ∙ closes in
    cc

nil_of : {X : Type 0} (xs : List X) → true ≡ is_nil xs → xs ≡ []
nil_of [] e = refl
nil_of (x ∷ xs) e = cc

not_nil : (b : Bool) → false ≡ not b → true ≡ b
not_nil true e = refl
not_nil false e = cc

-- a half done place beneath which nothing fails, and that lacks something, makes no value
pub lacks_made : CompletesOrFails → (hooks : Meanings) (table : Table) (s : ℕ) (path : List PathStep) (t : Tree) → IsHalfDone t
    → {kind : ReflectErrorKind} → own_lack hooks table s t ≡ Some kind → failures_beneath hooks table s path t ≡ [] → {v : Val}
    → complete deferred_column hooks table s t ≡ Some v → ⊥
lacks_made fails hooks table s path entered half {kind} lacks none {v} makes =
    let nothing = nil_of (failures hooks table s path entered) (not_nil (is_nil (failures hooks table s path entered))
    (sym (ap (λ (value : Option Val). is_none (option_map whole value)) makes) ∙ fails hooks table s path entered)) in
    let wrong : failure_at path (Some kind) ≡ [] = sym (ap (failure_at path) lacks) ∙ nothing in
    cc
lacks_made fails hooks table s path (begun tracker ts) half {kind} lacks none {v} makes =
    let nothing = nil_of (failures hooks table s path (begun tracker ts))
    (not_nil (is_nil (failures hooks table s path (begun tracker ts)))
    (sym (ap (λ (value : Option Val). is_none (option_map whole value)) makes) ∙ fails hooks table s path (begun tracker ts))) in
    let wrong : or_itself [] (failure_at (failing_path tracker path) (Some kind)) ≡ []
    = sym (ap₂ (λ (beneath : List Failure) (lack : Option ReflectErrorKind). or_itself beneath (failure_at (failing_path tracker path) lack))
    none lacks) ∙ nothing in
    cc
lacks_made fails hooks table s path _ half lacks none makes = absurd half

-- A place that becomes whole, seen from one above it.

pub has_append : (above way : Place) (t : Tree) → HasPlace (above ++ way) t → HasPlace above t × HasPlace way (tree_at above t)
has_append [] way t has = (tt, has)
has_append (i ∷ above) way (begun tracker ts) has =
    let rest = has_append above way (tree_nth i ts) has.1 in
    ((has.0, rest.0), rest.1)
has_append (i ∷ above) way _ has = absurd has

at_closed : (above way : Place) (v : Val) (t : Tree) → HasPlace (above ++ way) t
    → tree_at above (closed_at (above ++ way) v t) ≡ closed_at way v (tree_at above t)
at_closed [] way v t has = refl
at_closed (i ∷ above) way v (begun tracker ts) has =
    ap (tree_at above) (nth_changed i (λ child. closed_at (above ++ way) v child) ts has.0)
    ∙ at_closed above way v (tree_nth i ts) has.1
at_closed (i ∷ above) way v _ has = absurd has

shape_closed : (table : Table) (s : ℕ) (above way : Place) (v : Val) (t : Tree) → HasPlace (above ++ way) t
    → shape_in table s above (closed_at (above ++ way) v t) ≡ shape_in table s above t
shape_closed table s [] way v t has = refl
shape_closed table s (i ∷ above) way v (begun tracker ts) has =
    ap (shape_in table (child_as table s tracker i) above) (nth_changed i (λ child. closed_at (above ++ way) v child) ts has.0)
    ∙ shape_closed table (child_as table s tracker i) above way v (tree_nth i ts) has.1
shape_closed table s (i ∷ above) way v _ has = absurd has

has_closed : (above way : Place) (v : Val) (t : Tree) → HasPlace (above ++ way) t → HasPlace above (closed_at (above ++ way) v t)
has_closed [] way v t has = tt
has_closed (i ∷ above) way v (begun tracker ts) has = (
  subst (λ (n : ℕ). i < n) (sym (count_changed i (λ child. closed_at (above ++ way) v child) ts)) has.0,
  subst (HasPlace above) (sym (nth_changed i (λ child. closed_at (above ++ way) v child) ts has.0))
      (has_closed above way v (tree_nth i ts) has.1),
)
has_closed (i ∷ above) way v _ has = absurd has

steps_closed : (here : Place) (v : Val) (t : Tree) → HasPlace here t → steps_in here (closed_at here v t) ≡ steps_in here t
steps_closed [] v t has = refl
steps_closed (i ∷ here) v (begun tracker ts) has =
    ap (λ (steps : List PathStep). step_as tracker i ∷ steps) (ap (steps_in here) (nth_changed i (λ child. closed_at here v child) ts has.0)
    ∙ steps_closed here v (tree_nth i ts) has.1)
steps_closed (i ∷ here) v _ has = absurd has

-- The source of a conversion of a tree in slots.
module _ (table : Table) (s : ℕ) (k : Kid) (cursor : Place) (leads : LeadsUnstored cursor k) (here : Place)
    (has : HasPlace here (tree_of k)) (suits : Suits table s (tree_of k))
    (converting : is_begun_conversion (tree_at here (tree_of k)) ≡ true) where
  pub converts : Converts (tree_at here (tree_of k))
  converts =
      converts_of table (shape_in table s here (tree_of k)) (tree_at here (tree_of k)) (suits_at table s here (tree_of k) has suits)
      converting

  -- where the source is off the way, the conversion has its turn
  pub turns : IsOffTheWay cursor (here ++ 0 ∷ []) → HasATurn cursor here (tree_of k)
  turns off = go (beneath_or_not here cursor)
    where
      go : ((way : Place) × (cursor ≡ here ++ way)) ⊎ IsOffTheWay cursor here → HasATurn cursor here (tree_of k)
      go (inr beside) = inl beside
      go (inl ([], e)) = inr (e ∙ append-nil here, converting)
      go (inl (zero ∷ way, e)) = absurd (off way (e ∙ sym (append_assoc here (0 ∷ []) way)))
      go (inl (suc j ∷ way, e)) =
          let there = has_append here (suc j ∷ way) (tree_of k) (subst (λ (p : Place). HasPlace p (tree_of k)) e
          (reach_place cursor k (leads_reach cursor [] k (subst (λ (p : Place). LeadsUnstored p k) (sym (append-nil cursor)) leads)))) in
          let only = subst (HasPlace (suc j ∷ way)) converts.is there.1 in
          absurd (omega (arith, only.0))

  -- it lies off the way where the conversion has its turn
  pub source_off : HasATurn cursor here (tree_of k) → IsOffTheWay cursor (here ++ 0 ∷ [])
  source_off (inl off) way e = off (0 ∷ way) (e ∙ append_assoc here (0 ∷ []) way)
  source_off (inr at_work) way e =
      not here (sym at_work.0 ∙ e ∙ append_assoc here (0 ∷ []) way)
    where
      not : (p : Place) → p ≡ p ++ 0 ∷ way → ⊥
      not [] e = cc
      not (i ∷ p) e = let rest : p ≡ p ++ 0 ∷ way = cc in not p rest

  -- and is stored
  pub source_stored : AreLeftRightly k → Reaches here k → HasATurn cursor here (tree_of k)
      → (slot : ℕ) × IsStoredAt k slot (here ++ 0 ∷ [])
  source_stored left reach turn =
      go (kid_at here k) refl (left_at here k left) (tree_of_at here k ∙ converts.is)
    where
      among : (slot : ℕ) (mark : Bool) (c : Conversion) (kids : Kids) → kid_at here k ≡ at slot mark (begun_plot (as_content (ContentKind.Source c)) kids)
          → AreLeftRightly (at slot mark (begun_plot (as_content (ContentKind.Source c)) kids))
          → branch converts.source no_trees ≡ trees_in kids → (n : ℕ) × IsStoredAt k n (here ++ 0 ∷ [])
      among slot mark c (kid (at n stored plot) ks) is left same =
          let reached : Reaches (here ++ 0 ∷ []) k = reaches_child here k slot mark (as_content (ContentKind.Source c)) (kid (at n stored plot) ks) 0
          reach is (omega arith) in
          let lies : kid_at (here ++ 0 ∷ []) k ≡ at n stored plot
          = kid_at_append here (0 ∷ []) k ∙ ap (kid_at (0 ∷ [])) is in
          let marked = subst (AllMarked true) lies (marked_off cursor (here ++ 0 ∷ []) k leads (source_off turn) reached) in
          (n, record { plot = plot; reaches = reached; is = lies ∙ ap (λ (b : Bool). at n b plot) marked.0 })
      among slot mark c (kid (there v) ks) is left same = absurd (left.0 tt)
      among slot mark c (kid gone ks) is left same =
          let missing : converts.source ≡ hole = ap (tree_nth 0) same in
          absurd (subst IsTouched missing converts.touched)
      among slot mark c no_kids is left same = cc

      go : (x : Kid) → kid_at here k ≡ x → AreLeftRightly (kid_at here k)
          → tree_of (kid_at here k) ≡ begun (as_content (ContentKind.Source converts.conversion)) (branch converts.source no_trees)
          → (n : ℕ) × IsStoredAt k n (here ++ 0 ∷ [])
      go x e left is = by_kid x e (subst AreLeftRightly e left) (sym (ap tree_of e) ∙ is)
        where
          by_kid : (x : Kid) → kid_at here k ≡ x → AreLeftRightly x
              → tree_of x ≡ begun (as_content (ContentKind.Source converts.conversion)) (branch converts.source no_trees)
              → (n : ℕ) × IsStoredAt k n (here ++ 0 ∷ [])
          by_kid gone e left is = cc
          by_kid (there v) e left is = cc
          by_kid (at slot mark entered_plot) e left is = cc
          by_kid (at slot mark (whole_plot v)) e left is = cc
          by_kid (at slot mark (begun_plot tracker kids)) e left is =
              let tracker_is : tracker ≡ as_content (ContentKind.Source converts.conversion) = cc in
              let kids_are : branch converts.source no_trees ≡ trees_in kids = cc in
              among slot mark converts.conversion kids
              (e ∙ ap (λ (f : Tracker). at slot mark (begun_plot f kids)) tracker_is)
              (subst (λ (f : Tracker). AreLeftRightly (at slot mark (begun_plot f kids))) tracker_is left) kids_are

-- A conversion whose source isn't converted fails, at the turn of its source.
module _ (hooks : Meanings) (table : Table) (s : ℕ) (path : List PathStep) (k : Kid) (cursor : Place) (leads : LeadsUnstored cursor k) (here : Place)
    (reach : Reaches (here ++ 0 ∷ []) k) (suits : Suits table s (tree_of k))
    (converting : is_begun_conversion (tree_at here (tree_of k)) ≡ true) (off : IsOffTheWay cursor (here ++ 0 ∷ []))
    {kind : ReflectErrorKind} (lacks : own_lack hooks table (shape_in table s here (tree_of k)) (tree_at here (tree_of k)) ≡ Some kind) where
  has : HasPlace (here ++ 0 ∷ []) (tree_of k)
  has = reach_place (here ++ 0 ∷ []) k reach

  above : HasPlace here (tree_of k)
  above = (has_append here (0 ∷ []) (tree_of k) has).0

  source_of : Converts (tree_at here (tree_of k))
  source_of = converts table s k cursor leads here above suits converting

  made : (v : Val)
      × (complete deferred_column hooks table (shape_below table (shape_in table s here (tree_of k)) 0 (tree_at here (tree_of k)))
      (child_tree 0 (tree_at here (tree_of k))) ≡ Some v)
      × (own_lack hooks table (shape_in table s here (tree_of k)) (closed_at (0 ∷ []) v (tree_at here (tree_of k))) ≡ Some kind)
  made =
      let makes = source_makes hooks table (shape_in table s here (tree_of k)) source_of lacks in
      (makes.0, makes.1, lacks_whole hooks table (shape_in table s here (tree_of k)) source_of lacks)

  abbrev v : Val
  v = made.0

  -- the tree with the source whole
  abbrev tree : Tree
  tree = closed_at (here ++ 0 ∷ []) v (tree_of k)

  closes : Closes hooks table s (here ++ 0 ∷ []) v (tree_of k)
  closes =
      closes_with hooks table s (here ++ 0 ∷ []) (tree_of k) has
      (ap₂ (complete deferred_column hooks table) (shape_append table s here (0 ∷ []) (tree_of k))
      (tree_append here (0 ∷ []) (tree_of k)) ∙ made.1)

  here_then : tree_at here tree ≡ closed_at (0 ∷ []) v (tree_at here (tree_of k))
  here_then = at_closed here (0 ∷ []) v (tree_of k) has

  converting_then : is_begun_conversion (tree_at here tree) ≡ true
  converting_then = ap is_begun_conversion here_then ∙ whole_converts source_of v

  turn_then : HasATurn cursor here (tree_of k) → HasATurn cursor here tree
  turn_then (inl beside) = inl beside
  turn_then (inr at_work) = inr (at_work.0, converting_then)

  steps : steps_in (turn_of here tree) tree ≡ steps_in (here ++ 0 ∷ []) (tree_of k)
  steps =
      ap (λ (p : Place). steps_in p tree) (turn_source here tree converting_then) ∙ steps_closed (here ++ 0 ∷ []) v (tree_of k) has

  pub source_fails : LackingFails → ClosingKeepsFailuresOff
      → ((place : Place) (x : Kid) → LeadsUnstored place x → Leads (deferred 0) place (tree_of x)) → Contains
      (failures_off hooks table s path cursor (tree_of k)) (record { path = path ++ steps_in (here ++ 0 ∷ []) (tree_of k); kind = kind })
  source_fails lacking keeps deep =
      subst (λ (fs : List Failure). Contains fs (record { path = path ++ steps_in (here ++ 0 ∷ []) (tree_of k); kind = kind }))
      (keeps hooks table s path cursor (here ++ 0 ∷ []) v (tree_of k) closes (inl off))
      (subst (λ (to : List PathStep). Contains (failures_off hooks table s path cursor tree)
      (record { path = path ++ to; kind = kind })) steps (lacking hooks table s path (deferred 0) cursor here tree kind
      (subst (Leads (deferred 0) cursor) (tree_put_at (here ++ 0 ∷ []) (there v) k) (deep cursor
      (put_at (here ++ 0 ∷ []) (there v) k) (way_off cursor (here ++ 0 ∷ []) (there v) k leads off reach tt).0))
      (has_closed here (0 ∷ []) v (tree_of k) has)
      (turn_then (turns table s k cursor leads here above suits converting off))
      (subst IsHalfDone (sym here_then) (whole_half source_of v))
      (subst ChildrenAreOff (sym here_then) (whole_off source_of v))
      (ap₂ (own_lack hooks table) (shape_closed table s here (0 ∷ []) v (tree_of k) has) here_then ∙ made.2)))
