-- Laws of a walk that is refused, for proofs: the first place of it that makes no value is the first place that fails.
use Rattle.std.proofs.Common.{◌≡◌, ◌⊎◌, ℕ, zero, suc, Bool, true, false, List, [], ◌∷◌, ◌++◌, Option, Some, None, inl, inr, refl, sym, ◌∙◌, ap, ap₂, subst, arith}
use Rattle.std.proofs.lemmas.List.Elements.{All-contains}
use Rattle.fr_store.specs.Common.{AllMarked, AllMarkedAmong, AreLeftRightly, AreStoredAt, AreUnplaced, AtCursor, ComesBefore, Contains, EachFailureHasItsPlace, Failure, FinishesOrRefuses, FirstByWalkIs, HasATurn, HasPlace, IsClosed, IsStoredAt, IsWalk, Kid, Kids, LackingFails, LeadsUnstored, Meanings, NoneStored, PathStep, Place, Plot, Reaches, ReflectErrorKind, StoredBut, Suits, Table, Tree, Trees, Val, at, begun_plot, body_in, branch, cells_in, child_tree, count_in, deferred_column, failures_off, finished, first_by_walk, is_begun_conversion, is_conversion_body, is_some, kid, kid_at, kid_nth, kind_of, no_kids, no_trees, own_lack, shape_in, steps_in, strict, tree_at, tree_in, tree_of, tree_of_at, tree_of_nth, trees_in, turn_of, walk_order, whole_plot}
use Rattle.std.specs.Option.{option_or}
use Rattle.std.specs.Prelude.{is_none}
use Rattle.fr_model.specs.Complete.{complete, missing_value}
use Rattle.fr_model.specs.FailingLaws.{ChildrenAreOff, FailsOff, IsHalfDone, IsOrAfter}
use Rattle.fr_model.specs.Finish.{finish_cause, refusal_or}
use Rattle.fr_model.specs.DueNotes.{IsOffTheWay}
use Rattle.fr_model.specs.Tree.{deferred, shape_below}
use Rattle.fr_model.specs.Well.{AllOff, OffBut, Leads}
use Rattle.fr_store.specs.HoldLaws.{no_marks}
use Rattle.fr_store.proofs.OffLaws.{marked_off, off_stored, reach_place}
use Rattle.fr_store.proofs.HeadLaws.{Head, later, head_closed}
use Rattle.fr_store.proofs.PathOrder.{first_front}
use Rattle.fr_store.proofs.ClosingLaws.{shape_append, tree_append}
use Rattle.fr_store.proofs.FailTurns.{closes_none, converts, has_append, lacks_made, source_fails, source_makes, source_stored, touched_source, turn_itself, turn_source}
use Rattle.fr_model.specs.FinishLaws.{ClosingKeepsFailuresOff}
use Rattle.fr_model.specs.Laws.{CompletesOrFails}
use Rattle.std.proofs.lemmas.List.{same_from_push}

-- Half done places.

-- a place of the tree is reached
pub place_reach : (place : Place) (k : Kid) → HasPlace place (tree_of k) → Reaches place k
place_reach [] k has = tt
place_reach (i ∷ place) (at slot stored (begun_plot tracker kids)) has = (
  omega (arith, count_in kids, has.0),
  place_reach place (kid_nth i kids) (subst (λ (t : Tree). HasPlace place t) (sym (tree_of_nth i kids)) has.1),
)
place_reach (i ∷ place) _ has = absurd has

-- off the way it is stored
half_stored : (cursor place : Place) (k : Kid) → LeadsUnstored cursor k → IsOffTheWay cursor place → HasPlace place (tree_of k)
    → IsHalfDone (tree_at place (tree_of k)) → (slot : ℕ) × IsStoredAt k slot place
half_stored cursor place k leads off has half =
    go (kid_at place k) refl (marked_off cursor place k leads off (place_reach place k has))
    (subst IsHalfDone (sym (tree_of_at place k)) half)
  where
    go : (x : Kid) → kid_at place k ≡ x → AllMarked true (kid_at place k) → IsHalfDone (tree_of (kid_at place k))
        → (slot : ℕ) × IsStoredAt k slot place
    go (at slot mark plot) e marked half =
        let stored : AllMarked true (at slot mark plot) = subst (AllMarked true) e marked in (
          slot,
          record { plot = plot; reaches = place_reach place k has; is = e ∙ ap (λ (b : Bool). at slot b plot) stored.0 },
        )
    go _ e marked half = absurd (subst (λ (x : Kid). IsHalfDone (tree_of x)) e half)

-- a place that lacks something by itself, and is in a slot, is half done
lacks_half : (hooks : Meanings) (table : Table) (s : ℕ) (plot : Plot) (kind : ReflectErrorKind)
    → own_lack hooks table s (tree_in plot) ≡ Some kind → IsHalfDone (tree_in plot)
lacks_half hooks table s (whole_plot v) kind lacks = absurd (cc)
lacks_half hooks table s _ kind lacks = tt

-- Ways of the tree.

unplaced_off : (ks : Kids) → AreUnplaced (cells_in ks) → AllOff strict (trees_in ks)
unplaced_off no_kids closed = tt
unplaced_off (kid (at slot stored plot) ks) closed = absurd closed.0
unplaced_off (kid _ ks) closed = (tt, unplaced_off ks closed.1)

pub closed_cursor : (plot : Plot) → IsClosed (body_in plot) → is_conversion_body (body_in plot) ≡ false → AtCursor strict (tree_in plot)
closed_cursor (begun_plot tracker kids) closed plain = (plain, unplaced_off kids closed)
closed_cursor _ closed plain = tt

closed_off : (plot : Plot) → IsClosed (body_in plot) → ChildrenAreOff (tree_in plot)
closed_off (begun_plot tracker kids) closed = unplaced_off kids closed
closed_off _ closed = tt

any_off : (start : ℕ) (ts : Trees) → AllOff (deferred start) ts
any_off start no_trees = tt
any_off start (branch t ts) = (tt, any_off start ts)

but_off : (start i : ℕ) (Below : Kid → Type 0) (After : Tree → Type 0) (ks : Kids) → StoredBut i Below ks
    → (Below (kid_nth i ks) → After (tree_of (kid_nth i ks))) → OffBut (deferred start) i After (trees_in ks)
but_off start i Below After no_kids but so = absurd but
but_off start zero Below After (kid k ks) but so = (so but.0, any_off start (trees_in ks))
but_off start (suc i) Below After (kid k ks) but so = (tt, but_off start i Below After ks but.1 so)

-- in deferred mode the way leads through the tree
pub leads_deferred : (start : ℕ) (place : Place) (k : Kid) → LeadsUnstored place k → Leads (deferred start) place (tree_of k)
leads_deferred start [] (at slot stored (begun_plot tracker kids)) leads = (tt, any_off start (trees_in kids))
leads_deferred start [] (at slot stored _) leads = tt
leads_deferred start [] _ leads = absurd leads
leads_deferred start (i ∷ place) (at slot stored (begun_plot tracker kids)) leads =
    but_off start i (λ below. LeadsUnstored place below) (λ child. Leads (deferred start) place child) kids leads.1
    (λ child. leads_deferred start place (kid_nth i kids) child)
leads_deferred start (i ∷ place) (at slot stored _) leads = absurd leads.1
leads_deferred start (i ∷ place) _ leads = absurd leads

-- Nothing is both stored and not stored.

kids_off : (ks : Kids) → AllMarkedAmong true ks → AllMarkedAmong false ks → AllOff strict (trees_in ks)
kids_off no_kids marked unmarked = tt
kids_off (kid (at slot stored plot) ks) marked unmarked =
    let apart : true ≡ false = sym marked.0.0 ∙ unmarked.0.0 in
    cc
kids_off (kid _ ks) marked unmarked = (tt, kids_off ks marked.1 unmarked.1)

but_strict : (i : ℕ) (Below : Kid → Type 0) (After : Tree → Type 0) (ks : Kids) → StoredBut i Below ks → AllMarkedAmong false ks
    → (Below (kid_nth i ks) → AllMarked false (kid_nth i ks) → After (tree_of (kid_nth i ks)))
    → OffBut strict i After (trees_in ks)
but_strict i Below After no_kids but unmarked so = absurd but
but_strict zero Below After (kid k ks) but unmarked so = (so but.0 unmarked.0, kids_off ks but.1 unmarked.1)
but_strict (suc i) Below After (kid (at slot stored plot) ks) but unmarked so =
    let apart : true ≡ false = sym but.0.0 ∙ unmarked.0.0 in
    cc
but_strict (suc i) Below After (kid _ ks) but unmarked so = (tt, but_strict i Below After ks but.1 unmarked.1 so)

-- where nothing is stored it leads as in strict mode, but to a conversion
pub leads_strict : (place : Place) (k : Kid) → is_begun_conversion (tree_at place (tree_of k)) ≡ false → LeadsUnstored place k → NoneStored k
    → Leads strict place (tree_of k)
leads_strict [] (at slot stored (begun_plot tracker kids)) plain leads none = (plain, kids_off kids leads.1 none.1)
leads_strict [] (at slot stored _) plain leads none = tt
leads_strict [] _ plain leads none = absurd leads
leads_strict (i ∷ place) (at slot stored (begun_plot tracker kids)) plain leads none =
    but_strict i (λ below. LeadsUnstored place below) (λ child. Leads strict place child) kids leads.1 none.1
    (λ child unmarked. leads_strict place (kid_nth i kids)
    (ap (λ (t : Tree). is_begun_conversion (tree_at place t)) (tree_of_nth i kids) ∙ plain) child unmarked)
leads_strict (i ∷ place) (at slot stored _) plain leads none = absurd leads.1
leads_strict (i ∷ place) _ plain leads none = absurd leads

no_places : (k : Kid) (places : List Place) → AreStoredAt k [] places → places ≡ []
no_places k [] stored = refl
no_places k (place ∷ places) stored = absurd stored

-- where a walk is over no place is left, and none is marked
pub walk_over : {k : Kid} (left : IsWalk k []) → (left.places ≡ []) × NoneStored k
walk_over {k} left = (
  over,
  no_marks k (λ slot place stored.
      let found : Contains [] place = subst (λ (ps : List Place). Contains ps place) over (left.all slot place stored) in
      omega (arith, found.1)),
)
  where
    over : left.places ≡ []
    over = no_places k left.places left.stored

-- The first place of a walk, at whose turn a place lacks something by itself: it, or the conversion whose source it is.
module _ (hooks : Meanings) (table : Table) (s : ℕ) (path : List PathStep) (k : Kid) (cursor : Place) (leads : LeadsUnstored cursor k)
    (left : AreLeftRightly k) (suits : Suits table s (tree_of k)) (n : ℕ) (rest : List ℕ) (walk : IsWalk k (n ∷ rest))
    (head : Head k n rest walk.places) (here : Place) (turn : turn_of here (tree_of k) ≡ head.place) (kind : ReflectErrorKind)
    (incomplete : complete deferred_column hooks table (shape_in table s here (tree_of k)) (tree_at here (tree_of k)) ≡ None)
    (lacks : own_lack hooks table (shape_in table s here (tree_of k)) (tree_at here (tree_of k)) ≡ Some kind) where
  abbrev first_failure : Failure
  first_failure = record { path = path ++ steps_in head.place (tree_of k); kind = kind }

  tree_there : tree_at head.place (tree_of k) ≡ tree_in head.stored.plot
  tree_there = sym (tree_of_at head.place k) ∙ ap tree_of head.stored.is

  off : IsOffTheWay cursor head.place
  off = off_stored cursor head.place k leads head.stored.is

  shut : IsClosed (body_in head.stored.plot)
  shut = head_closed k n rest walk head cursor leads

  -- it fails
  fails : LackingFails → ClosingKeepsFailuresOff → Contains (failures_off hooks table s path cursor (tree_of k)) first_failure
  fails lacking keeps = go (is_begun_conversion (tree_at here (tree_of k))) refl
    where
      go : (b : Bool) → is_begun_conversion (tree_at here (tree_of k)) ≡ b
          → Contains (failures_off hooks table s path cursor (tree_of k)) first_failure
      go false e =
          let same : here ≡ head.place = sym (turn_itself here (tree_of k) e) ∙ turn in
          let there : tree_at here (tree_of k) ≡ tree_in head.stored.plot = ap (λ (p : Place). tree_at p (tree_of k)) same ∙ tree_there in
          subst (λ (p : Place). Contains (failures_off hooks table s path cursor (tree_of k))
          (record { path = path ++ steps_in p (tree_of k); kind = kind })) turn
          (lacking hooks table s path (deferred 0) cursor here (tree_of k) kind (leads_deferred 0 cursor k leads)
          (subst (λ (p : Place). HasPlace p (tree_of k)) (sym same) (reach_place head.place k head.stored.reaches))
          (inl (subst (IsOffTheWay cursor) (sym same) off)) (subst IsHalfDone (sym there)
          (lacks_half hooks table (shape_in table s here (tree_of k)) head.stored.plot kind
          (ap (own_lack hooks table (shape_in table s here (tree_of k))) (sym there) ∙ lacks)))
          (subst ChildrenAreOff (sym there) (closed_off head.stored.plot shut)) lacks)
      go true e =
          let same : here ++ 0 ∷ [] ≡ head.place = sym (turn_source here (tree_of k) e) ∙ turn in
          subst (λ (p : Place). Contains (failures_off hooks table s path cursor (tree_of k))
          (record { path = path ++ steps_in p (tree_of k); kind = kind })) same (source_fails hooks table s path k cursor leads here
          (subst (λ (p : Place). Reaches p k) (sym same) head.stored.reaches) suits e (subst (IsOffTheWay cursor) (sym same) off) lacks
          lacking keeps (λ place x on. leads_deferred 0 place x on))

  -- Another failure.
  module _ (fails_all : CompletesOrFails) (other : Failure) (told : FailsOff hooks table s path cursor (tree_of k) other) where
    abbrev place : Place
    place = told.fails.here

    -- its turn is that of a stored place
    stored : (slot : ℕ) × IsStoredAt k slot (turn_of place (tree_of k))
    stored = go (is_begun_conversion (tree_at place (tree_of k))) refl told.off
      where
        go : (b : Bool) → is_begun_conversion (tree_at place (tree_of k)) ≡ b → HasATurn cursor place (tree_of k)
            → (slot : ℕ) × IsStoredAt k slot (turn_of place (tree_of k))
        go false e (inl beside) =
            subst (λ (p : Place). (slot : ℕ) × IsStoredAt k slot p) (sym (turn_itself place (tree_of k) e))
            (half_stored cursor place k leads beside told.fails.place told.fails.half)
        go false e (inr at_work) = let wrong : false ≡ true = sym e ∙ at_work.1 in cc
        go true e turn =
            subst (λ (p : Place). (slot : ℕ) × IsStoredAt k slot p) (sym (turn_source place (tree_of k) e))
            (source_stored table s k cursor leads place told.fails.place suits e left (place_reach place k told.fails.place) turn)

    abbrev lack_at : Place → Option ReflectErrorKind
    lack_at p = own_lack hooks table (shape_in table s p (tree_of k)) (tree_at p (tree_of k))

    -- the same place lacks the same
    same_kind : here ≡ place → other.kind ≡ kind
    same_kind e =
        let both : Some other.kind ≡ Some kind = sym told.fails.lacks ∙ ap lack_at (sym e) ∙ lacks in
        cc

    -- of a conversion and its source only one lacks something
    abbrev value_at : Place → Option Val
    value_at p = complete deferred_column hooks table (shape_in table s p (tree_of k)) (tree_at p (tree_of k))

    source_value : (above : Place) → value_at (above ++ 0 ∷ [])
        ≡ complete deferred_column hooks table (shape_below table (shape_in table s above (tree_of k)) 0 (tree_at above (tree_of k)))
        (child_tree 0 (tree_at above (tree_of k)))
    source_value above =
        ap₂ (complete deferred_column hooks table) (shape_append table s above (0 ∷ []) (tree_of k))
        (tree_append above (0 ∷ []) (tree_of k))

    -- this one fails, and not its source
    not_source : is_begun_conversion (tree_at here (tree_of k)) ≡ true → here ++ 0 ∷ [] ≡ place → HasPlace here (tree_of k) → ⊥
    not_source e same has =
        let made = source_makes hooks table (shape_in table s here (tree_of k))
        (converts table s k cursor leads here has suits e) lacks in
        lacks_made fails_all hooks table (shape_in table s place (tree_of k)) (path ++ steps_in place (tree_of k))
        (tree_at place (tree_of k)) told.fails.half told.fails.lacks told.fails.beneath
        (ap value_at (sym same) ∙ source_value here ∙ made.1)

    -- this one fails, and not the conversion
    not_conversion : is_begun_conversion (tree_at place (tree_of k)) ≡ true → place ++ 0 ∷ [] ≡ here → ⊥
    not_conversion e same =
        closes_none hooks table (shape_below table (shape_in table s place (tree_of k)) 0 (tree_at place (tree_of k)))
        (child_tree 0 (tree_at place (tree_of k))) (told.fails.children 0)
        (touched_source (converts table s k cursor leads place told.fails.place suits e))
        (sym (source_value place) ∙ ap value_at same ∙ incomplete)

    -- so two failures of one turn are the same
    same_turn : head.place ≡ turn_of place (tree_of k) → other.kind ≡ kind
    same_turn e =
        go (is_begun_conversion (tree_at here (tree_of k))) refl (is_begun_conversion (tree_at place (tree_of k))) refl
      where
        go : (a : Bool) → is_begun_conversion (tree_at here (tree_of k)) ≡ a → (b : Bool)
            → is_begun_conversion (tree_at place (tree_of k)) ≡ b → other.kind ≡ kind
        go false a false b =
            same_kind (sym (turn_itself here (tree_of k) a) ∙ turn ∙ e ∙ turn_itself place (tree_of k) b)
        go true a true b =
            same_kind ((same_from_push here place 0 0
            (sym (turn_source here (tree_of k) a) ∙ turn ∙ e ∙ turn_source place (tree_of k) b)).0)
        go true a false b =
            let same : here ++ 0 ∷ [] ≡ place = sym (turn_source here (tree_of k) a) ∙ turn ∙ e ∙ turn_itself place (tree_of k) b in
            absurd (not_source a same (has_append here (0 ∷ []) (tree_of k)
            (subst (λ (p : Place). HasPlace p (tree_of k)) (sym same) told.fails.place)).0)
        go false a true b =
            absurd (not_conversion b (sym (turn_source place (tree_of k) b) ∙ sym e ∙ sym turn ∙ turn_itself here (tree_of k) a))

    -- it comes after the first
    other_after : IsOrAfter first_failure other
    other_after = go (later k n rest walk head stored.0 (turn_of place (tree_of k)) stored.1)
      where
        go : (head.place ≡ turn_of place (tree_of k)) ⊎ Contains head.places (turn_of place (tree_of k)) → IsOrAfter first_failure other
        go (inl e) =
            inl (ap₂ (λ (to : List PathStep) (x : ReflectErrorKind). record { path = to; kind = x })
            (told.fails.at ∙ ap (λ (p : Place). path ++ steps_in p (tree_of k)) (sym e)) (same_turn e))
        go (inr found) =
            inr (ap (walk_order (path ++ steps_in head.place (tree_of k))) told.fails.at
            ∙ first_front path (steps_in head.place (tree_of k)) (steps_in (turn_of place (tree_of k)) (tree_of k)) ∙ All-contains
            (λ (p : Place). ComesBefore (tree_of k) head.place p) head.places (turn_of place (tree_of k)) head.before found)

  pub first_fails : EachFailureHasItsPlace → LackingFails → ClosingKeepsFailuresOff → CompletesOrFails → FirstByWalkIs
      → first_by_walk (failures_off hooks table s path cursor (tree_of k))
      ≡ Some (record { path = path ++ steps_in head.place (tree_of k); kind = kind })
  first_fails each lacking keeps fails_all first =
      first (failures_off hooks table s path cursor (tree_of k)) first_failure (fails lacking keeps)
      (λ other found. other_after fails_all other (each hooks table s path cursor (tree_of k) other found))

none_of : {X : Type 0} (x : Option X) → is_none x ≡ true → x ≡ None
none_of (Some x) e = absurd (cc)
none_of None e = refl

-- what fails first is the cause, and the end doesn't come about
pub held_by_first : FinishesOrRefuses → (hooks : Meanings) (table : Table) (s : ℕ) (cursor : Place) (tree : Tree)
    (kind : ReflectErrorKind) → Leads (deferred 0) cursor tree
    → kind_of (first_by_walk (failures_off hooks table s [] cursor tree)) ≡ Some kind
    → (finished hooks table s cursor tree ≡ None) × (kind ≡ finish_cause hooks table s cursor tree)
held_by_first refuses hooks table s cursor tree kind leads first = (
  none_of (finished hooks table s cursor tree) (refuses hooks table s [] (deferred 0) cursor tree leads ∙ ap
      (λ (x : Option ReflectErrorKind). is_some
      (option_or x (own_lack hooks table (shape_in table s cursor tree) (tree_at cursor tree)))) first),
  sym (ap (λ (x : Option ReflectErrorKind). refusal_or
      (option_or x (own_lack hooks table (shape_in table s cursor tree) (tree_at cursor tree)))
      (missing_value (shape_in table s cursor tree))) first),
)

-- and where none fails it is what the place at which the builder works lacks
pub held_by_last : FinishesOrRefuses → (hooks : Meanings) (table : Table) (s : ℕ) (cursor : Place) (tree : Tree)
    (kind : ReflectErrorKind) → Leads (deferred 0) cursor tree → failures_off hooks table s [] cursor tree ≡ []
    → own_lack hooks table (shape_in table s cursor tree) (tree_at cursor tree) ≡ Some kind
    → (finished hooks table s cursor tree ≡ None) × (kind ≡ finish_cause hooks table s cursor tree)
held_by_last refuses hooks table s cursor tree kind leads none lacks =
    let nothing : kind_of (first_by_walk (failures_off hooks table s [] cursor tree)) ≡ None
    = ap (λ (fs : List Failure). kind_of (first_by_walk fs)) none in
    let cause : option_or (kind_of (first_by_walk (failures_off hooks table s [] cursor tree)))
    (own_lack hooks table (shape_in table s cursor tree) (tree_at cursor tree)) ≡ Some kind
    = ap (λ (x : Option ReflectErrorKind). option_or x
    (own_lack hooks table (shape_in table s cursor tree) (tree_at cursor tree))) nothing ∙ lacks in (
      none_of (finished hooks table s cursor tree) (refuses hooks table s [] (deferred 0) cursor tree leads ∙ ap is_some cause),
      sym (ap (λ (x : Option ReflectErrorKind). refusal_or x (missing_value (shape_in table s cursor tree))) cause),
    )
