-- Which places fail at the end of deferred mode: each failure is that of a place, and so is each off the way; and what that end is where
-- every place off the way is whole or a hole.
use Rattle.std.proofs.Common.{◌≡◌, ◌+◌, ◌<◌, ◌∷◌, ◌++◌, ◌≢◌, ◌⊎◌, if◌then◌else◌}
use Rattle.fr_model.proofs.Common.{ℕ, zero, suc, List, [], append-nil, append_assoc, Option, Some, None, refl, ◌∙◌, ap, ap₂, subst, arith, Contains, option_map, Contains-append_left, Contains-append_right, ReflectErrorKind, Meanings, Table, PathStep, own_lack, lack_of_begun, Failure, failure_at, or_itself, failures, failures_among, IsHalfDone, turn_of, HasATurn, ChildrenAreOff, failures_beneath, failures_here, failing_path, Bool, true, is_conversion, is_begun_conversion, child_tree, LackingFails, NothingFailsOfDone, FinishOfDone, closed, one_more_tree, closed_all, closed_but, finished, failures_but, failures_off, IsOffTheWay, step_as, steps_in, Place, HasPlace, Tracker, strict, Tree, hole, entered, begun, Trees, no_trees, branch, tree_nth, change_nth, tree_at, change_at, child_as, shape_in, count_trees, IsOff, AllOff, OffBut, Leads, inl, inr, ⊎_elim, false, not, is_none, sym, Contains-append_cases, is_nil, FailsAt, FailsOff, FailuresLieThere, EachFailureHasItsPlace, EachFailureOfATreeHasItsPlace}
use Rattle.fr_model.proofs.Basis.{leads_child}
use Rattle.fr_model.proofs.Closing.{turn_beneath}
use Rattle.fr_model.proofs.Failing.{completes_or_fails}

-- one of no failures, and of those of a place

pub of_none : (f : Failure) → Contains [] f → ⊥
of_none f (k, within, is) = omega arith

keeps_beneath : (beneath itself : List Failure) (f : Failure) → Contains beneath f → Contains (or_itself beneath itself) f
keeps_beneath [] itself f has = absurd (of_none f has)
keeps_beneath (first ∷ beneath) itself f has = has

-- What is whole or a hole

module _ (hooks : Meanings) (table : Table) where
  done_fails_not : (s : ℕ) (path : List PathStep) (t : Tree) → IsOff strict t → failures hooks table s path t ≡ []
  done_fails_not s path entered off = absurd off
  done_fails_not s path (begun tracker ts) off = absurd off
  done_fails_not s path _ off = refl

  all_done_fail_not : (s : ℕ) (tracker : Tracker) (k : ℕ) (path : List PathStep) (ts : Trees) → AllOff strict ts
      → failures_among hooks table s tracker k path ts ≡ []
  all_done_fail_not s tracker k path no_trees off = refl
  all_done_fail_not s tracker k path (branch t ts) off =
      ap₂ (λ (some others : List Failure). some ++ others)
      (done_fails_not (child_as table s tracker k) (path ++ step_as tracker k ∷ []) t off.0)
      (all_done_fail_not s tracker (suc k) path ts off.1)

  but_done_fail_not : (s : ℕ) (tracker : Tracker) (on_way : ℕ) (below : ℕ → List PathStep → Tree → List Failure)
      (Below : Tree → Type 0) (k : ℕ) (path : List PathStep) (ts : Trees)
      → ((shape : ℕ) (to : List PathStep) (t : Tree) → Below t → below shape to t ≡ []) → OffBut strict on_way Below ts
      → failures_but hooks table s tracker on_way below k path ts ≡ []
  but_done_fail_not s tracker on_way below Below k path no_trees step off = absurd off
  but_done_fail_not s tracker zero below Below k path (branch t ts) step off =
      ap₂ (λ (some others : List Failure). some ++ others) (step (child_as table s tracker k) (path ++ step_as tracker k ∷ []) t off.0)
      (all_done_fail_not s tracker (suc k) path ts off.1)
  but_done_fail_not s tracker (suc on_way) below Below k path (branch t ts) step off =
      ap₂ (λ (some others : List Failure). some ++ others)
      (done_fails_not (child_as table s tracker k) (path ++ step_as tracker k ∷ []) t off.0)
      (but_done_fail_not s tracker on_way below Below (suc k) path ts step off.1)

pub nothing_fails_of_done : NothingFailsOfDone
nothing_fails_of_done hooks table s path cursor hole leads = refl
nothing_fails_of_done hooks table s path [] (begun tracker ts) leads =
    rw leads.0 (all_done_fail_not hooks table s tracker 0 path ts leads.1)
nothing_fails_of_done hooks table s path (i ∷ cursor) (begun tracker ts) leads =
    but_done_fail_not hooks table s tracker i
    (λ (shape : ℕ) (to : List PathStep) (t : Tree). failures_off hooks table shape to cursor t)
    (λ child. Leads strict cursor child) 0 path ts
    (λ shape to t below. nothing_fails_of_done hooks table shape to cursor t below) leads
nothing_fails_of_done hooks table s path cursor _ leads = refl

-- Where a place has its turn

pub turn_below : (i : ℕ) (here : Place) (tree : Tree) → turn_of (i ∷ here) tree ≡ i ∷ turn_of here (child_tree i tree)
turn_below i here tree = go (is_begun_conversion (tree_at here (child_tree i tree)))
  where
    go : (b : Bool) → (if b then i ∷ (here ++ 0 ∷ []) else i ∷ here) ≡ i ∷ (if b then here ++ 0 ∷ [] else here)
    go true = refl
    go false = refl

-- the path to the turn of a place that is begun
turn_path : (path : List PathStep) (tracker : Tracker) (ts : Trees)
    → failing_path tracker path ≡ path ++ steps_in (turn_of [] (begun tracker ts)) (begun tracker ts)
turn_path path tracker ts = go (is_conversion tracker)
  where
    go : (b : Bool) → (if b then path ++ step_as tracker 0 ∷ [] else path)
        ≡ path ++ steps_in (if b then 0 ∷ [] else []) (begun tracker ts)
    go true = refl
    go false = sym (append-nil path)

-- and from the place above another
path_below : (path : List PathStep) (tracker : Tracker) (i : ℕ) (here : Place) (ts : Trees)
    → (path ++ step_as tracker i ∷ []) ++ steps_in (turn_of here (tree_nth i ts)) (tree_nth i ts)
    ≡ path ++ steps_in (turn_of (i ∷ here) (begun tracker ts)) (begun tracker ts)
path_below path tracker i here ts =
    append_assoc path (step_as tracker i ∷ []) (steps_in (turn_of here (tree_nth i ts)) (tree_nth i ts))
    ∙ ap (λ (way : Place). path ++ steps_in way (begun tracker ts)) (sym (turn_below i here (begun tracker ts)))

-- seen from a conversion at which the builder works each place in it has a turn
turn_within : (here : Place) (t : Tree) → is_begun_conversion t ≡ true → HasATurn [] here t
turn_within [] t conversion = inr (refl, conversion)
turn_within (i ∷ here) t conversion = inl (λ way e. cc)

-- what fails in a conversion, or else among the children of a place
in_either : (hooks : Meanings) (table : Table) (s : ℕ) (path : List PathStep) (tracker : Tracker) (ts : Trees) (f : Failure)
    → Contains (failures hooks table s path (begun tracker ts)) f → Contains (failures_among hooks table s tracker 0 path ts) f
    → Contains (failures_here hooks table s path tracker ts) f
in_either hooks table s path tracker ts f all beneath = go (is_conversion tracker)
  where
    go : (b : Bool) → Contains
        (if b then failures hooks table s path (begun tracker ts) else failures_among hooks table s tracker 0 path ts) f
    go true = all
    go false = beneath

-- A place that lacks something

module _ (hooks : Meanings) (table : Table) where
  fails_itself : (s : ℕ) (path : List PathStep) (t : Tree) (kind : ReflectErrorKind) → IsHalfDone t → ChildrenAreOff t
      → own_lack hooks table s t ≡ Some kind
      → Contains (failures hooks table s path t) (record { path = path ++ steps_in (turn_of [] t) t; kind = kind })
  fails_itself s path entered kind half off lacks = rw (append-nil path, lacks) (0, omega arith, refl)
  fails_itself s path (begun tracker ts) kind half off lacks =
      rw (← turn_path path tracker ts) (rw (all_done_fail_not hooks table s tracker 0 path ts off, lacks) (0, omega arith, refl))
  fails_itself s path _ kind half off lacks = absurd half

  -- one of the children from number k on fails
  nth_fails : (s : ℕ) (tracker : Tracker) (further k : ℕ) (path : List PathStep) (ts : Trees) (i : ℕ) (f : Failure)
      → i ≡ k + further → further < count_trees ts
      → Contains (failures hooks table (child_as table s tracker i) (path ++ step_as tracker i ∷ []) (tree_nth further ts)) f
      → Contains (failures_among hooks table s tracker k path ts) f
  nth_fails s tracker further k path no_trees i f is within has = absurd (omega arith)
  nth_fails s tracker zero k path (branch t ts) i f is within has =
      let here : i ≡ k = omega arith in
      Contains-append_left _ _ f
      (subst (λ (m : ℕ). Contains (failures hooks table (child_as table s tracker m) (path ++ step_as tracker m ∷ []) t) f) here has)
  nth_fails s tracker (suc further) k path (branch t ts) i f is within has =
      Contains-append_right _ _ f (nth_fails s tracker further (suc k) path ts i f (omega arith) (omega arith) has)

  -- and so it is where one of them is on the way, and what fails of it is known
  nth_fails_but : (s : ℕ) (tracker : Tracker) (on_way : ℕ) (below : ℕ → List PathStep → Tree → List Failure) (further k : ℕ)
      (path : List PathStep) (ts : Trees) (i : ℕ) (f : Failure) → i ≡ k + further → further < count_trees ts
      → Contains (failures hooks table (child_as table s tracker i) (path ++ step_as tracker i ∷ []) (tree_nth further ts)) f
      → (on_way ≡ further → Contains (below (child_as table s tracker i) (path ++ step_as tracker i ∷ []) (tree_nth further ts)) f)
      → Contains (failures_but hooks table s tracker on_way below k path ts) f
  nth_fails_but s tracker on_way below further k path no_trees i f is within has on = absurd (omega arith)
  nth_fails_but s tracker zero below zero k path (branch t ts) i f is within has on =
      let here : i ≡ k = omega arith in
      Contains-append_left _ _ f
      (subst (λ (m : ℕ). Contains (below (child_as table s tracker m) (path ++ step_as tracker m ∷ []) t) f) here (on refl))
  nth_fails_but s tracker zero below (suc further) k path (branch t ts) i f is within has on =
      Contains-append_right _ _ f (nth_fails s tracker further (suc k) path ts i f (omega arith) (omega arith) has)
  nth_fails_but s tracker (suc on_way) below zero k path (branch t ts) i f is within has on =
      let here : i ≡ k = omega arith in
      Contains-append_left _ _ f
      (subst (λ (m : ℕ). Contains (failures hooks table (child_as table s tracker m) (path ++ step_as tracker m ∷ []) t) f) here has)
  nth_fails_but s tracker (suc on_way) below (suc further) k path (branch t ts) i f is within has on =
      Contains-append_right _ _ f (nth_fails_but s tracker on_way below further (suc k) path ts i f (omega arith) (omega arith) has
      (λ same. on (ap suc same)))

-- the failure of a place that lacks this
abbrev failing : (path : List PathStep) (here : Place) (tree : Tree) (kind : ReflectErrorKind) → Failure
failing path here tree kind = record { path = path ++ steps_in (turn_of here tree) tree; kind = kind }

-- a child's failure is that of its place in the parent
in_parent : (path : List PathStep) (tracker : Tracker) (i : ℕ) (here : Place) (ts : Trees) (kind : ReflectErrorKind)
    (fs : List Failure) → Contains fs (failing (path ++ step_as tracker i ∷ []) here (tree_nth i ts) kind)
    → Contains fs (failing path (i ∷ here) (begun tracker ts) kind)
in_parent path tracker i here ts kind fs has =
    subst (λ (to : List PathStep). Contains fs (record { path = to; kind = kind })) (path_below path tracker i here ts) has

-- a place lacks something by itself, its children being whole or holes
record Lacks (hooks : Meanings) (table : Table) (s : ℕ) (here : Place) (tree : Tree) (kind : ReflectErrorKind) : Type 0 where
  pub place : HasPlace here tree
  pub half : IsHalfDone (tree_at here tree)
  pub done : ChildrenAreOff (tree_at here tree)
  pub lacks : own_lack hooks table (shape_in table s here tree) (tree_at here tree) ≡ Some kind

lacks_beneath : (hooks : Meanings) (table : Table) (s i : ℕ) (here : Place) (tracker : Tracker) (ts : Trees) (kind : ReflectErrorKind)
    → Lacks hooks table s (i ∷ here) (begun tracker ts) kind → Lacks hooks table (child_as table s tracker i) here (tree_nth i ts) kind
lacks_beneath hooks table s i here tracker ts kind those =
    record { place = those.place.1; half = those.half; done = those.done; lacks = those.lacks }

module _ (hooks : Meanings) (table : Table) (kind : ReflectErrorKind) where
  fails_beneath : (s : ℕ) (path : List PathStep) (here : Place) (tree : Tree) → Lacks hooks table s here tree kind
      → Contains (failures hooks table s path tree) (failing path here tree kind)
  fails_beneath s path [] tree those =
      fails_itself hooks table s path tree kind those.half those.done those.lacks
  fails_beneath s path (i ∷ here) (begun tracker ts) those =
      keeps_beneath (failures_among hooks table s tracker 0 path ts) (failure_at (failing_path tracker path) (lack_of_begun hooks table s tracker ts))
      (failing path (i ∷ here) (begun tracker ts) kind)
      (nth_fails hooks table s tracker i 0 path ts i (failing path (i ∷ here) (begun tracker ts) kind) (omega arith) those.place.0
      (in_parent path tracker i here ts kind
      (failures hooks table (child_as table s tracker i) (path ++ step_as tracker i ∷ []) (tree_nth i ts))
      (fails_beneath (child_as table s tracker i) (path ++ step_as tracker i ∷ []) here (tree_nth i ts)
      (lacks_beneath hooks table s i here tracker ts kind those))))
  fails_beneath s path (i ∷ here) _ those = absurd those.place

  child_fails : (s : ℕ) (path : List PathStep) (i : ℕ) (here : Place) (tracker : Tracker) (ts : Trees)
      → Lacks hooks table s (i ∷ here) (begun tracker ts) kind
      → Contains (failures hooks table (child_as table s tracker i) (path ++ step_as tracker i ∷ []) (tree_nth i ts))
      (failing path (i ∷ here) (begun tracker ts) kind)
  child_fails s path i here tracker ts those =
      in_parent path tracker i here ts kind _
      (fails_beneath (child_as table s tracker i) (path ++ step_as tracker i ∷ []) here (tree_nth i ts)
      (lacks_beneath hooks table s i here tracker ts kind those))

  lacks_off : (s : ℕ) (path : List PathStep) (cursor here : Place) (tree : Tree) → HasATurn cursor here tree
      → Lacks hooks table s here tree kind → Contains (failures_off hooks table s path cursor tree) (failing path here tree kind)
  lacks_off s path cursor [] tree (inl off) those = absurd (off cursor refl)
  lacks_off s path cursor [] tree (inr (at, conversion)) those =
      subst (λ (place : Place). Contains (failures_off hooks table s path place tree) (failing path [] tree kind)) (sym at)
      (within tree conversion (fails_beneath s path [] tree those))
    where
      within : (t : Tree) → is_begun_conversion t ≡ true → {f : Failure} → Contains (failures hooks table s path t) f
          → Contains (failures_off hooks table s path [] t) f
      within (begun tracker ts) conversion {f} has = subst (λ (b : Bool). Contains
          (if b then failures hooks table s path (begun tracker ts) else failures_among hooks table s tracker 0 path ts) f)
          (sym conversion) has
      within _ conversion {f} has = cc
  lacks_off s path [] (i ∷ here) (begun tracker ts) off those =
      in_either hooks table s path tracker ts _ (fails_beneath s path (i ∷ here) (begun tracker ts) those)
      (nth_fails hooks table s tracker i 0 path ts i _ (omega arith) those.place.0 (child_fails s path i here tracker ts those))
  lacks_off s path (c ∷ cursor) (i ∷ here) (begun tracker ts) off those =
      nth_fails_but hooks table s tracker c
      (λ (shape : ℕ) (to : List PathStep) (t : Tree). failures_off hooks table shape to cursor t) i 0 path ts i
      _ (omega arith) those.place.0 (child_fails s path i here tracker ts those) (λ same. in_parent path tracker i here ts kind _
      (lacks_off (child_as table s tracker i) _ cursor here _ (turn_beneath c i cursor here tracker ts same off)
      (lacks_beneath hooks table s i here tracker ts kind those)))
  lacks_off s path cursor (i ∷ here) _ off those = absurd those.place

pub lacking_fails : LackingFails
lacking_fails hooks table s path mode cursor here tree kind leads place off half done lacks =
    lacks_off hooks table kind s path cursor here tree off (record { place = place; half = half; done = done; lacks = lacks })

-- The end, where only the place at the cursor is left

module _ (hooks : Meanings) (table : Table) where
  done_closes : (s : ℕ) (t : Tree) → IsOff strict t → closed hooks table s t ≡ Some t
  done_closes s entered off = absurd off
  done_closes s (begun tracker ts) off = absurd off
  done_closes s _ off = refl

  all_done_close : (s : ℕ) (tracker : Tracker) (k : ℕ) (ts : Trees) → AllOff strict ts → closed_all hooks table s tracker k ts ≡ Some ts
  all_done_close s tracker k no_trees off = refl
  all_done_close s tracker k (branch t ts) off =
      ap₂ one_more_tree (done_closes (child_as table s tracker k) t off.0) (all_done_close s tracker (suc k) ts off.1)

  one_before : (t : Tree) (on_way : ℕ) (ts : Trees) (o : Option Tree)
      → one_more_tree (Some t) (option_map (λ (u : Tree). change_nth on_way (λ old. u) ts) o)
      ≡ option_map (λ (u : Tree). change_nth (suc on_way) (λ old. u) (branch t ts)) o
  one_before t on_way ts (Some u) = refl
  one_before t on_way ts None = refl

  those_after : (t : Tree) (ts : Trees) (o : Option Tree)
      → one_more_tree o (Some ts) ≡ option_map (λ (u : Tree). change_nth 0 (λ old. u) (branch t ts)) o
  those_after t ts (Some u) = refl
  those_after t ts None = refl

  but_done_close : (s : ℕ) (tracker : Tracker) (on_way : ℕ) (becomes : ℕ → Tree → Option Tree) (Below : Tree → Type 0) (k : ℕ)
      (ts : Trees) (i : ℕ) → i ≡ k + on_way → OffBut strict on_way Below ts → closed_but hooks table s tracker on_way becomes k ts
      ≡ option_map (λ (u : Tree). change_nth on_way (λ old. u) ts) (becomes (child_as table s tracker i) (tree_nth on_way ts))
  but_done_close s tracker on_way becomes Below k no_trees i is off = absurd off
  but_done_close s tracker zero becomes Below k (branch t ts) i is off =
      let here : k ≡ i = omega arith in
      ap (one_more_tree _) (all_done_close s tracker (suc k) ts off.1) ∙ those_after t ts _
      ∙ ap (λ (m : ℕ). option_map (λ (u : Tree). change_nth 0 (λ old. u) (branch t ts)) (becomes (child_as table s tracker m) t)) here
  but_done_close s tracker (suc on_way) becomes Below k (branch t ts) i is off =
      ap₂ one_more_tree (done_closes (child_as table s tracker k) t off.0)
      (but_done_close s tracker on_way becomes Below (suc k) ts i (omega arith) off.1) ∙ one_before t on_way ts _

change_to : (i : ℕ) (change : Tree → Tree) (ts : Trees) → change_nth i (λ old. change (tree_nth i ts)) ts ≡ change_nth i change ts
change_to i change no_trees = refl
change_to zero change (branch t ts) = refl
change_to (suc i) change (branch t ts) = ap (branch t) (change_to i change ts)

-- what is put at a place of a child is put at that place of the parent
put_beneath : (tracker : Tracker) (ts : Trees) (i : ℕ) (place : Place) (o : Option Tree)
    → option_map (begun tracker) (option_map (λ (u : Tree). change_nth i (λ old. u) ts)
    (option_map (λ (here : Tree). change_at place (λ old. here) (tree_nth i ts)) o))
    ≡ option_map (λ (here : Tree). change_at (i ∷ place) (λ old. here) (begun tracker ts)) o
put_beneath tracker ts i place (Some here) =
    ap (λ (children : Trees). Some (begun tracker children)) (change_to i (λ child. change_at place (λ old. here) child) ts)
put_beneath tracker ts i place None = refl

put_itself : (o : Option Tree) → o ≡ option_map (λ (here : Tree). here) o
put_itself (Some here) = refl
put_itself None = refl

pub finish_of_done : FinishOfDone
finish_of_done hooks table s [] tree leads = put_itself _
finish_of_done hooks table s (i ∷ place) (begun tracker ts) leads =
    ap (λ (children : Option Trees). option_map (begun tracker) children)
    (but_done_close hooks table s tracker i (λ (shape : ℕ) (t : Tree). finished hooks table shape place t)
    (λ child. Leads strict place child) 0 ts i (omega arith) leads
    ∙ ap (λ (o : Option Tree). option_map (λ (u : Tree). change_nth i (λ old. u) ts) o) (finish_of_done hooks table _ place _
    (leads_child strict i (λ child. Leads strict place child) ts leads))) ∙ put_beneath tracker ts i place _
finish_of_done hooks table s (i ∷ place) _ leads = absurd leads

-- one failure, of one, and of those of a place

-- the path and the kind of the one failure of a place
record IsItself (path : List PathStep) (lacking : Option ReflectErrorKind) (f : Failure) : Type 0 where
  pub at : f.path ≡ path
  pub lacks : lacking ≡ Some f.kind

of_itself : (path : List PathStep) (lacking : Option ReflectErrorKind) (f : Failure) → Contains (failure_at path lacking) f
    → IsItself path lacking f
of_itself path (Some kind) f (zero, within, is) =
    record { at = ap (λ (one : Failure). one.path) (sym is); lacks = ap (λ (one : Failure). Some one.kind) is }
of_itself path (Some kind) f (suc k, within, is) = absurd (omega arith)
of_itself path None f has = absurd (of_none f has)

beneath_or_itself : (beneath itself : List Failure) (f : Failure) → Contains (or_itself beneath itself) f
    → Contains beneath f ⊎ ((beneath ≡ []) × Contains itself f)
beneath_or_itself [] itself f has = inr (refl, has)
beneath_or_itself (first ∷ beneath) itself f has = inl has

first_none : (some others : List Failure) → some ++ others ≡ [] → some ≡ []
first_none [] others e = refl
first_none (f ∷ some) others e = cc

others_none : (some others : List Failure) → some ++ others ≡ [] → others ≡ []
others_none [] others e = e
others_none (f ∷ some) others e = cc

-- a place has a turn that lies so in the child of this number, which is this tree
abbrev TurnIn : (cursor : Place) → (i : ℕ) → (here : Place) → Tree → Type 0
TurnIn cursor i here child = IsOffTheWay cursor (i ∷ here) ⊎ ((cursor ≡ i ∷ here) × (is_begun_conversion (tree_at here child) ≡ true))

-- beneath another child than the one on the way
beside : (c i : ℕ) (cursor here : Place) → c ≢ i → IsOffTheWay (c ∷ cursor) (i ∷ here)
beside c i cursor here other way e = other cc

-- a turn in the child on the way
within_child : (c i : ℕ) (cursor here : Place) (t : Tree) → c ≡ i → HasATurn cursor here t → TurnIn (c ∷ cursor) i here t
within_child c i cursor here t same (inl off) = inl (λ way e. off way cc)
within_child c i cursor here t same (inr (at, conversion)) = inr (ap₂ (λ (k : ℕ) (rest : Place). k ∷ rest) same at, conversion)

module _ (hooks : Meanings) (table : Table) where
  -- where nothing fails, everything closes
  none_fails : (s : ℕ) (path : List PathStep) (t : Tree) → failures hooks table s path t ≡ [] → is_none (closed hooks table s t) ≡ false
  none_fails s path t none = completes_or_fails hooks table s path t ∙ ap (λ (some : List Failure). not (is_nil some)) none

  all_close : (s : ℕ) (tracker : Tracker) (k : ℕ) (path : List PathStep) (ts : Trees) → failures_among hooks table s tracker k path ts ≡ []
      → (further i : ℕ) → i ≡ k + further → is_none (closed hooks table (child_as table s tracker i) (tree_nth further ts)) ≡ false
  all_close s tracker k path no_trees none further i number = refl
  all_close s tracker k path (branch t ts) none zero i number =
      let same : k ≡ i = omega arith in
      subst (λ (m : ℕ). is_none (closed hooks table (child_as table s tracker m) t) ≡ false) same
      (none_fails _ _ t (first_none _ (failures_among hooks table s tracker (suc k) path ts) none))
  all_close s tracker k path (branch t ts) none (suc further) i number =
      all_close s tracker (suc k) path ts (others_none _ (failures_among hooks table s tracker (suc k) path ts) none) further i (omega arith)

module _ (hooks : Meanings) (table : Table) (f : Failure) where
  -- among the children from number k on, child i, as many further on, has the place that fails
  record FailsAmong (s : ℕ) (tracker : Tracker) (k : ℕ) (path : List PathStep) (ts : Trees) : Type 0 where
    pub i : ℕ
    pub further : ℕ
    pub number : i ≡ k + further
    pub within : further < count_trees ts
    pub fails : FailsAt hooks table (child_as table s tracker i) (path ++ step_as tracker i ∷ []) (tree_nth further ts) f

  -- what fails in a child fails in the place, and off the way where that place of the child is
  at_child : (s : ℕ) (tracker : Tracker) (path : List PathStep) (ts : Trees) (i : ℕ) → i < count_trees ts
      → FailsAt hooks table (child_as table s tracker i) (path ++ step_as tracker i ∷ []) (tree_nth i ts) f
      → FailsAt hooks table s path (begun tracker ts) f
  at_child s tracker path ts i within fails = record {
    here = i ∷ fails.here;
    place = (within, fails.place);
    half = fails.half;
    at = fails.at ∙ path_below path tracker i fails.here ts;
    lacks = fails.lacks;
    children = fails.children;
    beneath = subst (λ (to : List PathStep). failures_beneath hooks table
        (shape_in table (child_as table s tracker i) fails.here (tree_nth i ts)) to (tree_at fails.here (tree_nth i ts)) ≡ [])
        (append_assoc path (step_as tracker i ∷ []) (steps_in fails.here (tree_nth i ts))) fails.beneath;
  }

  off_child : (s : ℕ) (tracker : Tracker) (path : List PathStep) (ts : Trees) (cursor : Place) (i : ℕ) → i < count_trees ts
      → (fails : FailsAt hooks table (child_as table s tracker i) (path ++ step_as tracker i ∷ []) (tree_nth i ts) f)
      → TurnIn cursor i fails.here (tree_nth i ts) → FailsOff hooks table s path cursor (begun tracker ts) f
  unfolding at_child
  off_child s tracker path ts cursor i within fails off = record { fails = at_child s tracker path ts i within fails; off = off }

  -- the same of child i among all children
  of_child : (s : ℕ) (tracker : Tracker) (path : List PathStep) (ts : Trees) → FailsAmong s tracker 0 path ts
      → FailsAt hooks table s path (begun tracker ts) f
  of_child s tracker path ts child =
      subst (λ (m : ℕ). m < count_trees ts
      → FailsAt hooks table (child_as table s tracker child.i) (path ++ step_as tracker child.i ∷ []) (tree_nth m ts) f
      → FailsAt hooks table s path _ f) same (at_child s tracker path ts child.i) child.within child.fails
    where
      same : child.i ≡ child.further
      same = omega (arith, child.number)

  record OffAmong (s : ℕ) (tracker : Tracker) (k : ℕ) (path : List PathStep) (ts : Trees) (cursor : Place) : Type 0 where
    pub child : FailsAmong s tracker k path ts
    pub off : TurnIn cursor child.i child.fails.here (tree_nth child.further ts)

  off_of_child : (s : ℕ) (tracker : Tracker) (path : List PathStep) (ts : Trees) (cursor : Place)
      → OffAmong s tracker 0 path ts cursor → FailsOff hooks table s path cursor (begun tracker ts) f
  off_of_child s tracker path ts cursor among =
      subst (λ (m : ℕ). m < count_trees ts
      → (fails : FailsAt hooks table (child_as table s tracker among.child.i) (path ++ step_as tracker among.child.i ∷ [])
      (tree_nth m ts) f) → TurnIn cursor among.child.i fails.here (tree_nth m ts) → FailsOff hooks table s path cursor _ f) same
      (off_child s tracker path ts cursor among.child.i) among.child.within among.child.fails among.off
    where
      same : among.child.i ≡ among.child.further
      same = omega (arith, among.child.number)

  -- an entered place has no children, and a begun one fails by itself where nothing among them fails
  entered_fails : (s : ℕ) (path : List PathStep) → IsItself path (own_lack hooks table s entered) f → FailsAt hooks table s path entered f
  entered_fails s path itself = record {
    here = [];
    place = tt;
    half = tt;
    at = itself.at ∙ sym (append-nil path);
    lacks = itself.lacks;
    children = λ i. refl;
    beneath = refl;
  }

  begun_fails : (s : ℕ) (path : List PathStep) (tracker : Tracker) (ts : Trees)
      → failures_among hooks table s tracker 0 path ts ≡ []
      → IsItself (failing_path tracker path) (lack_of_begun hooks table s tracker ts) f
      → FailsAt hooks table s path (begun tracker ts) f
  begun_fails s path tracker ts none itself = record {
    here = [];
    place = tt;
    half = tt;
    at = itself.at ∙ turn_path path tracker ts;
    lacks = itself.lacks;
    children = λ i. all_close hooks table s tracker 0 path ts none i i (omega arith);
    beneath = subst (λ (to : List PathStep). failures_among hooks table s tracker 0 to ts ≡ []) (sym (append-nil path)) none;
  }

  first_among : (s : ℕ) (tracker : Tracker) (k : ℕ) (path : List PathStep) (t : Tree) (ts : Trees)
      → FailsAt hooks table (child_as table s tracker k) (path ++ step_as tracker k ∷ []) t f → FailsAmong s tracker k path (branch t ts)
  first_among s tracker k path t ts fails = record { i = k; further = 0; number = omega arith; within = omega arith; fails = fails }

  later_among : (s : ℕ) (tracker : Tracker) (k : ℕ) (path : List PathStep) (t : Tree) (ts : Trees) → FailsAmong s tracker (suc k) path ts
      → FailsAmong s tracker k path (branch t ts)
  later_among s tracker k path t ts rest = record {
    i = rest.i;
    further = suc rest.further;
    number = omega (arith, rest.number);
    within = omega (arith, rest.within);
    fails = rest.fails;
  }

  mutual
    fails_at : (s : ℕ) (path : List PathStep) (t : Tree) → Contains (failures hooks table s path t) f → FailsAt hooks table s path t f
    fails_at s path entered has = entered_fails s path (of_itself path (own_lack hooks table s entered) f has)
    fails_at s path (begun tracker ts) has =
        ⊎_elim (λ beneath. of_child s tracker path ts (fails_among s tracker 0 path ts beneath))
        (λ itself. begun_fails s path tracker ts itself.0 (of_itself (failing_path tracker path) (lack_of_begun hooks table s tracker ts) f itself.1))
        (beneath_or_itself _ _ f has)
    fails_at s path _ has = absurd (of_none f has)

    fails_among : (s : ℕ) (tracker : Tracker) (k : ℕ) (path : List PathStep) (ts : Trees)
        → Contains (failures_among hooks table s tracker k path ts) f → FailsAmong s tracker k path ts
    fails_among s tracker k path no_trees has = absurd (of_none f has)
    fails_among s tracker k path (branch t ts) has =
        ⊎_elim (λ first. first_among s tracker k path t ts
        (fails_at (child_as table s tracker k) (path ++ step_as tracker k ∷ []) t first))
        (λ later. later_among s tracker k path t ts (fails_among s tracker (suc k) path ts later))
        (Contains-append_cases _ (failures_among hooks table s tracker (suc k) path ts) f has)

  -- of children of which number c, as many further on, is on the way
  fails_but : (s : ℕ) (tracker : Tracker) (on_way : ℕ) (below : ℕ → List PathStep → Tree → List Failure) (k : ℕ)
      (path : List PathStep) (ts : Trees) (c : ℕ) (cursor : Place) → c ≡ k + on_way
      → ((shape : ℕ) (to : List PathStep) (t : Tree) → Contains (below shape to t) f → FailsOff hooks table shape to cursor t f)
      → Contains (failures_but hooks table s tracker on_way below k path ts) f → OffAmong s tracker k path ts (c ∷ cursor)
  unfolding first_among later_among
  fails_but s tracker on_way below k path no_trees c cursor is step has = absurd (of_none f has)
  fails_but s tracker zero below k path (branch t ts) c cursor is step has =
      ⊎_elim
      (λ first. let there = step (child_as table s tracker k) (path ++ step_as tracker k ∷ []) t first in record {
        child = first_among s tracker k path t ts there.fails;
        off = within_child c k cursor there.fails.here t (omega arith) there.off;
      })
      (λ later. let rest = fails_among s tracker (suc k) path ts later in record {
        child = later_among s tracker k path t ts rest;
        off = inl (beside c rest.i cursor rest.fails.here (omega (arith, rest.number)));
      }) (Contains-append_cases _ (failures_among hooks table s tracker (suc k) path ts) f has)
  fails_but s tracker (suc on_way) below k path (branch t ts) c cursor is step has =
      ⊎_elim
      (λ first. let there = fails_at (child_as table s tracker k) (path ++ step_as tracker k ∷ []) t first in record {
        child = first_among s tracker k path t ts there;
        off = inl (beside c k cursor there.here (omega arith));
      })
      (λ later. let rest = fails_but s tracker on_way below (suc k) path ts c cursor (omega arith) step later in record {
        child = later_among s tracker k path t ts rest.child;
        off = rest.off;
      }) (Contains-append_cases _ (failures_but hooks table s tracker on_way below (suc k) path ts) f has)

  fails_off : (s : ℕ) (path : List PathStep) (cursor : Place) (t : Tree)
      → Contains (failures_off hooks table s path cursor t) f → FailsOff hooks table s path cursor t f
  fails_off s path cursor hole has = absurd (of_none f has)
  fails_off s path [] (begun tracker ts) has = go (is_conversion tracker) refl has
    where
      go : (b : Bool) → is_conversion tracker ≡ b → Contains
          (if b then failures hooks table s path (begun tracker ts) else failures_among hooks table s tracker 0 path ts) f
          → FailsOff hooks table s path [] (begun tracker ts) f
      go true conversion has =
          let fails = fails_at s path (begun tracker ts) has in
          record { fails = fails; off = turn_within fails.here (begun tracker ts) conversion }
      go false apart has =
          let child = fails_among s tracker 0 path ts has in
          off_of_child s tracker path ts [] (record { child = child; off = inl (λ way e. cc) })
  fails_off s path (c ∷ cursor) (begun tracker ts) has =
      off_of_child s tracker path ts (c ∷ cursor)
      (fails_but s tracker c (λ (shape : ℕ) (to : List PathStep) (t : Tree). failures_off hooks table shape to cursor t) 0 path ts c
      cursor (omega arith) (λ shape to t some. fails_off shape to cursor t some) has)
  fails_off s path cursor _ has = absurd (of_none f has)

pub each_failure_has_its_place : EachFailureHasItsPlace
each_failure_has_its_place hooks table s path cursor tree f has = fails_off hooks table f s path cursor tree has

pub each_failure_of_a_tree_has_its_place : EachFailureOfATreeHasItsPlace
each_failure_of_a_tree_has_its_place hooks table s path tree f has = fails_at hooks table f s path tree has

pub failures_lie_there : FailuresLieThere
failures_lie_there hooks table s path cursor tree f has =
    let there = fails_off hooks table f s path cursor tree has in
    record { here = there.fails.here; place = there.fails.place; off = there.off; half = there.fails.half; at = there.fails.at }
