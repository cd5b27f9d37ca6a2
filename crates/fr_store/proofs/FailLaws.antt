-- Laws of places that fail at the end of deferred mode, for proofs: what fails beneath a place, and what it lacks by itself.
use Rattle.std.proofs.Common.{◌≡◌, ◌≢◌, ℕ, zero, suc, ◌+◌, ◌<◌, Bool, true, false, List, [], ◌∷◌, ◌++◌, append-nil, append_assoc, Option, Some, None, refl, sym, ◌∙◌, ap, arith}
use Rattle.fr_store.specs.Common.{Failure, HasPlace, Meanings, PathStep, Place, ReflectErrorKind, Table, Tracker, Tree, Trees, Val, begun, branch, cause_by, child_as, closed, complete, count_trees, deferred_column, entered, failure_at, failures, failures_among, failures_but, failures_off, first_by_walk, hole, is_conversion, kind_of, lack_of_begun, no_trees, option_map, or_itself, or_missing, own_lack, shape_in, step_as, steps_in, tree_at, tree_nth, whole}
use Rattle.std.specs.Prelude.{is_none, not, if◌then◌else◌}
use Rattle.fr_model.specs.Failing.{failing_path}
use Rattle.fr_shape.specs.Lists.{is_nil}
use Rattle.fr_model.specs.Laws.{CompletesOrFails}

-- Where nothing fails beneath.

none_left : {X : Type 0} (xs ys : List X) → xs ++ ys ≡ [] → (xs ≡ []) × (ys ≡ [])
none_left [] ys e = (refl, e)
none_left (x ∷ xs) ys e = absurd (cc)

but_none : (hooks : Meanings) (table : Table) (s : ℕ) (tracker : Tracker) (on_way : ℕ)
    (below : ℕ → List PathStep → Tree → List Failure) (i m : ℕ) (path : List PathStep) (ts : Trees) → m ≡ i + on_way
    → on_way < count_trees ts → failures_but hooks table s tracker on_way below i path ts ≡ []
    → below (child_as table s tracker m) (path ++ step_as tracker m ∷ []) (tree_nth on_way ts) ≡ []
but_none hooks table s tracker on_way below i m path no_trees e h none = absurd (omega arith)
but_none hooks table s tracker zero below i m path (branch t ts) e h none =
    let same : m ≡ i = omega arith in
    ap (λ (n : ℕ). below (child_as table s tracker n) (path ++ step_as tracker n ∷ []) t) same
    ∙ (none_left (below (child_as table s tracker i) (path ++ step_as tracker i ∷ []) t)
    (failures_among hooks table s tracker (suc i) path ts) none).0
but_none hooks table s tracker (suc on_way) below i m path (branch t ts) e h none =
    but_none hooks table s tracker on_way below (suc i) m path ts (omega arith) (omega arith)
    (none_left (failures hooks table (child_as table s tracker i) (path ++ step_as tracker i ∷ []) t)
    (failures_but hooks table s tracker on_way below (suc i) path ts) none).1

-- nothing off the way fails, so nothing beneath the place at its end does
pub none_here : (hooks : Meanings) (table : Table) (s : ℕ) (path : List PathStep) {to : List PathStep} (cursor : Place)
    (tree : Tree) → HasPlace cursor tree → to ≡ path ++ steps_in cursor tree → failures_off hooks table s path cursor tree ≡ []
    → failures_off hooks table (shape_in table s cursor tree) to [] (tree_at cursor tree) ≡ []
none_here hooks table s path [] tree has e none =
    ap (λ (p : List PathStep). failures_off hooks table s p [] tree) (e ∙ append-nil path) ∙ none
none_here hooks table s path {to} (i ∷ cursor) (begun tracker ts) has e none =
    none_here hooks table (child_as table s tracker i) (path ++ step_as tracker i ∷ []) cursor (tree_nth i ts) has.1
    (e ∙ sym (append_assoc path (step_as tracker i ∷ []) (steps_in cursor (tree_nth i ts)))) (but_none hooks table s tracker
    i (λ (shape : ℕ) (way : List PathStep) (t : Tree). failures_off hooks table shape way cursor t) 0 i path ts (omega arith)
    has.0 none)
none_here hooks table s path (i ∷ cursor) _ has e none = absurd has

-- where a place doesn't fail, it lacks nothing
nothing_lacked : (beneath : List Failure) (to path : List PathStep) (lacks : Option ReflectErrorKind)
    → or_itself beneath (failure_at to lacks) ≡ [] → failure_at path lacks ≡ []
nothing_lacked [] to path None e = refl
nothing_lacked [] to path (Some kind) e = cc
nothing_lacked (f ∷ fs) to path lacks e = cc

-- then of that place fails what it lacks by itself
pub fails_itself : (hooks : Meanings) (table : Table) (s : ℕ) (path : List PathStep) (tree : Tree) → tree ≢ hole
    → failures_off hooks table s path [] tree ≡ []
    → failures hooks table s path tree ≡ failure_at path (own_lack hooks table s tree)
fails_itself hooks table s path hole there none = absurd (there refl)
fails_itself hooks table s path (begun tracker ts) there none = go (is_conversion tracker) refl
  where
    here : (b : Bool) → is_conversion tracker ≡ b
        → (if b then failures hooks table s path (begun tracker ts) else failures_among hooks table s tracker 0 path ts) ≡ []
    here b e =
        ap (λ (x : Bool). if x then failures hooks table s path (begun tracker ts) else failures_among hooks table s tracker 0 path ts)
        (sym e) ∙ none

    go : (b : Bool) → is_conversion tracker ≡ b
        → failures hooks table s path (begun tracker ts) ≡ failure_at path (lack_of_begun hooks table s tracker ts)
    go true e =
        here true e ∙ sym (nothing_lacked (failures_among hooks table s tracker 0 path ts) (failing_path tracker path) path
        (lack_of_begun hooks table s tracker ts) (here true e))
    go false e =
        ap (λ (beneath : List Failure). or_itself beneath (failure_at (failing_path tracker path) (lack_of_begun hooks table s tracker ts)))
        (here false e)
        ∙ ap (λ (x : Bool). failure_at (if x then path ++ step_as tracker 0 ∷ [] else path) (lack_of_begun hooks table s tracker ts)) e
fails_itself hooks table s path _ there none = refl

pub same_lack : (path : List PathStep) (first second : Option ReflectErrorKind) → failure_at path first ≡ failure_at path second
    → first ≡ second
same_lack path None None e = refl
same_lack path (Some kind) (Some other) e =
    let same : record { path = path; kind = kind } ≡ record { path = path; kind = other } = cc in
    ap (λ (f : Failure). Some f.kind) same
same_lack path _ _ e = absurd (cc)

-- where something beneath a place fails, just that fails in the whole
pub fails_beneath : (hooks : Meanings) (table : Table) (s : ℕ) (path : List PathStep) (tree : Tree) {failure : Failure}
    → first_by_walk (failures_off hooks table s path [] tree) ≡ Some failure
    → failures hooks table s path tree ≡ failures_off hooks table s path [] tree
fails_beneath hooks table s path (begun tracker ts) {failure} first = go (is_conversion tracker) first
  where
    itself : (beneath : List Failure) → first_by_walk beneath ≡ Some failure
        → or_itself beneath (failure_at (failing_path tracker path) (lack_of_begun hooks table s tracker ts)) ≡ beneath
    itself [] first = absurd (cc)
    itself (f ∷ fs) first = refl

    go : (b : Bool) → first_by_walk (if b then failures hooks table s path (begun tracker ts)
        else failures_among hooks table s tracker 0 path ts) ≡ Some failure → failures hooks table s path (begun tracker ts)
        ≡ (if b then failures hooks table s path (begun tracker ts) else failures_among hooks table s tracker 0 path ts)
    go true first = refl
    go false first = itself (failures_among hooks table s tracker 0 path ts) first
fails_beneath hooks table s path entered first = absurd (cc)
fails_beneath hooks table s path _ first = refl

-- What a place in which something fails comes to.

not_whole : (x : Option Val) → is_none (option_map whole x) ≡ true → x ≡ None
not_whole (Some v) e = absurd (cc)
not_whole None e = refl

some_fails : (fs : List Failure) {failure : Failure} → first_by_walk fs ≡ Some failure → not (is_nil fs) ≡ true
some_fails [] e = absurd (cc)
some_fails (f ∷ fs) e = refl

-- where something fails in it, it makes no value
pub none_made : CompletesOrFails → (hooks : Meanings) (table : Table) (s : ℕ)
    (path : List PathStep) (tree : Tree) {failure : Failure} → first_by_walk (failures hooks table s path tree) ≡ Some failure
    → complete deferred_column hooks table s tree ≡ None
none_made fails hooks table s path tree {failure} first =
    go tree (fails hooks table s path tree ∙ some_fails (failures hooks table s path tree) first)
  where
    go : (t : Tree) → is_none (closed hooks table s t) ≡ true → complete deferred_column hooks table s t ≡ None
    go hole e = absurd (cc)
    go t e = not_whole (complete deferred_column hooks table s t) e

-- and what fails first is why
pub cause_is : (hooks : Meanings) (table : Table) (s : ℕ) (path : List PathStep) (tree : Tree) {failure : Failure} → first_by_walk
    (failures hooks table s path tree) ≡ Some failure → failure.kind ≡ cause_by deferred_column hooks table s path tree
cause_is hooks table s path tree first = sym (ap (λ (found : Option Failure). or_missing s (kind_of found)) first)
