-- The end of deferred mode on the tree: what it makes suits its shape, keeps its tokens and is a tree of strict mode, the path
-- stays, and it makes none exactly where there is something to refuse.
use Rattle.std.proofs.Common.{◌≡◌, ◌+◌, ◌||◌, if◌then◌else◌, ◌∷◌, ◌++◌}
use Rattle.fr_model.proofs.Common.{Field, ConversionsSuit, AllConversionsSuit, ℕ, zero, suc, Bool, true, false, not, is_none, is_some, List, [], Option, Some, None, refl, sym, ◌∙◌, ap, ap₂, subst, arith, option_map, option_or, IsChecked, count_vals, Meanings, is_nil, Table, def_of, Vals, no_vals, first, PathStep, Place, deferred_column, step_as, steps_in, Tracker, as_items, ItemsKind, Tree, hole, entered, whole, begun, Trees, no_trees, branch, tree_nth, tree_at, child_as, shape_in, wholes, count_trees, tree_occurs, trees_occur, Mode, strict, complete, complete_all, value_as, dropped_by_completing, dropped_among, dropped_but, dropped_by_finishing, own_lack, Failure, failures, failures_among, first_by_walk, closed, one_more_tree, closed_all, closed_but, is_closed_slice, is_made_whole, is_conversion, as_content, ContentKind, failing_path, lack_of_begun, begun_with, finished_here, finished, failures_but, failures_off, kind_of, left_out, IsFullAs, IsBegunAs, IsTouched, IsContent, AreTouched, AreEntries, IsBegunRightly, Suits, IsOff, AllOff, AtCursor, OffBut, Leads}
use Rattle.fr_model.proofs.Converts.{wholes_convert}
use Rattle.fr_model.proofs.Basis.{LawfulIn, AllLawfulIn, some_or, dropped_below, taken_as, completing_makes, Children, all_completing_make, right_kept, ChildrenFit, SuitFrom, sound_as, value_fits, value_holds, wholes_hold, wholes_off, wholes_touched}
use Rattle.fr_model.proofs.Failing.{none_mapped, joined_there, itself_there, completes_or_fails, all_complete_or_fail, entered_lacks}
use Rattle.fr_model.proofs.Templates.{some_is}

-- what is made is made of something

pub record Mapped {T U : Type 0} (f : T → U) (o : Option T) (y : U) : Type 0 where
  pub from : T
  pub is : o ≡ Some from
  pub same : y ≡ f from

pub mapped_is : {T U : Type 0} (f : T → U) (o : Option T) (y : U) → option_map f o ≡ Some y → Mapped f o y
mapped_is f (Some x) y e = record { from = x; is = refl; same = cc }
mapped_is f None y e = cc

pub record OneMoreTree (o : Option Tree) (os : Option Trees) (us : Trees) : Type 0 where
  pub head : Tree
  pub tail : Trees
  pub head_is : o ≡ Some head
  pub tail_is : os ≡ Some tail
  pub same : us ≡ branch head tail

pub one_more_tree_is : (o : Option Tree) (os : Option Trees) (us : Trees) → one_more_tree o os ≡ Some us → OneMoreTree o os us
one_more_tree_is (Some u) (Some rest) us e = record { head = u; tail = rest; head_is = refl; tail_is = refl; same = cc }
one_more_tree_is (Some u) None us e = cc
one_more_tree_is None os us e = cc

-- Shapes and tokens

-- what becomes of a place suits its shape and holds each token as often, but for what is dropped
pub record Kept (table : Table) (s : ℕ) (dropped : ℕ → ℕ) (tree next : Tree) : Type 0 where
  pub suits : Suits table s next
  pub touched : IsTouched tree → IsTouched next
  pub converts : (field : Option Field) → ConversionsSuit table s field tree → ConversionsSuit table s field next
  pub hold : (t : ℕ) → tree_occurs next t + dropped t ≡ tree_occurs tree t

-- each of the trees is there where the one of the other trees is
abbrev EachThere : (ts us : Trees) → Type 0
EachThere no_trees no_trees = Unit {0}
EachThere (branch t ts) (branch u us) = (IsTouched t → IsTouched u) × EachThere ts us
EachThere no_trees (branch u us) = ⊥
EachThere (branch t ts) no_trees = ⊥

entries_there : (ts us : Trees) → EachThere ts us → AreEntries ts → AreEntries us
entries_there no_trees no_trees each has = tt
entries_there (branch k no_trees) (branch l us) each has = absurd has
entries_there (branch k (branch v no_trees)) (branch l (branch w no_trees)) each has = each.0 has
entries_there (branch k (branch v (branch n ts))) (branch l (branch w (branch m us))) each has =
    (each.0 has.0, each.1.0 has.1, entries_there (branch n ts) (branch m us) each.1.1 has.2)
entries_there (branch k (branch v no_trees)) (branch l no_trees) each has = absurd each.1
entries_there (branch k (branch v no_trees)) (branch l (branch w (branch m us))) each has = absurd each.1.1
entries_there (branch k (branch v (branch n ts))) (branch l no_trees) each has = absurd each.1
entries_there (branch k (branch v (branch n ts))) (branch l (branch w no_trees)) each has = absurd each.1.1
entries_there no_trees (branch l us) each has = absurd each
entries_there (branch k ts) no_trees each has = absurd each

pub record AllKept (table : Table) (s : ℕ) (tracker : Tracker) (i : ℕ) (dropped : ℕ → ℕ) (ts us : Trees) : Type 0 where
  pub suit : SuitFrom table s tracker i us
  pub content : IsContent ts → IsContent us
  pub touched : AreTouched ts → AreTouched us
  pub there : EachThere ts us
  pub convert : AllConversionsSuit table s tracker i ts → AllConversionsSuit table s tracker i us
  pub counted : count_trees us ≡ count_trees ts
  pub hold : (t : ℕ) → trees_occur us t + dropped t ≡ trees_occur ts t

none_kept : (table : Table) (s : ℕ) (tracker : Tracker) (i : ℕ) (us : Trees)
    → ◌≡◌ {A = Option Trees} (Some no_trees) (Some us) → AllKept table s tracker i (λ t. 0) no_trees us
none_kept table s tracker i no_trees e =
    record { suit = tt; content = λ has. has; touched = λ has. has; there = tt; convert = λ all. tt; counted = refl; hold = λ t. refl }
none_kept table s tracker i (branch u us) e = cc

-- a child and the ones after it
more_kept : (table : Table) (s : ℕ) (tracker : Tracker) (i : ℕ) (by_child by_rest : ℕ → ℕ) (tree : Tree) (ts : Trees)
    (o : Option Tree) (os : Option Trees) (us : Trees) → ((u : Tree) → o ≡ Some u → Kept table (child_as table s tracker i) by_child tree u)
    → ((rest : Trees) → os ≡ Some rest → AllKept table s tracker (suc i) by_rest ts rest) → one_more_tree o os ≡ Some us
    → AllKept table s tracker i (λ t. by_child t + by_rest t) (branch tree ts) us
more_kept table s tracker i by_child by_rest tree ts o os us child others e =
    rw parts.same (record {
      suit = (here.suits, more.suit);
      content = here.touched;
      touched = λ has. (here.touched has.0, more.touched has.1);
      there = (here.touched, more.there);
      convert = λ all. (here.converts _ all.0, more.convert all.1);
      counted = ap suc more.counted;
      hold = λ t. omega (arith, here.hold t, more.hold t);
    })
  where
    parts : OneMoreTree o os us
    parts = one_more_tree_is o os us e

    here : Kept table (child_as table s tracker i) by_child tree parts.head
    here = child parts.head parts.head_is

    more : AllKept table s tracker (suc i) by_rest ts parts.tail
    more = others parts.tail parts.tail_is

closed_keeps : (hooks : Meanings) (table : Table) (s : ℕ) (tree u : Tree) → LawfulIn hooks tree → IsChecked table → Suits table s tree
    → closed hooks table s tree ≡ Some u → Kept table s (λ t. dropped_by_completing deferred_column hooks table s tree t) tree u
closed_keeps hooks table s hole u lawful checked suits e =
    let same : hole ≡ u = cc in rw (← same) (record { suits = tt; touched = λ there. there; converts = λ field old. tt; hold = λ t. refl })
closed_keeps hooks table s tree u lawful checked suits e =
    let to = mapped_is whole (complete deferred_column hooks table s tree) u e in
    let made = completing_makes deferred_column hooks table tree s to.from lawful checked suits to.is in
    rw to.same (record { suits = made.fit; touched = λ there. tt; converts = λ field old. tt; hold = made.hold })

closed_all_keep : (hooks : Meanings) (table : Table) (s : ℕ) (tracker : Tracker) (i : ℕ) (ts us : Trees) → AllLawfulIn hooks ts → IsChecked table
    → SuitFrom table s tracker i ts → closed_all hooks table s tracker i ts ≡ Some us
    → AllKept table s tracker i (λ t. dropped_among deferred_column hooks table s tracker i ts t) ts us
closed_all_keep hooks table s tracker i no_trees us lawful checked suit e = none_kept table s tracker i us e
closed_all_keep hooks table s tracker i (branch t ts) us lawful checked suit e =
    more_kept table s tracker i (λ k. dropped_by_completing deferred_column hooks table (child_as table s tracker i) t k)
    (λ k. dropped_among deferred_column hooks table s tracker (suc i) ts k) t ts
    (closed hooks table (child_as table s tracker i) t) (closed_all hooks table s tracker (suc i) ts) us
    (λ u. closed_keeps hooks table (child_as table s tracker i) t u lawful.0 checked suit.0)
    (λ rest. closed_all_keep hooks table s tracker (suc i) ts rest lawful.1 checked suit.1) e

closed_but_keep : (hooks : Meanings) (table : Table) (s : ℕ) (tracker : Tracker) (on_way : ℕ)
    (becomes : ℕ → Tree → Option Tree) (drops : ℕ → Tree → ℕ → ℕ) (i : ℕ) (ts us : Trees) → AllLawfulIn hooks ts → IsChecked table
    → ((shape : ℕ) (t u : Tree) → LawfulIn hooks t → Suits table shape t → becomes shape t ≡ Some u → Kept table shape (λ k. drops shape t k) t u)
    → SuitFrom table s tracker i ts → closed_but hooks table s tracker on_way becomes i ts ≡ Some us
    → AllKept table s tracker i (λ t. dropped_but hooks table s tracker on_way drops i ts t) ts us
closed_but_keep hooks table s tracker on_way becomes drops i no_trees us lawful checked keeps suit e = none_kept table s tracker i us e
closed_but_keep hooks table s tracker zero becomes drops i (branch t ts) us lawful checked keeps suit e =
    more_kept table s tracker i (λ k. drops (child_as table s tracker i) t k)
    (λ k. dropped_among deferred_column hooks table s tracker (suc i) ts k) t ts (becomes (child_as table s tracker i) t)
    (closed_all hooks table s tracker (suc i) ts) us (λ u. keeps (child_as table s tracker i) t u lawful.0 suit.0)
    (λ rest. closed_all_keep hooks table s tracker (suc i) ts rest lawful.1 checked suit.1) e
closed_but_keep hooks table s tracker (suc on_way) becomes drops i (branch t ts) us lawful checked keeps suit e =
    more_kept table s tracker i (λ k. dropped_by_completing deferred_column hooks table (child_as table s tracker i) t k)
    (λ k. dropped_but hooks table s tracker on_way drops (suc i) ts k) t ts (closed hooks table (child_as table s tracker i) t)
    (closed_but hooks table s tracker on_way becomes (suc i) ts) us
    (λ u. closed_keeps hooks table (child_as table s tracker i) t u lawful.0 checked suit.0)
    (λ rest. closed_but_keep hooks table s tracker on_way becomes drops (suc i) ts rest lawful.1 checked keeps suit.1) e

-- the begun place at the cursor, whose children are now whole

count_wholes : (vs : Vals) → count_trees (wholes vs) ≡ count_vals vs
count_wholes no_vals = refl
count_wholes (first v vs) = ap suc (count_wholes vs)

-- but of a source a place takes its child's value
taken_child : (table : Table) (s : ℕ) (tracker : Tracker) (i : ℕ) → is_conversion tracker ≡ false
    → taken_as table s tracker i ≡ child_as table s tracker i
taken_child table s (as_content (ContentKind.Source conversion)) i apart = cc
taken_child table s _ i apart = refl

fitting_suit : (table : Table) (s : ℕ) (tracker : Tracker) (i : ℕ) (vs : Vals) → is_conversion tracker ≡ false
    → ChildrenFit table s tracker i vs → SuitFrom table s tracker i (wholes vs)
fitting_suit table s tracker i no_vals apart fit = tt
fitting_suit table s tracker i (first v vs) apart fit =
    (rw (taken_child table s tracker i apart) at fit.0, fitting_suit table s tracker (suc i) vs apart fit.1)

content_wholes : (ts : Trees) (vs : Vals) → count_vals vs ≡ count_trees ts → IsContent ts → IsContent (wholes vs)
content_wholes no_trees vs e has = absurd has
content_wholes (branch t ts) no_vals e has = absurd (omega arith)
content_wholes (branch t ts) (first v vs) e has = tt

entries_wholes : (ts : Trees) (vs : Vals) → count_vals vs ≡ count_trees ts → AreEntries ts → AreEntries (wholes vs)
entries_wholes ts no_vals e has = tt
entries_wholes no_trees (first k vs) e has = absurd (omega arith)
entries_wholes (branch key no_trees) (first k vs) e has = absurd has
entries_wholes (branch key (branch value ts)) (first k no_vals) e has = absurd (omega arith)
entries_wholes (branch key (branch value ts)) (first k (first v no_vals)) e has = tt
entries_wholes (branch key (branch value no_trees)) (first k (first v (first l vs))) e has = absurd (omega arith)
entries_wholes (branch key (branch value (branch next ts))) (first k (first v (first l vs))) e has =
    (tt, tt, entries_wholes (branch next ts) (first l vs) (omega arith) has.2)

right_wholes : (table : Table) (s : ℕ) (tracker : Tracker) (ts : Trees) (vs : Vals) → count_vals vs ≡ count_trees ts
    → IsBegunRightly table s tracker ts → IsBegunRightly table s tracker (wholes vs)
right_wholes table s tracker ts vs e =
    right_kept table s tracker ts _ (content_wholes ts vs e) (λ all. wholes_touched vs) (entries_wholes ts vs e)

-- what isn't made whole is no conversion
apart_from : (a b : Bool) → (a || b) ≡ false → b ≡ false
apart_from true b e = cc
apart_from false b e = e

-- nothing is left out of a pointer to a slice, or of a conversion
whole_leaves_none : (tracker : Tracker) (vs : Vals) (t : ℕ) → is_made_whole tracker ≡ true → left_out tracker vs t ≡ 0
whole_leaves_none (as_items ItemsKind.ClosedSlice) vs t is = refl
whole_leaves_none (as_content kind) vs t is = refl
whole_leaves_none _ vs t is = cc

begun_keeps : (hooks : Meanings) (table : Table) (s : ℕ) (tracker : Tracker) (ts : Trees) (u : Tree) → LawfulIn hooks (begun tracker ts) → IsChecked table
    → Suits table s (begun tracker ts) → finished_here hooks table s (begun tracker ts) ≡ Some u
    → Kept table s (λ t. dropped_below deferred_column hooks table s tracker 0 ts t) (begun tracker ts) u
begun_keeps hooks table s tracker ts u lawful checked suits e = rw to.same (go (is_made_whole tracker) refl)
  where
    to : Mapped (begun_with tracker) (complete_all deferred_column hooks table s tracker 0 ts) u
    to = mapped_is (begun_with tracker) (complete_all deferred_column hooks table s tracker 0 ts) u e

    those : Children table s tracker 0 (count_trees ts) (λ t. dropped_below deferred_column hooks table s tracker 0 ts t)
        (λ t. trees_occur ts t) to.from
    those = all_completing_make deferred_column hooks table ts s tracker 0 to.from lawful.0 lawful.1 checked (sound_as table s tracker ts suits.2) suits.1 to.is

    full_as : IsFullAs (def_of table s) tracker (count_vals to.from)
    full_as = subst (IsFullAs (def_of table s) tracker) (sym those.counted) suits.0.0

    go : (b : Bool) → is_made_whole tracker ≡ b
        → Kept table s (λ t. dropped_below deferred_column hooks table s tracker 0 ts t) (begun tracker ts)
        (if b then whole (value_as tracker to.from) else begun tracker (wholes to.from))
    go true is = record {
      suits = value_fits table s tracker to.from full_as (sound_as table s tracker ts suits.2) those.fit;
      touched = λ there. tt;
      converts = λ field old. tt;
      hold = λ t. omega (
        arith,
        value_holds table s tracker to.from full_as those.fit t,
        whole_leaves_none tracker to.from t is,
        those.hold t,
      );
    }
    go false is = record {
      suits = (
        subst (IsBegunAs (def_of table s) tracker) (sym (count_wholes to.from ∙ those.counted)) suits.0,
        fitting_suit table s tracker 0 to.from (apart_from (is_closed_slice tracker) (is_conversion tracker) is) those.fit,
        right_wholes table s tracker ts to.from those.counted suits.2,
      );
      touched = λ there. tt;
      converts = λ field old. (old.0, wholes_convert table s tracker 0 to.from);
      hold = λ t. omega (arith, wholes_hold to.from t, those.hold t);
    }

here_keeps : (hooks : Meanings) (table : Table) (s : ℕ) (tree u : Tree) → LawfulIn hooks tree → IsChecked table → Suits table s tree
    → finished_here hooks table s tree ≡ Some u → Kept table s (λ t. dropped_by_finishing hooks table s [] tree t) tree u
here_keeps hooks table s hole u lawful checked suits e =
    let same : hole ≡ u = cc in rw (← same) (record { suits = tt; touched = λ there. there; converts = λ field old. tt; hold = λ t. refl })
here_keeps hooks table s entered u lawful checked suits e = closed_keeps hooks table s entered u lawful checked suits e
here_keeps hooks table s (whole v) u lawful checked suits e =
    let same : whole v ≡ u = cc in rw (← same) (record { suits = suits; touched = λ there. there; converts = λ field old. old; hold = λ t. omega arith })
here_keeps hooks table s (begun tracker ts) u lawful checked suits e = begun_keeps hooks table s tracker ts u lawful checked suits e

-- a begun place above the cursor
above_keeps : (hooks : Meanings) (table : Table) (s : ℕ) (tracker : Tracker) (on_way : ℕ) (becomes : ℕ → Tree → Option Tree)
    (drops : ℕ → Tree → ℕ → ℕ) (ts : Trees) (next : Tree) → AllLawfulIn hooks ts → IsChecked table
    → ((shape : ℕ) (t u : Tree) → LawfulIn hooks t → Suits table shape t → becomes shape t ≡ Some u → Kept table shape (λ k. drops shape t k) t u)
    → Suits table s (begun tracker ts) → option_map (begun tracker) (closed_but hooks table s tracker on_way becomes 0 ts) ≡ Some next
    → Kept table s (λ t. dropped_but hooks table s tracker on_way drops 0 ts t) (begun tracker ts) next
above_keeps hooks table s tracker on_way becomes drops ts next lawful checked keeps suits e =
    rw to.same (record {
      suits = (
        subst (IsBegunAs (def_of table s) tracker) (sym those.counted) suits.0,
        those.suit,
        right_kept table s tracker ts to.from those.content those.touched (entries_there ts to.from those.there) suits.2,
      );
      touched = λ there. tt;
      converts = λ field old. (old.0, those.convert old.1);
      hold = those.hold;
    })
  where
    to : Mapped (begun tracker) (closed_but hooks table s tracker on_way becomes 0 ts) next
    to = mapped_is (begun tracker) (closed_but hooks table s tracker on_way becomes 0 ts) next e

    those : AllKept table s tracker 0 (λ t. dropped_but hooks table s tracker on_way drops 0 ts t) ts to.from
    those = closed_but_keep hooks table s tracker on_way becomes drops 0 ts to.from lawful checked keeps suits.1 to.is

-- over a checked table the tree at the end suits the shape, and holds each token as often as before, but for what is dropped
pub finish_keeps : (hooks : Meanings) (table : Table) (s : ℕ) (cursor : Place) (tree next : Tree) → LawfulIn hooks tree → IsChecked table
    → Suits table s tree → finished hooks table s cursor tree ≡ Some next
    → Kept table s (λ t. dropped_by_finishing hooks table s cursor tree t) tree next
finish_keeps hooks table s [] tree next lawful checked suits e = here_keeps hooks table s tree next lawful checked suits e
finish_keeps hooks table s (i ∷ place) (begun tracker ts) next lawful checked suits e =
    above_keeps hooks table s tracker i (λ (shape : ℕ) (t : Tree). finished hooks table shape place t)
    (λ (shape : ℕ) (t : Tree) (k : ℕ). dropped_by_finishing hooks table shape place t k) ts next lawful.1 checked
    (λ shape t u by fits is. finish_keeps hooks table shape place t u by checked fits is) suits e
finish_keeps hooks table s (i ∷ place) tree next lawful checked suits e =
    rw (← some_is tree next e) (record { suits = suits; touched = λ there. there; converts = λ field old. old; hold = λ t. omega arith })

-- The tree at the end is one of strict mode

closed_off : (hooks : Meanings) (table : Table) (s : ℕ) (tree u : Tree) → closed hooks table s tree ≡ Some u → IsOff strict u
closed_off hooks table s hole u e = let same : hole ≡ u = cc in rw (← same) tt
closed_off hooks table s tree u e = let to = mapped_is whole (complete deferred_column hooks table s tree) u e in rw to.same tt

closed_all_off : (hooks : Meanings) (table : Table) (s : ℕ) (tracker : Tracker) (i : ℕ) (ts us : Trees)
    → closed_all hooks table s tracker i ts ≡ Some us → AllOff strict us
closed_all_off hooks table s tracker i no_trees us e = let same : no_trees ≡ us = cc in rw (← same) tt
closed_all_off hooks table s tracker i (branch t ts) us e =
    let parts = one_more_tree_is _ _ us e in
    rw parts.same (
      closed_off hooks table _ t parts.head parts.head_is,
      closed_all_off hooks table s tracker (suc i) ts parts.tail parts.tail_is,
    )

closed_but_off : (hooks : Meanings) (table : Table) (s : ℕ) (tracker : Tracker) (on_way : ℕ)
    (becomes : ℕ → Tree → Option Tree) (mode : Mode) (Below After : Tree → Type 0) (i : ℕ) (ts us : Trees)
    → ((shape : ℕ) (t u : Tree) → Below t → becomes shape t ≡ Some u → After u) → OffBut mode on_way Below ts
    → closed_but hooks table s tracker on_way becomes i ts ≡ Some us → OffBut strict on_way After us
closed_but_off hooks table s tracker on_way becomes mode Below After i no_trees us leads off e = absurd off
closed_but_off hooks table s tracker zero becomes mode Below After i (branch t ts) us leads off e =
    let parts = one_more_tree_is _ _ us e in
    rw parts.same (leads _ t parts.head off.0 parts.head_is, closed_all_off hooks table s tracker (suc i) ts parts.tail parts.tail_is)
closed_but_off hooks table s tracker (suc on_way) becomes mode Below After i (branch t ts) us leads off e =
    let parts = one_more_tree_is _ _ us e in
    rw parts.same (
      closed_off hooks table _ t parts.head parts.head_is,
      closed_but_off hooks table s tracker on_way becomes mode Below After (suc i) ts parts.tail leads off.1 parts.tail_is,
    )

-- what holds of the value that a begun place makes, and of that place with whole children, holds of what it becomes
pub begun_with_is : (Is : Tree → Type 0) (tracker : Tracker) (vs : Vals) → Is (whole (value_as tracker vs))
    → (is_conversion tracker ≡ false → Is (begun tracker (wholes vs))) → Is (begun_with tracker vs)
begun_with_is Is tracker vs made more = go (is_made_whole tracker) refl
  where
    go : (b : Bool) → is_made_whole tracker ≡ b → Is (if b then whole (value_as tracker vs) else begun tracker (wholes vs))
    go true is = made
    go false is = more (apart_from (is_closed_slice tracker) (is_conversion tracker) is)

here_leads : (hooks : Meanings) (table : Table) (s : ℕ) (mode : Mode) (tree u : Tree) → AtCursor mode tree
    → finished_here hooks table s tree ≡ Some u → AtCursor strict u
here_leads hooks table s mode hole u at e = absurd at
here_leads hooks table s mode entered u at e = let to = mapped_is whole _ u e in rw to.same tt
here_leads hooks table s mode (whole v) u at e = let same : whole v ≡ u = cc in rw (← same) tt
here_leads hooks table s mode (begun tracker ts) u at e =
    let to = mapped_is _ _ u e in rw to.same (begun_with_is (AtCursor strict) tracker to.from tt (λ apart. (apart, wholes_off strict to.from)))

-- where the cursor leads to a place, in whichever mode, it leads to it in strict mode
pub finish_leads : (hooks : Meanings) (table : Table) (s : ℕ) (mode : Mode) (cursor : Place) (tree next : Tree)
    → Leads mode cursor tree → finished hooks table s cursor tree ≡ Some next → Leads strict cursor next
finish_leads hooks table s mode [] tree next leads e = here_leads hooks table s mode tree next leads e
finish_leads hooks table s mode (i ∷ place) (begun tracker ts) next leads e =
    let to = mapped_is _
    (closed_but hooks table s tracker i (λ (shape : ℕ) (t : Tree). finished hooks table shape place t) 0 ts) next e in
    rw to.same (closed_but_off hooks table s tracker i (λ (shape : ℕ) (t : Tree). finished hooks table shape place t) mode
    (λ child. Leads mode place child) (λ child. Leads strict place child) 0 ts to.from
    (λ shape t u below is. finish_leads hooks table shape mode place t u below is) leads to.is)
finish_leads hooks table s mode (i ∷ place) _ next leads e = absurd leads

-- The path stays

-- what holds of a child on the way and what becomes of it, or of two holes, holds of the trees of this number
on_way_is : (hooks : Meanings) (table : Table) (s : ℕ) (tracker : Tracker) (on_way : ℕ) (becomes : ℕ → Tree → Option Tree)
    (Both : Tree → Tree → Type 0) (i : ℕ) (ts us : Trees) → Both hole hole
    → ((shape : ℕ) (t u : Tree) → becomes shape t ≡ Some u → Both t u)
    → closed_but hooks table s tracker on_way becomes i ts ≡ Some us → Both (tree_nth on_way ts) (tree_nth on_way us)
on_way_is hooks table s tracker on_way becomes Both i no_trees us holes step e =
    let same : no_trees ≡ us = cc in rw (← same) holes
on_way_is hooks table s tracker zero becomes Both i (branch t ts) us holes step e =
    let parts = one_more_tree_is _ _ us e in rw parts.same (step (child_as table s tracker i) t parts.head parts.head_is)
on_way_is hooks table s tracker (suc on_way) becomes Both i (branch t ts) us holes step e =
    let parts = one_more_tree_is _ _ us e in
    rw parts.same (on_way_is hooks table s tracker on_way becomes Both (suc i) ts parts.tail holes step parts.tail_is)

pub finish_keeps_path : (hooks : Meanings) (table : Table) (s : ℕ) (cursor : Place) (tree next : Tree)
    → finished hooks table s cursor tree ≡ Some next → steps_in cursor next ≡ steps_in cursor tree
finish_keeps_path hooks table s [] tree next e = refl
finish_keeps_path hooks table s (i ∷ place) (begun tracker ts) next e =
    let to = mapped_is _
    (closed_but hooks table s tracker i (λ (shape : ℕ) (t : Tree). finished hooks table shape place t) 0 ts) next e in
    rw to.same (ap (λ (steps : List PathStep). step_as tracker i ∷ steps)
    (on_way_is hooks table s tracker i (λ (shape : ℕ) (t : Tree). finished hooks table shape place t)
    (λ t u. steps_in place u ≡ steps_in place t) 0 ts to.from refl
    (λ shape t u is. finish_keeps_path hooks table shape place t u is) to.is))
finish_keeps_path hooks table s (i ∷ place) tree next e = ap (steps_in (i ∷ place)) (sym (some_is tree next e))

-- Something to refuse

kind_there : (found : Option Failure) → is_some (kind_of found) ≡ is_some found
kind_there (Some failure) = refl
kind_there None = refl

-- there is a first exactly of a list that isn't empty
pub first_there : (failures : List Failure) → is_some (first_by_walk failures) ≡ not (is_nil failures)
first_there [] = refl
first_there (failure ∷ failures) = refl

none_more_tree : (o : Option Tree) (os : Option Trees) → is_none (one_more_tree o os) ≡ (is_none o || is_none os)
none_more_tree None os = refl
none_more_tree (Some t) None = refl
none_more_tree (Some t) (Some ts) = refl

or_aside : (a b c : Bool) → ((a || b) || c) ≡ ((a || c) || b)
or_aside true b c = refl
or_aside false true true = refl
or_aside false true false = refl
or_aside false false true = refl
or_aside false false false = refl

or_within : (a b c : Bool) → (a || (b || c)) ≡ ((a || b) || c)
or_within true b c = refl
or_within false b c = refl

closed_all_or_fail : (hooks : Meanings) (table : Table) (s : ℕ) (tracker : Tracker) (i : ℕ) (path : List PathStep) (ts : Trees)
    → is_none (closed_all hooks table s tracker i ts) ≡ not (is_nil (failures_among hooks table s tracker i path ts))
closed_all_or_fail hooks table s tracker i path no_trees = refl
closed_all_or_fail hooks table s tracker i path (branch t ts) =
    none_more_tree (closed hooks table (child_as table s tracker i) t) (closed_all hooks table s tracker (suc i) ts)
    ∙ ap₂ (λ (a b : Bool). a || b) (completes_or_fails hooks table (child_as table s tracker i) (path ++ step_as tracker i ∷ []) t)
    (closed_all_or_fail hooks table s tracker (suc i) path ts)
    ∙ sym (joined_there _ (failures_among hooks table s tracker (suc i) path ts))

-- The children of a place above the cursor: child i, as many further on as `on_way`, lies on the way.
closed_but_or_refused : (hooks : Meanings) (table : Table) (s : ℕ) (tracker : Tracker) (on_way : ℕ)
    (becomes : ℕ → Tree → Option Tree) (below : ℕ → List PathStep → Tree → List Failure) (lacking : ℕ → Tree → Bool)
    (mode : Mode) (Below : Tree → Type 0) (k : ℕ) (path : List PathStep) (ts : Trees) (i : ℕ) → i ≡ k + on_way
    → ((shape : ℕ) (to : List PathStep) (t : Tree) → Below t
    → is_none (becomes shape t) ≡ (not (is_nil (below shape to t)) || lacking shape t)) → OffBut mode on_way Below ts
    → is_none (closed_but hooks table s tracker on_way becomes k ts)
    ≡ (not (is_nil (failures_but hooks table s tracker on_way below k path ts))
    || lacking (child_as table s tracker i) (tree_nth on_way ts))
closed_but_or_refused hooks table s tracker on_way becomes below lacking mode Below k path no_trees i is step off = absurd off
closed_but_or_refused hooks table s tracker zero becomes below lacking mode Below k path (branch t ts) i is step off =
    subst (λ (m : ℕ). is_none (closed_but hooks table s tracker zero becomes k (branch t ts))
    ≡ (not (is_nil (failures_but hooks table s tracker zero below k path (branch t ts)))
    || lacking (child_as table s tracker m) t)) here
    (none_more_tree (becomes (child_as table s tracker k) t) (closed_all hooks table s tracker (suc k) ts)
    ∙ ap₂ (λ (a b : Bool). a || b) (step (child_as table s tracker k) (path ++ step_as tracker k ∷ []) t off.0)
    (closed_all_or_fail hooks table s tracker (suc k) path ts)
    ∙ or_aside _ (lacking (child_as table s tracker k) t) (not (is_nil (failures_among hooks table s tracker (suc k) path ts)))
    ∙ ap (λ (b : Bool). b || lacking (child_as table s tracker k) t)
    (sym (joined_there _ (failures_among hooks table s tracker (suc k) path ts))))
  where
    here : k ≡ i
    here = omega arith
closed_but_or_refused hooks table s tracker (suc on_way) becomes below lacking mode Below k path (branch t ts) i is step off =
    none_more_tree (closed hooks table (child_as table s tracker k) t)
    (closed_but hooks table s tracker on_way becomes (suc k) ts) ∙ ap₂ (λ (a b : Bool). a || b)
    (completes_or_fails hooks table (child_as table s tracker k) (path ++ step_as tracker k ∷ []) t)
    (closed_but_or_refused hooks table s tracker on_way becomes below lacking mode Below (suc k) path ts i (omega arith) step
    off.1) ∙ or_within _ (not (is_nil (failures_but hooks table s tracker on_way below (suc k) path ts)))
    (lacking (child_as table s tracker i) (tree_nth on_way ts))
    ∙ ap (λ (b : Bool). b || lacking (child_as table s tracker i) (tree_nth on_way ts))
    (sym (joined_there _ (failures_but hooks table s tracker on_way below (suc k) path ts)))

-- what the place at the cursor lacks
abbrev lacks_at : Meanings → Table → Place → ℕ → Tree → Bool
lacks_at hooks table cursor s tree = is_some (own_lack hooks table (shape_in table s cursor tree) (tree_at cursor tree))

finished_or_refused : (hooks : Meanings) (table : Table) (s : ℕ) (path : List PathStep) (mode : Mode) (cursor : Place)
    (tree : Tree) → Leads mode cursor tree → is_none (finished hooks table s cursor tree)
    ≡ (not (is_nil (failures_off hooks table s path cursor tree)) || lacks_at hooks table cursor s tree)
finished_or_refused hooks table s path mode [] hole leads = absurd leads
finished_or_refused hooks table s path mode [] entered leads =
    none_mapped whole (complete deferred_column hooks table s entered) ∙ entered_lacks hooks table s
finished_or_refused hooks table s path mode [] (whole v) leads = refl
finished_or_refused hooks table s path mode [] (begun tracker ts) leads =
    none_mapped (begun_with tracker) (complete_all deferred_column hooks table s tracker 0 ts)
    ∙ all_complete_or_fail hooks table s tracker 0 path ts ∙ go (is_conversion tracker)
  where
    twice : (a b : Bool) → (a || b) ≡ ((a || b) || b)
    twice true b = refl
    twice false true = refl
    twice false false = refl

    go : (b : Bool) → (not (is_nil (failures_among hooks table s tracker 0 path ts)) || is_some (lack_of_begun hooks table s tracker ts))
        ≡ (not (is_nil (if b then failures hooks table s path (begun tracker ts) else failures_among hooks table s tracker 0 path ts))
        || is_some (lack_of_begun hooks table s tracker ts))
    go true =
        twice (not (is_nil (failures_among hooks table s tracker 0 path ts))) (is_some (lack_of_begun hooks table s tracker ts))
        ∙ ap (λ (b : Bool). b || is_some (lack_of_begun hooks table s tracker ts))
        (sym (itself_there (failures_among hooks table s tracker 0 path ts) (failing_path tracker path) (lack_of_begun hooks table s tracker ts)))
    go false = refl
finished_or_refused hooks table s path mode (i ∷ place) (begun tracker ts) leads =
    none_mapped (begun tracker)
    (closed_but hooks table s tracker i (λ (shape : ℕ) (t : Tree). finished hooks table shape place t) 0 ts)
    ∙ closed_but_or_refused hooks table s tracker i (λ (shape : ℕ) (t : Tree). finished hooks table shape place t)
    (λ (shape : ℕ) (to : List PathStep) (t : Tree). failures_off hooks table shape to place t)
    (λ (shape : ℕ) (t : Tree). lacks_at hooks table place shape t) mode (λ child. Leads mode place child) 0 path ts i
    (omega arith) (λ shape to t below. finished_or_refused hooks table shape to mode place t below) leads
finished_or_refused hooks table s path mode (i ∷ place) _ leads = absurd leads

-- Deferred mode can't end exactly where a place off the way fails, or else the one at the cursor lacks something.
pub finishes_or_refuses : (hooks : Meanings) (table : Table) (s : ℕ) (path : List PathStep) (mode : Mode) (cursor : Place)
    (tree : Tree) → Leads mode cursor tree → is_none (finished hooks table s cursor tree)
    ≡ is_some (option_or (kind_of (first_by_walk (failures_off hooks table s path cursor tree)))
    (own_lack hooks table (shape_in table s cursor tree) (tree_at cursor tree)))
finishes_or_refuses hooks table s path mode cursor tree leads =
    finished_or_refused hooks table s path mode cursor tree leads ∙ ap (λ (b : Bool). b || lacks_at hooks table cursor s tree)
    (sym (kind_there _ ∙ first_there (failures_off hooks table s path cursor tree)))
    ∙ sym (some_or _ (own_lack hooks table (shape_in table s cursor tree) (tree_at cursor tree)))
