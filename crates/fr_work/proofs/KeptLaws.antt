-- What is kept of a place where it is begun, and how it may be begun.
use Rattle.std.proofs.Common.{◌≡◌, ℕ, Bool, true, false, Option, Some, None, option_map, is_some, if◌then◌else◌, refl, sym, ◌∙◌, ap, subst, arith}
use Rattle.fr_work.specs.Common.{Beginning, ContentKind, Def, HasChild, HoldsNothingTwice, IsFullAs, Mode, Table, Tracker, Tree, Trees, Val, as_content, beginning_in, beginning_of_some, beginning_so, begun, count_trees, def_of, deferred, entered, hole, is_around, kept_so, strict, whole, State, beginning_of_inner, content_shape, cursor_tree}
use Rattle.fr_model.specs.Contents.{content_of, is_entered_in_place, kept_in, kept_option}
use Rattle.fr_model.specs.Trackers.{same_tracker}
use Rattle.fr_model.specs.Well.{HasContent, PointsTo}
use Rattle.fr_model.specs.Entering.{opened_value}
use Rattle.fr_shape.specs.Val.{first, map_of, no_vals, set_of}
use Rattle.fr_refusals.specs.Beginnings.{kept_by}
use Rattle.fr_model.proofs.Becoming.{kept_so_is as kept_just_so}
use Rattle.fr_moves.specs.MayBeginAs.{MayBeginAround}
use Rattle.fr_moves.specs.TrackerLaws.{IsFullTree}
use Rattle.fr_model.specs.Step.{inner_option_kept}

-- What is begun just so has that tracker.
same_is : (made tracker : Tracker) (ts : Trees) → same_tracker made tracker ≡ true → made ≡ tracker
same_is made tracker ts e =
    let kept : kept_so tracker (begun made ts) ≡ Some (begun made ts) = rw e refl in
    let is = (kept_just_so tracker (begun made ts) (begun made ts) kept).is in
    cc

-- What is kept.

kept_if : (b : Bool) (tracker : Tracker) (tree : Tree)
    → kept_by (if b then Beginning.AsItIs else Beginning.Anew) tracker tree ≡ (if b then Some tree else None)
kept_if true tracker tree = refl
kept_if false tracker tree = refl

pub kept_so_is : (tracker : Tracker) (tree : Tree) → kept_by (beginning_so tracker tree) tracker tree ≡ kept_so tracker tree
kept_so_is tracker (begun made ts) = kept_if (same_tracker made tracker) tracker (begun made ts)
kept_so_is tracker _ = refl

pub kept_in_is : (mode : Mode) (tracker : Tracker) (tree : Tree) → kept_by (beginning_in mode tracker tree) tracker tree ≡ kept_in mode tracker tree
kept_in_is strict tracker tree = refl
kept_in_is (deferred start) tracker tree = kept_so_is tracker tree

pub kept_some_is : (mode : Mode) (content : Def) (tree : Tree)
    → kept_by (beginning_of_some mode content tree) (as_content ContentKind.Some) tree ≡ kept_option mode content tree
kept_some_is mode content hole = refl
kept_some_is mode content entered = refl
kept_some_is mode content (whole v) = go (is_entered_in_place mode content) (content_of v) refl refl
  where
    go : (b : Bool) (held : Option Val) → is_entered_in_place mode content ≡ b → content_of v ≡ held
        → kept_by (beginning_of_some mode content (whole v)) (as_content ContentKind.Some) (whole v) ≡ kept_option mode content (whole v)
    go true (Some w) h e =
        rw (h, e) (ap (λ (held : Option Val). Some (opened_value (as_content ContentKind.Some) v (option_map (λ (x : Val). first x no_vals) held))) e)
    go true None h e = rw (h, e) refl
    go false held h e = rw h refl
kept_some_is mode content (begun made ts) = kept_in_is mode (as_content ContentKind.Some) (begun made ts)

pub inner_kept_is : (table : Table) (s : ℕ) (state : State)
    → kept_by (beginning_of_inner state.mode (def_of table (content_shape (def_of table s))) (cursor_tree state))
    (as_content ContentKind.Some) (cursor_tree state) ≡ inner_option_kept table s state state.mode
inner_kept_is table s state = go state.mode refl
  where
    content : Def
    content = def_of table (content_shape (def_of table s))

    go : (mode : Mode) → state.mode ≡ mode
        → kept_by (beginning_of_inner mode content (cursor_tree state)) (as_content ContentKind.Some) (cursor_tree state)
        ≡ inner_option_kept table s state mode
    go strict e = refl
    go (deferred start) e =
        kept_some_is (deferred start) content (cursor_tree state)
        ∙ ap (λ (m : Mode). kept_option m content (cursor_tree state)) (sym e)

-- How it may be begun.

one_content : (def : Def) (kind : ContentKind) (n : ℕ) → HasContent def kind n → n ≡ 1
one_content def (ContentKind.Source conversion) n full = full
one_content (Def.Option t) ContentKind.Some n full = full
one_content (Def.Result t e) ContentKind.Ok n full = full
one_content (Def.Result t e) ContentKind.Err n full = full
one_content (Def.Pointer pointer) ContentKind.Pointer n full = go pointer.pointee full
  where
    go : (pointee : _) → PointsTo pointee n → n ≡ 1
    go (Some s) full = full
    go None full = absurd full
one_content _ kind n full = absurd full

-- a place with a content has that alone
pub one_child : (tracker : Tracker) → is_around tracker ≡ true → (def : Def) (n : ℕ) → IsFullAs def tracker n → n ≡ 1
one_child (as_content kind) h def n full = one_content def kind n full
one_child _ h def n full = absurd (cc)

begin_if : (b : Bool) (tracker : Tracker) (tree : Tree) → (b ≡ true → HasChild tracker 0 tree)
    → MayBeginAround (if b then Beginning.AsItIs else Beginning.Anew) tracker tree
begin_if true tracker tree has = has refl
begin_if false tracker tree has = tt

pub may_begin_so : (tracker : Tracker) → is_around tracker ≡ true → (def : Def) (tree : Tree) → IsFullTree def tree
    → MayBeginAround (beginning_so tracker tree) tracker tree
may_begin_so tracker h def (begun made ts) full =
    begin_if (same_tracker made tracker) tracker (begun made ts) (λ e.
    let same : made ≡ tracker = same_is made tracker ts e in
    let one : count_trees ts ≡ 1
    = one_child tracker h def (count_trees ts) (subst (λ (f : Tracker). IsFullAs def f (count_trees ts)) same full) in
    (same, omega (arith, one)))
may_begin_so tracker h def _ full = tt

pub may_begin_in : (mode : Mode) (tracker : Tracker) → is_around tracker ≡ true → (def : Def) (tree : Tree) → IsFullTree def tree
    → MayBeginAround (beginning_in mode tracker tree) tracker tree
may_begin_in strict tracker h def tree full = tt
may_begin_in (deferred start) tracker h def tree full = may_begin_so tracker h def tree full

-- a whole `Some` is no set and no map
some_apart : (v w : Val) → content_of v ≡ Some w → HoldsNothingTwice v
some_apart (set_of vs) w e = cc
some_apart (map_of es) w e = cc
some_apart _ w e = tt

pub may_begin_some : (mode : Mode) (content def : Def) (tree : Tree) → IsFullTree def tree
    → MayBeginAround (beginning_of_some mode content tree) (as_content ContentKind.Some) tree
may_begin_some mode content def hole full = tt
may_begin_some mode content def entered full = tt
may_begin_some mode content def (whole v) full = go (is_entered_in_place mode content) (content_of v) refl refl
  where
    go : (b : Bool) (held : Option Val) → is_entered_in_place mode content ≡ b → content_of v ≡ held
        → MayBeginAround (beginning_of_some mode content (whole v)) (as_content ContentKind.Some) (whole v)
    go true (Some w) h e = rw (h, e) ((ap (λ (found : Option Val). is_some (option_map (λ (x : Val). first x no_vals) found)) e, some_apart v w e), refl)
    go true None h e = rw (h, e) tt
    go false held h e = rw h tt
may_begin_some mode content def (begun made ts) full = may_begin_in mode (as_content ContentKind.Some) refl def (begun made ts) full

pub may_begin_inner : (mode : Mode) (content def : Def) (tree : Tree) → IsFullTree def tree
    → MayBeginAround (beginning_of_inner mode content tree) (as_content ContentKind.Some) tree
may_begin_inner strict content def tree full = tt
may_begin_inner (deferred start) content def tree full = may_begin_some (deferred start) content def tree full
