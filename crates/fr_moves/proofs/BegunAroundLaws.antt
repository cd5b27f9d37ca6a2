-- A place that is begun around a content, or as a variant: what it is then, and what is kept of it.
use Rattle.std.proofs.Common.{◌≡◌, ℕ, Bool, true, false, length, Some, None, Result, Ok, Err, OnOk, IsSome, unwrap_or, if◌then◌else◌, refl, sym, ◌∙◌, ap, subst, arith}
use Rattle.fr_moves.specs.Common.{Beginning, ContentKind, Def, HasChild, IsWholeWith, MayHave, PointsRightly, Suits, Table, Tracker, Tree, Trees, Val, as_content, as_fields, beginning_so, begun, begun_by, branch, change_child, child_as, def_of, enter, fresh, hole, holes, is_around, is_begun, kept_so, no_trees, variant_anew, variant_fields, whole}
use Rattle.fr_model.specs.Contents.{around, content_anew}
use Rattle.fr_model.specs.PathLaws.{HasBegunAs, IsKeptAs}
use Rattle.fr_model.specs.Trackers.{same_tracker}
use Rattle.fr_model.specs.Well.{IsBegunRightly, IsContent}
use Rattle.fr_model.specs.Entering.{opened_as, parts_as}
use Rattle.fr_shape.specs.Val.{some}
use Rattle.fr_refusals.specs.Beginnings.{kept_by}
use Rattle.fr_moves.specs.MayBeginAs.{MayBeginAround}
use Rattle.fr_moves.proofs.BelowLaws.{of_content}

pub points_around : (table : Table) (s : ℕ) (tracker : Tracker) → is_around tracker ≡ true → PointsRightly table s tracker
points_around table s = of_content (PointsRightly table s) tt tt tt tt (λ conversion. tt)

pub may_have_one : (tracker : Tracker) → is_around tracker ≡ true → MayHave tracker 1
may_have_one =
    of_content (λ tracker. MayHave tracker 1) (omega arith) (omega arith) (omega arith) (omega arith) (λ conversion. omega arith)

-- nothing is begun in place but a whole value that has parts for that
pub whole_some : (beginning : Beginning) (tracker : Tracker) (tree : Tree) → MayBeginAround beginning tracker tree
    → beginning ≡ Beginning.InPlace → IsWholeWith tracker tree
whole_some Beginning.InPlace tracker tree may e = may.0
whole_some _ tracker tree may e = cc

-- What it is then.

-- one that is whole is begun around its content, which stays as it is when it is entered
record IsBegunAround (tracker : Tracker) (v : Val) : Type 0 where
  has : HasChild tracker 0 (opened_as tracker 1 (whole v))
  stays : (def : Def) → change_child 0 (enter def) (opened_as tracker 1 (whole v)) ≡ opened_as tracker 1 (whole v)

some_begun : (v : Val) → IsSome (parts_as (as_content ContentKind.Some) v) → IsBegunAround (as_content ContentKind.Some) v
some_begun (some held) h = record { has = (refl, omega arith); stays = λ def. refl }
some_begun _ h = absurd (cc)

begun_around : (tracker : Tracker) (v : Val) → MayBeginAround Beginning.InPlace tracker (whole v) → IsBegunAround tracker v
begun_around tracker v may =
    subst (λ (f : Tracker). IsBegunAround f v) (sym may.1) (some_begun v (subst (λ (f : Tracker). IsSome (parts_as f v)) may.1 may.0.0))

pub has_content : (beginning : Beginning) (tracker : Tracker) (tree : Tree) → MayBeginAround beginning tracker tree
    → HasChild tracker 0 (begun_by beginning tracker 1 tree)
has_content Beginning.AsItIs tracker tree may = may
has_content Beginning.InPlace tracker (whole v) may = (begun_around tracker v may).has
has_content Beginning.Anew tracker tree may = (refl, omega arith)
has_content Beginning.InPlace tracker _ may = absurd may.0

child_tracker : (tracker : Tracker) (i : ℕ) (tree : Tree) → HasChild tracker i tree → HasBegunAs tracker tree
child_tracker tracker i (begun made ts) has = has.0
child_tracker tracker i _ has = absurd has

-- what is kept is begun so
pub kept_as_tracker : (beginning : Beginning) (tracker : Tracker) (tree : Tree) → MayBeginAround beginning tracker tree
    → IsKeptAs tracker (kept_by beginning tracker tree)
kept_as_tracker Beginning.AsItIs tracker tree may = child_tracker tracker 0 tree may
kept_as_tracker Beginning.InPlace tracker tree may =
    child_tracker tracker 0 (opened_as tracker 1 tree) (has_content Beginning.InPlace tracker tree may)
kept_as_tracker Beginning.Anew tracker tree may = tt

-- the content of a place that is rightly begun is no hole
content_stays : (table : Table) (s : ℕ) (tracker : Tracker) → is_around tracker ≡ true → (t : Tree) (ts : Trees)
    → IsBegunRightly table s tracker (branch t ts) → (def : Def) → enter def t ≡ t
content_stays table s tracker h t ts right def =
    go t (of_content (λ tracker. IsBegunRightly table s tracker (branch t ts) → IsContent (branch t ts)) (λ rightly. rightly)
    (λ rightly. rightly) (λ rightly. rightly) (λ rightly. rightly.0) (λ conversion rightly. rightly.0) tracker h right)
  where
    go : (t : Tree) → IsContent (branch t ts) → enter def t ≡ t
    go hole touch = absurd touch
    go _ touch = refl

-- begun so, and the content entered
pub content_so : (table : Table) (s : ℕ) (beginning : Beginning) (tracker : Tracker) → is_around tracker ≡ true → (tree : Tree)
    → MayBeginAround beginning tracker tree → Suits table s tree → (def : Def) → def ≡ def_of table (child_as table s tracker 0)
    → change_child 0 (enter def) (begun_by beginning tracker 1 tree)
    ≡ unwrap_or (kept_by beginning tracker tree) (content_anew table s tracker)
content_so table s Beginning.Anew tracker h tree may suits def is = ap (λ (d : Def). around tracker (fresh d)) is
content_so table s Beginning.InPlace tracker h (whole v) may suits def is = (begun_around tracker v may).stays def
content_so table s Beginning.AsItIs tracker h (begun made (branch t ts)) may suits def is =
    ap (λ (x : Tree). begun made (branch x ts)) (content_stays table s tracker h t ts
    (subst (λ (f : Tracker). IsBegunRightly table s f (branch t ts)) may.0 suits.2) def)
content_so table s Beginning.AsItIs tracker h (begun made no_trees) may suits def is = absurd (omega (arith, may.1))
content_so table s Beginning.AsItIs tracker h _ may suits def is = absurd may
content_so table s Beginning.InPlace tracker h _ may suits def is = absurd may.0

begun_if : (b : Bool) (tracker : Tracker) (count : ℕ) (tree : Tree)
    → begun_by (if b then Beginning.AsItIs else Beginning.Anew) tracker count tree
    ≡ unwrap_or (if b then Some tree else None) (begun tracker (holes count))
begun_if true tracker count tree = refl
begun_if false tracker count tree = refl

begun_so : (tracker : Tracker) (count : ℕ) (tree : Tree)
    → begun_by (beginning_so tracker tree) tracker count tree ≡ unwrap_or (kept_so tracker tree) (begun tracker (holes count))
begun_so tracker count (begun made ts) = begun_if (same_tracker made tracker) tracker count (begun made ts)
begun_so tracker count _ = refl

-- begun as a variant
pub variant_so : (def : Def) (k count : ℕ) (tree : Tree) → count ≡ length (variant_fields def k)
    → begun_by (beginning_so (as_fields (Some k)) tree) (as_fields (Some k)) count tree
    ≡ unwrap_or (kept_so (as_fields (Some k)) tree) (variant_anew def k)
variant_so def k count tree counts =
    begun_so (as_fields (Some k)) count tree
    ∙ ap (λ (n : ℕ). unwrap_or (kept_so (as_fields (Some k)) tree) (begun (as_fields (Some k)) (holes n))) counts

-- a place that is begun isn't whole
pub never_begun : (tracker : Tracker) (tree : Tree) → IsWholeWith tracker tree → is_begun tree ≡ true → ⊥
never_begun tracker (whole v) h is = cc
never_begun tracker _ h is = h

-- what holds where there is an answer
pub on_ok : {A E : Type 0} {P Q : Type 0} → (result : Result A E) → (P → Q) → OnOk result P → OnOk result Q
on_ok (Ok done) follows holds = follows holds
on_ok (Err refused) follows holds = tt
