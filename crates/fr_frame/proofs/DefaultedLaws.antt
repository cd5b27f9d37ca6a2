-- A place in a slot that has taken its fills by the rules of either column: what is left of it, and what that says of the place as it was.
use Rattle.std.proofs.Common.{◌≡◌, ◌⊎◌, ℕ, true, List, Option, Some, None, IsSomeAnd, refl, ◌∙◌, subst}
use Rattle.fr_frame.specs.Common.{Becomes, Body, FillColumn, FillsAt, HasAllChildren, IfInUse, IsCauseOf, IsChecked, IsPlanFor, IsPlanned, IsUnfilled, KeepsTracker, MayComplete, Meanings, Node, OnOk, Plan, ReflectErrorKind, Result, Slot, Table, WhyNot, WhyNotDefault, asked, column_of, defaulted, deferred_column, heap_of, invalid, first_hole_left, question_of, shape_of, strict_column, takes_template, unmet, Ok, Err}
use Rattle.fr_frame.proofs.HeapLaws.{with_here}
use Rattle.fr_frame.proofs.FillingHoles.{HasFilled, has_filled}
use Rattle.fr_frame.proofs.ChangedPlaces.{of_node}
use Rattle.fr_frame.proofs.WhyLaws.{all_there, filled_after, strictly_filled, why_invalid, why_left, why_unfilled, why_unmet}

pub on_ok_both : {X E : Type 0} {P Q R : Type 0} (r : Result X E) → (P → Q → R) → OnOk r P → OnOk r Q → OnOk r R
on_ok_both (Ok x) so p q = so p q
on_ok_both (Err kind) so p q = tt

both_so : (there : Option Node) (P Q R : Node → Type 0) → ((at : Node) → P at → Q at → R at) → IsSomeAnd there P
    → IsSomeAnd there Q → IsSomeAnd there R
both_so (Some at) P Q R so p q = so at p q
both_so None P Q R so p q = absurd p

module _ (means : Meanings) (table : Table) (plan : Plan) (checked : IsChecked table) where
  abbrev Fails : ReflectErrorKind → Node → Type 0
  Fails kind at = WhyNotDefault means table (shape_of plan at.node) at.body kind

  -- its fills fail

  module _ (slots : List Slot) (n : ℕ) (may : IfInUse slots n (MayComplete table plan)) (kind : ReflectErrorKind) where
    abbrev IsUnmet : Node → Type 0
    IsUnmet at = ((kind ≡ ReflectErrorKind.OutOfMemory) × (takes_template at.body ≡ true))
        ⊎ (unmet table (shape_of plan at.node) at.body ≡ Some kind)

    pub unmet_so : IfInUse slots n IsUnmet → IfInUse slots n (Fails kind)
    unmet_so =
        both_so (heap_of slots n) (MayComplete table plan) IsUnmet (Fails kind)
        (λ at is. why_unmet means table (shape_of plan at.node) at.body checked is.full is.closed is.unconverted kind) may

    pub unfilled_so : IfInUse slots n (λ at. IsUnfilled FillColumn.Strict means table (shape_of plan at.node) at.body kind)
        → IfInUse slots n (λ at. WhyNot means table (shape_of plan at.node) at.body kind)
    unfilled_so =
        both_so (heap_of slots n) (MayComplete table plan) (λ at. IsUnfilled FillColumn.Strict means table
        (shape_of plan at.node) at.body kind) (λ at. WhyNot means table (shape_of plan at.node) at.body kind)
        (λ at is. why_unfilled means table (shape_of plan at.node) at.body checked is.full is.closed is.unconverted kind) may

-- it has taken them

pub record HasTaken (column : FillColumn) (means : Meanings) (table : Table) (plan : Plan) (before after : List Slot) (n : ℕ) : Type 0 where
  pub at : Node
  pub was : heap_of before n ≡ Some at
  pub may : MayComplete table plan at
  pub met : asked (question_of column) means table (shape_of plan at.node) at.body ≡ None
  pub becomes : Becomes before after n at (defaulted (column_of column) table (shape_of plan at.node) at.body)

module _ (column : FillColumn) (means : Meanings) (table : Table) (plan : Plan) (before after : List Slot) (n : ℕ) where
  abbrev Takes : Node → Type 0
  Takes at = Becomes before after n at (defaulted (column_of column) table (shape_of plan at.node) at.body)

  abbrev IsMet : Node → Type 0
  IsMet at = asked (question_of column) means table (shape_of plan at.node) at.body ≡ None

  pub has_taken : IfInUse before n (MayComplete table plan) → IfInUse before n Takes → IfInUse before n IsMet
      → HasTaken column means table plan before after n
  has_taken = go (heap_of before n) refl
    where
      go : (there : Option Node) → heap_of before n ≡ there → IsSomeAnd there (MayComplete table plan) → IsSomeAnd there Takes
          → IsSomeAnd there IsMet → HasTaken column means table plan before after n
      go (Some at) was may takes met = record { at = at; was = was; may = may; met = met; becomes = takes }
      go None was may takes met = absurd may

module _ {column : FillColumn} {means : Meanings} {table : Table} {plan : Plan} {before after : List Slot} {n : ℕ} (checked : IsChecked table)
    (is : HasTaken column means table plan before after n) where
  abbrev s : ℕ
  s = shape_of plan is.at.node

  abbrev then : Body
  then = defaulted (column_of column) table s is.at.body

  abbrev at_then : Node
  at_then = record is.at { body = then }

  filled : HasFilled table s is.at.body then
  filled = has_filled (column_of column) table s checked is.at.body

  may_then : MayComplete table plan at_then
  may_then = record {
    planned = is.may.planned;
    full = filled.full is.may.full;
    closed = filled.closed is.may.closed;
    unconverted = filled.unconverted is.may.unconverted;
  }

  was_so : (P : Node → Type 0) → P is.at → IfInUse before n P
  was_so P so = of_node (heap_of before n) is.at P is.was so

  now : heap_of after n ≡ Some at_then
  now = is.becomes n ∙ with_here (heap_of before) n (Some at_then)

  now_so : (P : Node → Type 0) → P at_then → IfInUse after n P
  now_so P so = of_node (heap_of after n) at_then P now so

  of_now : (P : Node → Type 0) → IfInUse after n P → P at_then
  of_now P so = subst (λ (there : Option Node). IsSomeAnd there P) now so

  pub may_after : IfInUse after n (MayComplete table plan)
  may_after = now_so (MayComplete table plan) may_then

  pub planned_after : IsPlanFor table plan → IfInUse after n (λ at. IsPlanned plan at.node)
  planned_after planned =
      now_so (λ at. IsPlanned plan at.node)
      (record { table = table; checked = checked; planned = planned; inside = is.may.planned })

  pub tracker_so : IfInUse before n (λ (at : Node). IfInUse after n (λ (x : Node). KeepsTracker at.body x.body))
  tracker_so =
      was_so (λ (at : Node). IfInUse after n (λ (x : Node). KeepsTracker at.body x.body))
      (now_so (λ (x : Node). KeepsTracker is.at.body x.body) filled.keeps)

module _ {means : Meanings} {table : Table} {plan : Plan} {before after : List Slot} {n : ℕ} (checked : IsChecked table) where
  -- in strict mode it holds the value that it makes
  pub strictly_so : HasTaken FillColumn.Strict means table plan before after n
      → IfInUse before n (FillsAt strict_column means table plan before after n)
  strictly_so is = was_so checked is (FillsAt strict_column means table plan before after n) (record {
    body = then checked is;
    filled = strictly_filled means table (s checked is) is.at.body checked is.may.full is.may.closed is.may.unconverted is.met;
    becomes = is.becomes;
  })

  -- at the end of deferred mode it may still lack something
  module _ (is : HasTaken FillColumn.Deferred means table plan before after n) where
    pub left_so : (kind : ReflectErrorKind) → IfInUse after n (λ at. first_hole_left (shape_of plan at.node) at.body ≡ Some kind)
        → IfInUse before n (λ at. WhyNotDefault means table (shape_of plan at.node) at.body kind)
    left_so kind left =
        was_so checked is (λ x. WhyNotDefault means table (shape_of plan x.node) x.body kind)
        (why_left means table (s checked is) is.at.body checked is.may.full is.may.closed is.may.unconverted is.met kind
        (of_now checked is (λ x. first_hole_left (shape_of plan x.node) x.body ≡ Some kind) left))

    module _ (full : IfInUse after n (λ at. first_hole_left (shape_of plan at.node) at.body ≡ None)) where
      nothing_left : first_hole_left (s checked is) (then checked is) ≡ None
      nothing_left = of_now checked is (λ x. first_hole_left (shape_of plan x.node) x.body ≡ None) full

      pub there_so : IfInUse after n (λ at. HasAllChildren at.body)
      there_so = now_so checked is (λ x. HasAllChildren x.body) (all_there (s checked is) (then checked is) nothing_left)

      pub invalid_so : IsPlanFor table plan → (kind : ReflectErrorKind)
          → IfInUse after n (λ at. (t : Table) → IsChecked t → IsPlanFor t plan → MayComplete t plan at
          → IsCauseOf (invalid means t (shape_of plan at.node) at.body) kind)
          → IfInUse before n (λ at. WhyNotDefault means table (shape_of plan at.node) at.body kind)
      invalid_so planned kind failing =
          was_so checked is (λ x. WhyNotDefault means table (shape_of plan x.node) x.body kind)
          (why_invalid means table (s checked is) is.at.body checked is.may.full is.may.closed is.may.unconverted is.met nothing_left kind
          (of_now checked is (λ x. (t : Table) → IsChecked t → IsPlanFor t plan → MayComplete t plan x
          → IsCauseOf (invalid means t (shape_of plan x.node) x.body) kind) failing table checked planned (may_then checked is)))

      pub filled_so : IsPlanFor table plan
          → IfInUse after n (λ at. (t : Table) → IsChecked t → IsPlanFor t plan → MayComplete t plan at
          → invalid means t (shape_of plan at.node) at.body ≡ None)
          → IfInUse before n (FillsAt deferred_column means table plan before after n)
      filled_so planned passing = was_so checked is (FillsAt deferred_column means table plan before after n) (record {
        body = then checked is;
        filled =
            filled_after means table (s checked is) is.at.body checked is.may.full is.may.closed is.may.unconverted is.met nothing_left
            (of_now checked is (λ x. (t : Table) → IsChecked t → IsPlanFor t plan → MayComplete t plan x
            → invalid means t (shape_of plan x.node) x.body ≡ None) passing table checked planned (may_then checked is));
        becomes = is.becomes;
      })
