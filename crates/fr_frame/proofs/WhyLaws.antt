-- Why a place isn't completed, and what it lacks, by the rules of either column.
use Rattle.std.proofs.Common.{◌≡◌, ◌⊎◌, ℕ, suc, Bool, true, false, List, [], ◌∷◌, replicate, Option, Some, None, IsSome, IsSomeAnd, inl, inr, refl, sym, ◌∙◌, ap, subst}
use Rattle.fr_frame.specs.Common.{AreUnplaced, Body, Cell, Def, Field, FillColumn, HasAllChildren, IsCauseOf, IsChecked, IsClosed, IsFilled, IsFull, IsUnfilled, Meanings, ReflectErrorKind, Table, Tracker, Trees, Val, WhyNot, WhyNotDefault, absent, as_fields, begun_body, child_count, complete, def_of, defaulted, defaulted_by, defaulted_cells, defaulted_struct, deferred_column, entered_body, failing_child, field_in, fill_of_field, first_asked, first_hole_left, first_invalid, first_unmet, hole_takes, holes, invalid, is_conversion_body, is_some, lack, missing_child, missing_value, option_or, own_tree, preset_of, strict_column, takes_template, trees_of, unmet, unmet_child, unmet_mark, value_of_cell, whole_body}
use Rattle.fr_shape.specs.Fills.{DeferredRule, filled, marked_without_default, missing, deferred_rule, by_deferred_rule}
use Rattle.fr_model.specs.Complete.{lack_by, unless_there}
use Rattle.fr_model.specs.Failing.{first_missing, lack_of_begun, own_lack, unmet_by, unmet_mark_of}
use Rattle.fr_model.specs.Step.{or_missing}
use Rattle.fr_frame.specs.Completing.{IsOfValidator}
use Rattle.fr_frame.specs.Defaults.{unmet_entered}
use Rattle.fr_frame.proofs.AskLaws.{fails, first_none, holes_are, holes_lack, invalid_is, lack_is, misses, missing_is, passing_there, unmet_is}
use Rattle.fr_frame.proofs.FillingHoles.{asked_then, none_placed, not_some}
use Rattle.fr_frame.proofs.LacksByChildren.{body_nothing, is_filled, lacking, lacks}

-- a field that is marked to take a default that there isn't takes nothing
unmet_takes : (table : Table) (s : ℕ) (tracker : Tracker) (i : ℕ) (kind : ReflectErrorKind) → unmet_mark table s tracker i ≡ Some kind
    → hole_takes deferred_column table s tracker i ≡ None
unmet_takes table s (as_fields selected) i kind e = at (is_some selected) (field_in (def_of table s) selected i) e
  where
    by_rule : (field : Field) (rule : DeferredRule) → unmet_by field rule ≡ Some kind → by_deferred_rule table field rule ≡ None
    by_rule field (filled template) e = absurd (cc)
    by_rule field marked_without_default e = refl
    by_rule field missing e = refl

    at : (of_variant : Bool) (found : Option Field) → unmet_mark_of table s found ≡ Some kind
        → fill_of_field deferred_column table s of_variant found ≡ None
    at of_variant (Some field) e = by_rule field (deferred_rule table s field) e
    at of_variant None e = refl
unmet_takes table s _ i kind e = refl

-- Whether something is lacking.

abbrev Asks : Type 0
Asks = ℕ → Option Val → Option ReflectErrorKind

or_same : (a x y : Option ReflectErrorKind) → is_some x ≡ is_some y → is_some (option_or a x) ≡ is_some (option_or a y)
or_same (Some kind) x y e = refl
or_same None x y e = e

-- two questions, one after the other, or both of each child
asked_or : (f g : Asks) (i : ℕ) (cs : List Cell) → is_some (option_or (first_asked f i cs) (first_asked g i cs))
    ≡ is_some (first_asked (λ k own. option_or (f k own) (g k own)) i cs)
asked_or f g i [] = refl
asked_or f g i (c ∷ cs) =
    go (f i (value_of_cell c)) (first_asked f (suc i) cs) (g i (value_of_cell c)) (first_asked g (suc i) cs)
    (first_asked (λ k own. option_or (f k own) (g k own)) (suc i) cs) (asked_or f g (suc i) cs)
  where
    go : (a more b others both : Option ReflectErrorKind) → is_some (option_or more others) ≡ is_some both
        → is_some (option_or (option_or a more) (option_or b others)) ≡ is_some (option_or (option_or a b) both)
    go (Some kind) more b others both e = refl
    go None (Some kind) (Some other) others both e = refl
    go None None (Some other) others both e = refl
    go None more None others both e = e

-- two questions that find something at the same children
asked_some : (f g : Asks) → ((i : ℕ) (own : Option Val) → is_some (f i own) ≡ is_some (g i own)) → (i : ℕ) (cs : List Cell)
    → is_some (first_asked f i cs) ≡ is_some (first_asked g i cs)
asked_some f g so i [] = refl
asked_some f g so i (c ∷ cs) = go (f i (value_of_cell c)) (g i (value_of_cell c)) (so i (value_of_cell c))
    (asked_some f g so (suc i) cs)
  where
    go : (a b : Option ReflectErrorKind) → is_some a ≡ is_some b
        → is_some (first_asked f (suc i) cs) ≡ is_some (first_asked g (suc i) cs)
        → is_some (option_or a (first_asked f (suc i) cs)) ≡ is_some (option_or b (first_asked g (suc i) cs))
    go (Some kind) (Some other) e more = refl
    go None None e more = more
    go _ _ e more = absurd (cc)

-- Children, by the rules of deferred mode.

module _ (means : Meanings) (table : Table) (s : ℕ) (tracker : Tracker) where
  abbrev lacks_then : Asks
  lacks_then i own = lacks deferred_column means table s tracker i own

  abbrev begun_lacks : Trees → Option ReflectErrorKind
  begun_lacks children = lack_of_begun means table s tracker children

  marked_lacks : (i : ℕ) (own : Option Val)
      → is_some (option_or (unmet_child table s tracker i own) (lacks_then i own)) ≡ is_some (lacks_then i own)
  marked_lacks i (Some v) = refl
  marked_lacks i None = go (unmet_mark table s tracker i) refl
    where
      go : (found : Option ReflectErrorKind) → unmet_mark table s tracker i ≡ found
          → is_some (option_or found (lacks_then i None)) ≡ is_some (lacks_then i None)
      go None e = refl
      go (Some kind) e = sym (ap (λ (fill : Option Val).
          is_some (option_or (unless_there fill (missing_child s tracker i)) (failing_child means table s tracker i fill)))
          (unmet_takes table s tracker i kind e))

  -- they lack something just where one of them does
  begun_some : (cs : List Cell) → is_some (begun_lacks (trees_of cs)) ≡ is_some (first_asked lacks_then 0 cs)
  begun_some cs =
      (λ j. is_some (option_or (unmet_is means table s tracker 0 cs j)
      (option_or (missing_is means table s tracker 0 cs j) (invalid_is means table s tracker 0 cs j))))
      ∙ or_same (first_asked (unmet_child table s tracker) 0 cs)
      (option_or (first_asked (misses means table s tracker) 0 cs) (first_asked (fails means table s tracker) 0 cs))
      (first_asked lacks_then 0 cs) (asked_or (misses means table s tracker) (fails means table s tracker) 0 cs)
      ∙ asked_or (unmet_child table s tracker) lacks_then 0 cs
      ∙ asked_some (λ k own. option_or (unmet_child table s tracker k own) (lacks_then k own)) lacks_then marked_lacks 0 cs

  -- what they lack, told of the children that have taken their fills

  twice : (own fill : Option Val) → option_or (option_or own fill) fill ≡ option_or own fill
  twice (Some v) fill = refl
  twice None (Some w) = refl
  twice None None = refl

  begun_lacks_is : (cs : List Cell) → AreUnplaced cs → begun_lacks (trees_of cs)
      ≡ option_or (first_unmet table s tracker 0 (trees_of cs))
      (option_or (first_hole_left s (begun_body tracker (defaulted_cells deferred_column table s tracker 0 cs)))
      (invalid means table s (begun_body tracker (defaulted_cells deferred_column table s tracker 0 cs))))
  begun_lacks_is cs closed =
      let then : List Cell = defaulted_cells deferred_column table s tracker 0 cs in
      let absent_then : first_missing table s tracker 0 (trees_of cs) ≡ first_hole_left s (begun_body tracker then)
      = missing_is means table s tracker 0 cs
      ∙ sym (asked_then deferred_column table s tracker (λ k own. unless_there own (missing_child s tracker k)) 0 cs closed) in
      let invalid_then : first_invalid means table s tracker 0 (trees_of cs) ≡ first_invalid means table s tracker 0 (trees_of then)
      = invalid_is means table s tracker 0 cs
      ∙ sym (invalid_is means table s tracker 0 then ∙ asked_then deferred_column table s tracker (fails means table s tracker) 0 cs closed
      ∙ (λ j. first_asked (λ k own. failing_child means table s tracker k
      (twice own (hole_takes deferred_column table s tracker k) j)) 0 cs)) in
      λ j. option_or (first_unmet table s tracker 0 (trees_of cs)) (option_or (absent_then j) (invalid_then j))

-- Places.

module _ (means : Meanings) (table : Table) (s : ℕ) where
  abbrev no_fields : List Cell
  no_fields = replicate (child_count table s) absent

  strict_lacks : (body : Body) → lack means table s (own_tree body) ≡ lacking strict_column means table s body
  strict_lacks entered_body =
      ap (λ (o : Option ReflectErrorKind). lack_by (def_of table s) (preset_of table s) o (missing_value s))
      (holes_lack means table s (as_fields None) (child_count table s) 0)
  strict_lacks (whole_body v) = refl
  strict_lacks (begun_body tracker cells) = lack_is means table s tracker 0 cells

  by_def : (def : Def) (preset : Option Val) (x y : Option ReflectErrorKind) → is_some x ≡ is_some y
      → is_some (lack_by def preset x (missing_value s)) ≡ is_some (lack_by def preset y (missing_value s))
  by_def (Def.Struct struct) (Some v) x y e = refl
  by_def (Def.Struct struct) None x y e = e
  by_def _ preset x y e = refl

  -- at the end of deferred mode a place lacks something just where it makes nothing
  own_some : (body : Body) → is_some (own_lack means table s (own_tree body))
      ≡ is_some (lacking deferred_column means table s body)
  own_some entered_body =
      by_def (def_of table s) (preset_of table s) (lack_of_begun means table s (as_fields None) (holes (child_count table s)))
      (first_asked (lacks deferred_column means table s (as_fields None)) 0 no_fields)
      (subst (λ (ts : Trees). is_some (lack_of_begun means table s (as_fields None) ts)
      ≡ is_some (first_asked (lacks deferred_column means table s (as_fields None)) 0 no_fields))
      (holes_are (child_count table s)) (begun_some means table s (as_fields None) no_fields))
  own_some (whole_body v) = refl
  own_some (begun_body tracker cells) = begun_some means table s tracker cells

  by_def_lack : (def : Def) (preset : Option Val)
      → lack_by def preset (lack_of_begun means table s (as_fields None) (holes (child_count table s))) (missing_value s)
      ≡ option_or (unmet_entered def preset (first_unmet table s (as_fields None) 0 (holes (child_count table s))))
      (option_or (first_hole_left s (defaulted_by def preset (defaulted_struct deferred_column table s)))
      (invalid means table s (defaulted_by def preset (defaulted_struct deferred_column table s))))
  by_def_lack (Def.Struct struct) (Some v) = refl
  by_def_lack (Def.Struct struct) None =
      subst (λ (ts : Trees). lack_of_begun means table s (as_fields None) ts
      ≡ option_or (first_unmet table s (as_fields None) 0 ts)
      (option_or (first_hole_left s (defaulted_struct deferred_column table s)) (invalid means table s (defaulted_struct deferred_column table s))))
      (holes_are (child_count table s)) (begun_lacks_is means table s (as_fields None) no_fields
      (none_placed (child_count table s)))
  by_def_lack (Def.Option t) (Some v) = refl
  by_def_lack (Def.Option t) None = refl
  by_def_lack _ preset = refl

  -- what it lacks is what isn't met, then what its fills leave out, then what is invalid with them
  own_lack_is : (body : Body) → IsClosed body → own_lack means table s (own_tree body) ≡ option_or (unmet table s body)
      (option_or (first_hole_left s (defaulted deferred_column table s body))
      (invalid means table s (defaulted deferred_column table s body)))
  own_lack_is entered_body closed = by_def_lack (def_of table s) (preset_of table s)
  own_lack_is (whole_body v) closed = refl
  own_lack_is (begun_body tracker cells) closed = begun_lacks_is means table s tracker cells closed

-- a place that leaves nothing out has all its children
pub all_there : (s : ℕ) (body : Body) → first_hole_left s body ≡ None → HasAllChildren body
all_there s (begun_body tracker cells) h = passing_there (λ k own. unless_there own (missing_child s tracker k)) own_there 0 cells h
  where
    own_there : (i : ℕ) (own : Option Val) → unless_there own (missing_child s tracker i) ≡ None → IsSome own
    own_there i (Some v) e = refl
    own_there i None e = absurd (cc)
all_there s _ h = tt

module _ (means : Meanings) (table : Table) (s : ℕ) (body : Body) (checked : IsChecked table) (full : IsFull table s body)
    (closed : IsClosed body) (plain : is_conversion_body body ≡ false) where
  -- One place, by the rules of deferred mode.

  abbrev then : Body
  then = defaulted deferred_column table s body

  abbrev lacking_then : Option ReflectErrorKind
  lacking_then = own_lack means table s (own_tree body)

  lacks_this : (kind : ReflectErrorKind) → lacking_then ≡ Some kind → WhyNotDefault means table s body kind
  lacks_this kind e =
      inl (record {
        incomplete = go (lacking deferred_column means table s body) refl
            (sym (own_some means table s body) ∙ ap is_some e);
        lacks = e;
      })
    where
      go : (found : Option ReflectErrorKind) → lacking deferred_column means table s body ≡ found → is_some found ≡ true
          → complete deferred_column means table s (own_tree body) ≡ None
      go None is some = absurd (cc)
      go (Some told) is some = body_nothing deferred_column means table s checked body full closed plain told is

  pub why_unmet : (kind : ReflectErrorKind)
      → ((kind ≡ ReflectErrorKind.OutOfMemory) × (takes_template body ≡ true)) ⊎ (unmet table s body ≡ Some kind)
      → WhyNotDefault means table s body kind
  why_unmet kind (inl h) = inr (record { memory = h.0; needed = inl h.1 })
  why_unmet kind (inr e) =
      lacks_this kind (own_lack_is means table s body closed
      ∙ ap (λ (o : Option ReflectErrorKind). option_or o (option_or (first_hole_left s then) (invalid means table s then))) e)

  module _ (met : unmet table s body ≡ None) where
    lacks_left : lacking_then ≡ option_or (first_hole_left s then) (invalid means table s then)
    lacks_left = own_lack_is means table s body closed ∙ first_none met

    pub why_left : (kind : ReflectErrorKind) → first_hole_left s then ≡ Some kind → WhyNotDefault means table s body kind
    why_left kind e = lacks_this kind (lacks_left ∙ ap (λ (o : Option ReflectErrorKind). option_or o (invalid means table s then)) e)

    module _ (there : first_hole_left s then ≡ None) where
      lacks_invalid : lacking_then ≡ invalid means table s then
      lacks_invalid = lacks_left ∙ first_none there

      pub why_invalid : (kind : ReflectErrorKind) → IsCauseOf (invalid means table s then) kind → WhyNotDefault means table s body kind
      why_invalid kind (inl e) = lacks_this kind (lacks_invalid ∙ e)
      why_invalid kind (inr h) =
          inr (record {
            memory = h.0;
            needed = inr (subst (λ (o : Option ReflectErrorKind). IsSomeAnd o IsOfValidator) (sym lacks_invalid) h.1);
          })

      pub filled_after : invalid means table s then ≡ None → IsFilled deferred_column means table s body then
      filled_after valid =
          is_filled deferred_column means table s checked body full closed plain
          (not_some (lacking deferred_column means table s body) (sym (own_some means table s body)
          ∙ ap is_some (lacks_invalid ∙ valid)))

  -- One place, in strict mode.

  pub strictly_filled : lack means table s (own_tree body) ≡ None
      → IsFilled strict_column means table s body (defaulted strict_column table s body)
  strictly_filled nothing =
      is_filled strict_column means table s checked body full closed plain (sym (strict_lacks means table s body) ∙ nothing)

  makes_nothing : (kind : ReflectErrorKind) → lack means table s (own_tree body) ≡ Some kind
      → complete strict_column means table s (own_tree body) ≡ None
  makes_nothing kind e =
      body_nothing strict_column means table s checked body full closed plain kind (sym (strict_lacks means table s body) ∙ e)

  why_lacking : (kind : ReflectErrorKind) → IsCauseOf (lack means table s (own_tree body)) kind → WhyNot means table s body kind
  why_lacking kind (inl e) = inl (record { incomplete = makes_nothing kind e; lacks = sym (ap (or_missing s) e) })
  why_lacking kind (inr h) = go (lack means table s (own_tree body)) refl h.1
    where
      go : (found : Option ReflectErrorKind) → lack means table s (own_tree body) ≡ found → IsSomeAnd found IsOfValidator
          → WhyNot means table s body kind
      go None e some = absurd some
      go (Some told) e some = inr (record {
        memory = h.0;
        needed = inr (makes_nothing told e, subst IsOfValidator (sym (ap (or_missing s) e)) some);
      })

  pub why_unfilled : (kind : ReflectErrorKind) → IsUnfilled FillColumn.Strict means table s body kind → WhyNot means table s body kind
  why_unfilled kind (inl h) = inr (record { memory = h.0; needed = inl (subst IsSome (sym (strictly_filled h.1).meant) refl, h.2) })
  why_unfilled kind (inr cause) = why_lacking kind cause
