-- What a place lacks and what it makes by the rules of either column, by what each of its children lacks and makes.
use Rattle.std.proofs.Common.{◌≡◌, ℕ, zero, suc, ◌<◌, Bool, false, not, List, [], ◌∷◌, length, map, replicate, Option, Some, None, IsSome, IfSome, slice_get, get_or, refl, sym, ◌∙◌, ap, subst, if◌then◌else◌}
use Rattle.std.proofs.lemmas.Bool.{or_parts}
use Rattle.std.proofs.lemmas.Option.{slice_get_read}
use Rattle.std.specs.List.{list_any}
use Rattle.fr_frame.specs.Common.{AreTold, AreUnplaced, Body, Cell, Column, Def, Field, FieldPlan, FieldRef, IsChecked, IsClosed, IsFilled, IsFull, IsFullAs, IsNamed, IsTold, Meanings, Plan, Question, ReflectErrorKind, Table, Tracker, Val, Vals, VariantDef, absent, as_fields, ask, ask_field, begun_body, child_count, complete, def_of, defaulted, defaulted_by, defaulted_cell, defaulted_cells, defaulted_struct, entered_body, failing_child, field_at, field_fill, field_in, field_of_variant, first_asked, first_refused, has_validators, hole_takes, is_conversion, is_conversion_body, lack_of_child, made, missing_child, missing_value, one_more, option_or, own_tree, part_of, preset_of, strict_column, trees_of, value_of, value_of_cell, values_of, whole_body}
use Rattle.std.specs.Option.{option_map_or}
use Rattle.fr_shape.specs.declared.shape.ScalarKind.{ScalarKind}
use Rattle.fr_shape.specs.declared.shape.ValidatorDef.{ValidatorDef}
use Rattle.fr_shape.specs.Lists.{is_nil}
use Rattle.fr_shape.specs.Validators.{passes, passes_at, message, kind_of}
use Rattle.fr_rules.specs.declared.validators.PrecomputedValidator.{PrecomputedValidator}
use Rattle.fr_rules.specs.Validators.{passes_held, validator_of}
use Rattle.fr_model.specs.Complete.{complete_all, made_by, made_of_fills, lack_by, failing_field, first_failing, valid_child, unless_failing, unless_there}
use Rattle.fr_model.specs.Places.{fill_at, each_child}
use Rattle.fr_model.specs.Tree.{begun}
use Rattle.fr_plan.specs.Fields.{has_validator}
use Rattle.fr_plan.specs.Plans.{precomputed, with_kind, kind_of as kind_in_plan}
use Rattle.fr_frame.specs.Filling.{IsToldAt, child_value}
use Rattle.fr_frame.proofs.AskLaws.{more_there}
use Rattle.fr_frame.proofs.BodyValues.{full_value}
use Rattle.fr_frame.proofs.FillingHoles.{all_alike, none_placed, value_then}
use Rattle.fr_frame.proofs.RulesOnChildren.{taken_plain}

-- What fails.

kinds_agree : (def : Def) → kind_in_plan def ≡ kind_of def
kinds_agree (Def.Scalar kind) = refl
kinds_agree def = refl

held_passes : (checks : ℕ → Val → Bool) (def : Def) (validator : ValidatorDef) (v : Val)
    → passes_held checks (with_kind (kind_in_plan def) validator) v ≡ passes_at checks def validator v
held_passes checks def (ValidatorDef.Custom hook) v = refl
held_passes checks def validator v = ap (λ (kind : ScalarKind). passes checks kind validator v) (kinds_agree def)

held_is : (kind : ScalarKind) (validator : ValidatorDef) → validator_of (with_kind kind validator) ≡ validator
held_is kind (ValidatorDef.Custom hook) = refl
held_is kind _ = refl

abbrev meant_field : ℕ → (selected : Option ℕ) → ℕ → FieldRef
meant_field s selected i = record { shape = record { 0 = s }; variant = selected; index = i }

refused_is : (means : Meanings) (def : Def) (s : ℕ) (selected : Option ℕ) (i : ℕ) (validators : List ValidatorDef) (v : Val)
    → first_refused means (meant_field s selected i) (map (precomputed (kind_in_plan def)) validators) v
    ≡ first_failing means def s selected i validators v
refused_is means def s selected i [] v = refl
refused_is means def s selected i (validator ∷ validators) v = λ j.
    if held_passes means.check def validator v j then refused_is means def s selected i validators v j
    else Some (ReflectErrorKind.ValidationFailed (meant_field s selected i) (message (held_is (kind_in_plan def) validator j) v))

-- Fields, as a plan tells them.

module _ {table : Table} {plan : Plan} {s : ℕ} {selected : Option ℕ} {i : ℕ} {told : FieldPlan} (is : IsTold table plan s selected i told) where
  pub names_field : IsNamed table told
  names_field = record {
    named = subst (λ (meant : FieldRef). IsSome (field_at table meant)) (sym is.meant) (subst IsSome (sym is.here) refl);
    fill = is.fill ∙ sym (ap (field_fill strict_column table) is.meant);
  }

  -- the same, of what it names itself
  pub told_itself : IsTold table plan told.field.shape.0 told.field.variant told.field.index told
  told_itself = subst (λ (meant : FieldRef). IsTold table plan meant.shape.0 meant.variant meant.index told) (sym is.meant) is

  pub its_fill : (column : Column) → field_fill column table told.field ≡ hole_takes column table s (as_fields selected) i
  its_fill column = ap (field_fill column table) is.meant

  pub its_lack : (question : Question) (means : Meanings) (own : Option Val)
      → ask_field question means table told.field own ≡ ask question means table s (as_fields selected) i own
  its_lack question means own = ap (λ (meant : FieldRef). ask_field question means table meant own) is.meant

  pub field_fails : (means : Meanings) (v : Val)
      → first_refused means told.field (part_of plan.lists.validators told.validators) v
      ≡ failing_child means table s (as_fields selected) i (Some v)
  field_fails means v =
      ap (λ (meant : FieldRef). first_refused means meant (part_of plan.lists.validators told.validators) v) is.meant
      ∙ ap (λ (validators : List PrecomputedValidator). first_refused means (meant_field s selected i) validators v) is.validators.names
      ∙ refused_is means (def_of table is.field.shape.0) s selected i is.field.validators v
      ∙ ap (λ (field : Option Field). failing_field means table s selected i field (Some v)) (sym is.here)

  -- where the field has this value it lacks what fails
  pub field_lacks : (means : Meanings) (own : Option Val) (v : Val)
      → child_value strict_column table s (as_fields selected) i own ≡ Some v
      → first_refused means told.field (part_of plan.lists.validators told.validators) v
      ≡ lack_of_child strict_column means table s (as_fields selected) i own
  field_lacks means own v e =
      field_fails means v ∙ ap (λ (value : Option Val).
      option_or (unless_there value (missing_child s (as_fields selected) i)) (failing_child means table s (as_fields selected) i value))
      (sym e)

pub told_here : {table : Table} {plan : Plan} {s : ℕ} {selected : Option ℕ} {told : List FieldPlan}
    → AreTold table plan s selected told
    → (i : ℕ) (one : FieldPlan) → i < length told → one ≡ get_or told i one → IsTold table plan s selected i one
told_here {table} {plan} {s} {selected} {told} are i one h e =
    subst (IsToldAt table plan s selected i) (slice_get_read told (length told) i one refl h e) (are.each i)

-- Fields without validators.

nil_not : {X : Type 0} (xs : List X) → not (is_nil xs) ≡ false → xs ≡ []
nil_not [] h = refl
nil_not (x ∷ xs) h = absurd (cc)

none_in : (fields : List Field) (i : ℕ) → list_any has_validator fields ≡ false
    → IfSome (slice_get fields i) (λ field. has_validator field ≡ false)
none_in [] i h = tt
none_in (field ∷ fields) zero h = (or_parts (has_validator field) (list_any has_validator fields) h).0
none_in (field ∷ fields) (suc i) h = none_in fields i (or_parts (has_validator field) (list_any has_validator fields) h).1

unvalidated : (def : Def) (selected : Option ℕ) (i : ℕ) → has_validators def selected ≡ false
    → IfSome (field_in def selected i) (λ field. has_validator field ≡ false)
unvalidated (Def.Struct struct) None i h = none_in struct.fields i h
unvalidated (Def.Enum enumeration) (Some k) i h = go (slice_get enumeration.variants k) h
  where
    go : (found : Option VariantDef)
        → list_any has_validator (option_map_or (λ (variant : VariantDef). variant.fields) found []) ≡ false
        → IfSome (field_of_variant found i) (λ field. has_validator field ≡ false)
    go (Some variant) h = none_in variant.fields i h
    go None h = tt
unvalidated _ selected i h = tt

module _ (means : Meanings) (table : Table) (s : ℕ) (selected : Option ℕ) (none : has_validators (def_of table s) selected ≡ false) where
  pub passes_all : (i : ℕ) (v : Val) → failing_child means table s (as_fields selected) i (Some v) ≡ None
  passes_all i v = go (field_in (def_of table s) selected i) (unvalidated (def_of table s) selected i none)
    where
      go : (found : Option Field) → IfSome found (λ field. has_validator field ≡ false)
          → failing_field means table s selected i found (Some v) ≡ None
      go None h = refl
      go (Some field) h =
          ap (λ (validators : List ValidatorDef). first_failing means (def_of table field.shape.0) s selected i validators v)
          (nil_not field.validators h)

-- What is made: what is held, where nothing is lacking, and else nothing.
abbrev Makes : {X : Type 0} (lacking : Option ReflectErrorKind) (made_up held : Option X) → Type 0
Makes None made_up held = (made_up ≡ held) × IsSome held
Makes (Some kind) made_up held = made_up ≡ None

one_makes : (kind : ReflectErrorKind) (value : Option Val) (failing : Option ReflectErrorKind)
    → Makes (option_or (unless_there value kind) failing) (unless_failing failing value) value
one_makes kind (Some v) (Some cause) = refl
one_makes kind (Some v) None = (refl, refl)
one_makes kind None (Some cause) = refl
one_makes kind None None = refl

more_make : (a b : Option ReflectErrorKind) (x held : Option Val) (xs all : Option Vals) → Makes a x held → Makes b xs all
    → Makes (option_or a b) (one_more x xs) (one_more held all)
more_make (Some kind) b x held xs all one more = ap (λ (v : Option Val). one_more v xs) one
more_make None (Some kind) (Some v) held xs all one more = ap (one_more (Some v)) more
more_make None (Some kind) None held xs all one more = refl
more_make None None x held xs all one more = (λ j. one_more (one.0 j) (more.0 j), more_there held all one.1 more.1)

made_make : (tracker : Tracker) (lacking : Option ReflectErrorKind) (xs all : Option Vals) → Makes lacking xs all
    → Makes lacking (made tracker xs) (made tracker all)
made_make tracker (Some kind) xs all makes = ap (made tracker) makes
made_make tracker None xs (Some vs) makes = (ap (made tracker) makes.0, refl)
made_make tracker None xs None makes = absurd (cc)

module _ (column : Column) (means : Meanings) (table : Table) (s : ℕ) (tracker : Tracker) where
  abbrev pub lacks : ℕ → Option Val → Option ReflectErrorKind
  lacks i own = lack_of_child column means table s tracker i own

  abbrev value : ℕ → Cell → Option Val
  value i c = child_value column table s tracker i (value_of_cell c)

  abbrev values : ℕ → List Cell → Option Vals
  values i cs = complete_all column means table s tracker i (trees_of cs)

  -- the value of a child, where it doesn't fail
  abbrev valid_value : ℕ → Cell → Option Val
  valid_value i c = unless_failing (failing_child means table s tracker i (value i c)) (value i c)

  made_step : (i : ℕ) (c : Cell) (cs : List Cell)
      → values i (c ∷ cs) ≡ one_more (valid_child means table s tracker i (value i c)) (values (suc i) cs)
  made_step i absent cs = refl
  made_step i _ cs = refl

  module _ (plain : is_conversion tracker ≡ false) where
    made_plain : (i : ℕ) (c : Cell) (cs : List Cell) → values i (c ∷ cs) ≡ one_more (valid_value i c) (values (suc i) cs)
    made_plain i c cs =
        made_step i c cs
        ∙ ap (λ (taken : Option Val). one_more (unless_failing (failing_child means table s tracker i (value i c)) taken) (values (suc i) cs))
        (taken_plain table s means tracker plain (value i c))

    -- children make what they hold with their fills
    children_make : (i : ℕ) (cs : List Cell) → AreUnplaced cs
        → Makes (first_asked lacks i cs) (values i cs) (values_of (defaulted_cells column table s tracker i cs))
    children_make i [] closed = (refl, refl)
    children_make i (c ∷ cs) closed =
        let rest : List Cell = defaulted_cells column table s tracker (suc i) cs in
        let held : Option Val = value_of_cell (defaulted_cell (hole_takes column table s tracker i) c) in
        let valid : Option Val = valid_value i c in
        subst (λ (made_up : Option Vals). Makes (first_asked lacks i (c ∷ cs)) made_up (one_more held (values_of rest)))
        (sym (made_plain i c cs))
        (more_make (lacks i (value_of_cell c)) (first_asked lacks (suc i) cs) valid held (values (suc i) cs) (values_of rest)
        (subst (Makes (lacks i (value_of_cell c)) valid) (sym (value_then column table s tracker i c closed.0))
        (one_makes (missing_child s tracker i) (value i c) (failing_child means table s tracker i (value i c))))
        (children_make (suc i) cs closed.1))

-- Places.

module _ (column : Column) (means : Meanings) (table : Table) (s : ℕ) where
  abbrev no_fields : List Cell
  no_fields = replicate (child_count table s) absent

  -- what its children lack, or its own value
  abbrev pub lacking : Body → Option ReflectErrorKind
  lacking entered_body =
      lack_by (def_of table s) (preset_of table s) (first_asked (lacks column means table s (as_fields None)) 0 no_fields) (missing_value s)
  lacking (whole_body v) = None
  lacking (begun_body tracker cells) = first_asked (lacks column means table s tracker) 0 cells

  no_children_made : (count i : ℕ)
      → complete_all column means table s (as_fields None) i (trees_of (replicate count absent))
      ≡ each_child (λ k. valid_child means table s (as_fields None) k (fill_at column table s k)) count i
  no_children_made zero i = refl
  no_children_made (suc count) i =
      ap (one_more (valid_child means table s (as_fields None) i (fill_at column table s i))) (no_children_made count (suc i))

  begun_makes : (tracker : Tracker) (cells : List Cell) → is_conversion tracker ≡ false → AreUnplaced cells
      → Makes (first_asked (lacks column means table s tracker) 0 cells)
      (made tracker (complete_all column means table s tracker 0 (trees_of cells)))
      (made tracker (values_of (defaulted_cells column table s tracker 0 cells)))
  begun_makes tracker cells plain closed =
      made_make tracker (first_asked (lacks column means table s tracker) 0 cells)
      (complete_all column means table s tracker 0 (trees_of cells)) (values_of (defaulted_cells column table s tracker 0 cells))
      (children_make column means table s tracker plain 0 cells closed)

  entered_makes : (def : Def) (preset : Option Val)
      → Makes (lack_by def preset (first_asked (lacks column means table s (as_fields None)) 0 no_fields) (missing_value s))
      (made_by def preset (made_of_fills column means table s)) (value_of
      (defaulted_by def preset (defaulted_struct column table s)))
  entered_makes (Def.Struct struct) (Some v) = (refl, refl)
  entered_makes (Def.Struct struct) None =
      subst (λ (vs : Option Vals). Makes (first_asked (lacks column means table s (as_fields None)) 0 no_fields)
      (made (as_fields None) vs) (value_of (defaulted_struct column table s)))
      (no_children_made (child_count table s) 0) (begun_makes (as_fields None) no_fields refl (none_placed (child_count table s)))
  entered_makes (Def.Option t) (Some v) = (refl, refl)
  entered_makes (Def.Option t) None = refl
  entered_makes _ preset = refl

  module _ (checked : IsChecked table) where
    body_makes : (body : Body) → IsFull table s body → IsClosed body → is_conversion_body body ≡ false
        → Makes (lacking body) (complete column means table s (own_tree body)) (value_of (defaulted column table s body))
    body_makes entered_body full closed plain = entered_makes (def_of table s) (preset_of table s)
    body_makes (whole_body v) full closed plain = (refl, refl)
    body_makes (begun_body tracker cells) full closed plain =
        let after : List Cell = defaulted_cells column table s tracker 0 cells in
        subst (Makes (first_asked (lacks column means table s tracker) 0 cells)
        (complete column means table s (begun tracker (trees_of cells)))) (sym (full_value (def_of table s) tracker after
        (subst (IsFullAs (def_of table s) tracker) (sym (all_alike column table s tracker checked 0 cells).count) full) plain))
        (begun_makes tracker cells plain closed)

    module _ (body : Body) (full : IsFull table s body) (closed : IsClosed body) (plain : is_conversion_body body ≡ false) where
      abbrev makes_this : Option ReflectErrorKind → Type 0
      makes_this cause = Makes cause (complete column means table s (own_tree body)) (value_of (defaulted column table s body))

      -- a place that lacks something makes nothing
      pub body_nothing : (kind : ReflectErrorKind) → lacking body ≡ Some kind
          → complete column means table s (own_tree body) ≡ None
      body_nothing kind h = subst makes_this h (body_makes body full closed plain)

      -- and one that lacks nothing makes what it holds with its fills
      pub is_filled : lacking body ≡ None → IsFilled column means table s body (defaulted column table s body)
      is_filled h = go (value_of (defaulted column table s body)) refl (subst makes_this h (body_makes body full closed plain))
        where
          go : (held : Option Val) → value_of (defaulted column table s body) ≡ held
              → (complete column means table s (own_tree body) ≡ held) × IsSome held
              → IsFilled column means table s body (defaulted column table s body)
          go None e makes = absurd (cc)
          go (Some v) e makes = record { value = v; meant = makes.0; held = e }
