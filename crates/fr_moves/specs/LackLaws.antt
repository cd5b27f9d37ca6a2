-- What a place lacks is a field or a value, or what it has fails a validator or isn't converted: that it makes no value is never for want
-- of memory.
use Rattle.std.proofs.Common.{◌≡◌, ℕ, zero, suc, Bool, true, false, if◌then◌else◌, List, [], ◌∷◌, Option, Some, None, IsSome, inl, inr, refl, sym, ◌∙◌, ap}
use Rattle.fr_moves.specs.Common.{Def, Field, Meanings, ReflectErrorKind, Table, Tracker, Tree, Trees, Val, WhyNot, as_fields, begun, branch, child_as, complete, def_of, entered, field_in, hole, no_trees, option_or, preset_of, strict_column, takes_no_memory, whole, ContentKind, as_content}
use Rattle.fr_model.specs.Complete.{lack, lack_among, lack_of_hole, lack_of_holes, lack_of_entered, lack_by, unless_there, missing_child, missing_value, hole_takes, failing_child, failing_field, first_failing, invalid_field}
use Rattle.fr_model.specs.Places.{child_count}
use Rattle.fr_model.specs.Step.{cause}
use Rattle.fr_shape.specs.Validators.{passes_at, message}
use Rattle.fr_shape.specs.declared.shape.ValidatorDef.{ValidatorDef}
use Rattle.fr_frame.specs.Completing.{IsOfValidator}
use Rattle.fr_model.specs.Conversions.{refusal_through}
use Rattle.fr_model.specs.Trackers.{Through}
use Rattle.fr_shape.specs.Hooks.{Meaning, gives, refuses, unsupported}

-- a field or a value is lacking, a field's value fails a validator, or a source isn't converted
abbrev is_lack : ReflectErrorKind → Bool
is_lack (ReflectErrorKind.UninitializedField field) = true
is_lack (ReflectErrorKind.UninitializedValue shape) = true
is_lack (ReflectErrorKind.ValidationFailed field text) = true
is_lack (ReflectErrorKind.CustomDeserializationError message source target) = true
is_lack (ReflectErrorKind.TryFromError source target fault) = true
is_lack _ = false

abbrev AreLacks : Option ReflectErrorKind → Type 0
AreLacks lacking = (kind : ReflectErrorKind) → lacking ≡ Some kind → is_lack kind ≡ true

nothing_missing : AreLacks None
nothing_missing kind e = cc

some_missing : (kind : ReflectErrorKind) → is_lack kind ≡ true → AreLacks (Some kind)
some_missing kind h other e =
    let same : kind ≡ other = cc in
    ap is_lack (sym same) ∙ h

either_missing : (a b : Option ReflectErrorKind) → AreLacks a → AreLacks b → AreLacks (option_or a b)
either_missing (Some kind) b first second = first
either_missing None b first second = second

child_missing : (s : ℕ) (tracker : Tracker) (i : ℕ) → is_lack (missing_child s tracker i) ≡ true
child_missing s (as_fields None) i = refl
child_missing s _ i = refl

value_missing : (s : ℕ) → is_lack (missing_value s) ≡ true
value_missing s = refl

there_missing : (value : Option Val) (kind : ReflectErrorKind) → is_lack kind ≡ true → AreLacks (unless_there value kind)
there_missing (Some v) kind h = nothing_missing
there_missing None kind h = some_missing kind h

refused_missing : (through : Through) (source target : ℕ) (meaning : Meaning) → AreLacks (refusal_through through source target meaning)
refused_missing through source target (gives v) = nothing_missing
refused_missing Through.Proxy source target (refuses message) = some_missing _ refl
refused_missing Through.Proxy source target unsupported = some_missing _ refl
refused_missing Through.Wrapper source target (refuses message) = some_missing _ refl
refused_missing Through.Wrapper source target unsupported = some_missing _ refl

module _ (hooks : Meanings) (table : Table) where
  first_missing : (def : Def) (s : ℕ) (selected : Option ℕ) (i : ℕ) (validators : List ValidatorDef) (v : Val)
      → AreLacks (first_failing hooks def s selected i validators v)
  first_missing def s selected i [] v = nothing_missing
  first_missing def s selected i (validator ∷ validators) v =
      by_test (passes_at hooks.check def validator v) (first_missing def s selected i validators v)
    where
      by_test : (passes : Bool) → AreLacks (first_failing hooks def s selected i validators v)
          → AreLacks (if passes then first_failing hooks def s selected i validators v else Some (invalid_field s selected i (message validator v)))
      by_test true others = others
      by_test false others = some_missing (invalid_field s selected i (message validator v)) refl

  failing_missing : (s : ℕ) (tracker : Tracker) (i : ℕ) (value : Option Val) → AreLacks (failing_child hooks table s tracker i value)
  failing_missing s (as_fields selected) i value = by_field (field_in (def_of table s) selected i) value
    where
      by_field : (found : Option Field) (value : Option Val) → AreLacks (failing_field hooks table s selected i found value)
      by_field (Some field) (Some v) = first_missing (def_of table field.shape.0) s selected i field.validators v
      by_field (Some field) None = nothing_missing
      by_field None value = nothing_missing
  failing_missing s (as_content (ContentKind.Source conversion)) i (Some v) =
      refused_missing conversion.through conversion.source s (hooks.convert table conversion.hook s v)
  failing_missing s (as_content (ContentKind.Source conversion)) i None = nothing_missing
  failing_missing s _ i value = nothing_missing

  hole_missing : (s : ℕ) (tracker : Tracker) (i : ℕ) → AreLacks (lack_of_hole hooks table s tracker i)
  hole_missing s tracker i =
      either_missing (unless_there (hole_takes strict_column table s tracker i) (missing_child s tracker i))
      (failing_child hooks table s tracker i (hole_takes strict_column table s tracker i))
      (there_missing (hole_takes strict_column table s tracker i) (missing_child s tracker i) (child_missing s tracker i))
      (failing_missing s tracker i (hole_takes strict_column table s tracker i))

  holes_missing : (s : ℕ) (tracker : Tracker) (count i : ℕ) → AreLacks (lack_of_holes hooks table s tracker count i)
  holes_missing s tracker zero i = nothing_missing
  holes_missing s tracker (suc count) i =
      either_missing (lack_of_hole hooks table s tracker i) (lack_of_holes hooks table s tracker count (suc i))
      (hole_missing s tracker i) (holes_missing s tracker count (suc i))

  entered_missing : (s : ℕ) → AreLacks (lack_of_entered hooks table s)
  entered_missing s =
      go (def_of table s) (preset_of table s) (lack_of_holes hooks table s (as_fields None) (child_count table s) 0)
      (holes_missing s (as_fields None) (child_count table s) 0)
    where
      go : (def : Def) (preset : Option Val) (of_holes : Option ReflectErrorKind) → AreLacks of_holes
          → AreLacks (lack_by def preset of_holes (missing_value s))
      go (Def.Struct struct) (Some v) of_holes holes = nothing_missing
      go (Def.Struct struct) None of_holes holes = holes
      go (Def.Option t) preset of_holes holes = there_missing preset (missing_value s) (value_missing s)
      go _ preset of_holes holes = some_missing (missing_value s) (value_missing s)

  mutual
    lack_missing : (s : ℕ) (t : Tree) → AreLacks (lack hooks table s t)
    lack_missing s hole = some_missing (missing_value s) (value_missing s)
    lack_missing s entered = entered_missing s
    lack_missing s (whole v) = nothing_missing
    lack_missing s (begun tracker ts) = among_missing s tracker 0 ts

    among_missing : (s : ℕ) (tracker : Tracker) (i : ℕ) (ts : Trees) → AreLacks (lack_among hooks table s tracker i ts)
    among_missing s tracker i no_trees = nothing_missing
    among_missing s tracker i (branch hole ts) =
        either_missing (lack_of_hole hooks table s tracker i) (lack_among hooks table s tracker (suc i) ts)
        (hole_missing s tracker i) (among_missing s tracker (suc i) ts)
    among_missing s tracker i (branch entered ts) =
        either_missing _ _ (lack_missing (child_as table s tracker i) entered)
        (either_missing _ _ (failing_missing s tracker i _) (among_missing s tracker (suc i) ts))
    among_missing s tracker i (branch (whole v) ts) =
        either_missing _ _ (lack_missing (child_as table s tracker i) (whole v))
        (either_missing _ _ (failing_missing s tracker i _) (among_missing s tracker (suc i) ts))
    among_missing s tracker i (branch (begun made us) ts) =
        either_missing _ _ (lack_missing (child_as table s tracker i) (begun made us))
        (either_missing _ _ (failing_missing s tracker i _) (among_missing s tracker (suc i) ts))

  cause_missing : (s : ℕ) (t : Tree) → is_lack (cause hooks table s t) ≡ true
  cause_missing s t = go (lack hooks table s t) refl
    where
      go : (lacking : Option ReflectErrorKind) → lack hooks table s t ≡ lacking → is_lack (cause hooks table s t) ≡ true
      go (Some kind) e = rw e (lack_missing s t kind e)
      go None e = rw e (value_missing s)

  -- so its cause is
  pub lacks_named : (s : ℕ) (t : Tree) → cause hooks table s t ≡ ReflectErrorKind.OutOfMemory → ⊥
  lacks_named s t out = let no : true ≡ false = sym (cause_missing s t) ∙ ap is_lack out in cc

  -- where a place isn't completed since there is no memory, and fails no validator, it makes a value and takes a template
  pub only_wants : (s : ℕ) (t : Tree) (kind : ReflectErrorKind) → WhyNot hooks table s t kind → kind ≡ ReflectErrorKind.OutOfMemory
      → (complete strict_column hooks table s t ≡ None → IsOfValidator (cause hooks table s t) → ⊥)
      → IsSome (complete strict_column hooks table s t) × (takes_no_memory t ≡ false)
  only_wants s t kind (inl lacking) memory passes =
      let no : true ≡ false = sym (cause_missing s t) ∙ ap is_lack (sym lacking.lacks ∙ memory) in
      cc
  only_wants s t kind (inr wants) memory passes =
      elim wants.needed [
        | inl made ↦ made
        | inr said ↦ absurd (passes said.0 said.1)
      ]
