-- Setting a field to its default is three calls made as one, or refused where there is no default.
use Rattle.std.specs.Prelude.{◌≡◌, ◌↔◌}
use Rattle.fr_model.specs.Common.{ℕ, Some, None, Result, Ok, Err, Operation, ReflectErrorKind, Field, Meanings, Table, def_of, field_in, Val}
use Rattle.fr_model.specs.Basis.{Call, selected, Tree, State, cursor_shape, cursor_tree, IsInOrder}
use Rattle.fr_model.specs.Refusals.{at_shape, named_refusal, operation_failed}
use Rattle.fr_model.specs.Step.{field_default, step}

-- a command after another, unless that one was refused
abbrev pub and_step : Meanings → Table → (root : ℕ) → Result State ReflectErrorKind → Call → Result State ReflectErrorKind
and_step hooks table root (Ok state) command = step hooks table root state command
and_step hooks table root (Err kind) command = Err kind

-- field i is entered, set to a value of this shape, and left
abbrev pub three_calls : Meanings → Table → (root : ℕ) → State → (i shape : ℕ) → Val → Result State ReflectErrorKind
three_calls hooks table root state i shape v =
    and_step hooks table root
    (and_step hooks table root (step hooks table root state (Call.BeginNthField i)) (Call.Set shape v)) Call.End

-- both end with the same tree, at the same place and in the same mode, however many calls are counted; or with the same refusal
abbrev pub AreSameButCalls : Result State ReflectErrorKind → Result State ReflectErrorKind → Type 0
AreSameButCalls (Ok one) (Ok other) = (one.tree ≡ other.tree) × (one.cursor ≡ other.cursor) × (one.mode ≡ other.mode)
AreSameButCalls (Ok one) (Err kind) = ⊥
AreSameButCalls (Err kind) (Ok other) = ⊥
AreSameButCalls (Err kind) (Err other) = kind ≡ other

-- Why field i of a place of shape s can't be set to its default, by the first of these that is so: no field can be named there; it
-- has no such field; that field has no default.
pub data HasNoDefault (table : Table) (s : ℕ) (tree : Tree) (i : ℕ) (kind : ReflectErrorKind) : Type 0 where
  names_none : at_shape s (named_refusal (def_of table s) tree) ≡ Some kind → HasNoDefault table s tree i kind
  no_such_field : named_refusal (def_of table s) tree ≡ None → field_in (def_of table s) (selected tree) i ≡ None
      → kind ≡ operation_failed s Operation.FieldIndexOutOfBounds → HasNoDefault table s tree i kind
  no_default : (field : Field) → named_refusal (def_of table s) tree ≡ None
      → field_in (def_of table s) (selected tree) i ≡ Some field → field_default table field ≡ Err kind
      → HasNoDefault table s tree i kind

-- What `set_nth_field_to_default` is, as to field i of the place at the cursor. Where the field has a default to be set to, and the
-- state is in order, it is as entering the field, setting it to that, and leaving it. It is refused just where there is no default,
-- for the reason that there is none.
pub record SetsToDefault (hooks : Meanings) (table : Table) (root : ℕ) (state : State) (i : ℕ) : Type 0 where
  pub default : (field : Field) (v : Val) → IsInOrder table root state
      → field_in (def_of table (cursor_shape table root state)) (selected (cursor_tree state)) i ≡ Some field
      → field_default table field ≡ Ok v → AreSameButCalls (step hooks table root state (Call.SetNthFieldToDefault i))
      (three_calls hooks table root state i field.shape.0 v)
  pub none : (kind : ReflectErrorKind) → (step hooks table root state (Call.SetNthFieldToDefault i) ≡ Err kind)
      ↔ HasNoDefault table (cursor_shape table root state) (cursor_tree state) i kind

-- whatever the state and the field: where there is a default it is three calls (the state being in order), and where there is none the
-- call is refused
abbrev pub DefaultIsThreeCalls : Type 0
DefaultIsThreeCalls = (hooks : Meanings) (table : Table) (root : ℕ) (state : State) (i : ℕ) → SetsToDefault hooks table root state i
