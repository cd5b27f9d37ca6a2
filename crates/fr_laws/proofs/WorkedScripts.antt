-- Worked scripts over two small tables, by the machine and by the journal.
use Rattle.std.proofs.Common.{rules, ◌≡◌, ◌∷◌}
use Rattle.fr_model.proofs.Common.{plain_shape, plain_field, ℕ, true, List, [], None, Some, Ok, codes, Def, ScalarKind, PlanFault, ReflectErrorKind, Operation, Invariant, no_hooks, Table, fits, Val, nat, text, token, product, no_vals, first, PathStep, Call, journal_run, full_run, whole, strict, removed}
use Rattle.fr_laws.specs.ContentExamples.{id, refused, struct_of}

-- to write tables and scripts

abbrev pub pair_of : Val → Val → Val
pair_of v w = product (first v (first w no_vals))

abbrev pub set : ℕ → Val → Call
set s v = Call.Set s v

abbrev pub begin : ℕ → Call
begin i = Call.BeginNthField i

abbrev pub end : Call
end = Call.End

abbrev pub field_at : ℕ → PathStep
field_at i = PathStep.Field i

-- the kinds of refusals, written out here, so that the definitions of the calls are tried against them

abbrev pub lacks_field : ℕ → ℕ → ReflectErrorKind
lacks_field s i = ReflectErrorKind.UninitializedField (record { shape = id s; variant = None; index = i })

abbrev pub lacks_value : ℕ → ReflectErrorKind
lacks_value s = ReflectErrorKind.UninitializedValue (id s)

abbrev pub failed : ℕ → Operation → ReflectErrorKind
failed s operation = ReflectErrorKind.OperationFailed (id s) operation

abbrev pub violated : Invariant → ReflectErrorKind
violated invariant = ReflectErrorKind.InvariantViolation invariant

-- a script makes this value, by the machine and by the journal
abbrev pub Makes : Table → ℕ → List Call → Val → Type 0
Makes table root script v = (full_run no_hooks table root script ≡ Ok v) × (journal_run table root script ≡ Some v)

-- a struct in a struct

abbrev nested : Table
nested =
    plain_shape (codes "u32") (Def.Scalar ScalarKind.U32)
    ∷ plain_shape (codes "String") (Def.Scalar ScalarKind.String)
    ∷ plain_shape (codes "Inner") (struct_of (plain_field (codes "x") 0 ∷ plain_field (codes "b") 0 ∷ []))
    ∷ plain_shape (codes "Outer") (struct_of (plain_field (codes "name") 1 ∷ plain_field (codes "inner") 2 ∷ []))
    ∷ []

abbrev whole_script : List Call
whole_script =
    begin 0 ∷ set 1 (text (codes "hi")) ∷ end ∷ begin 1 ∷ begin 0 ∷ set 0 (nat 42) ∷ end ∷ begin 1 ∷ set 0 (nat 43) ∷ end
    ∷ end ∷ []

abbrev whole_value : Val
whole_value = pair_of (text (codes "hi")) (pair_of (nat 42) (nat 43))

-- structs of opaque values

abbrev opaque : Table
opaque =
    plain_shape (codes "Res") Def.Opaque
    ∷ plain_shape (codes "u32") (Def.Scalar ScalarKind.U32)
    ∷ plain_shape (codes "Cell") (struct_of (plain_field (codes "a") 0 ∷ plain_field (codes "k") 1 ∷ []))
    ∷ plain_shape (codes "Pair") (struct_of (plain_field (codes "p") 2 ∷ plain_field (codes "q") 2 ∷ []))
    ∷ []

-- built away from the root, where the first field is complete and the second was never entered
abbrev left_open : List Call
left_open = begin 0 ∷ begin 0 ∷ set 0 (token 0) ∷ end ∷ begin 1 ∷ set 1 (nat 5) ∷ end ∷ []

abbrev cell : ℕ → ℕ → Val
cell t n = pair_of (token t) (nat n)

-- a whole struct is entered anew, and the other field stays
abbrev entered_anew : List Call
entered_anew = set 3 (pair_of (cell 0 1) (cell 1 2)) ∷ begin 0 ∷ set 2 (cell 2 3) ∷ end ∷ []

-- roots that have no builder

abbrev unplanned : Table
unplanned =
    plain_shape (codes "str") Def.Str
    ∷ plain_shape (codes "Other") Def.Other
    ∷ plain_shape (codes "Bad") (struct_of (plain_field (codes "a") 0 ∷ plain_field (codes "b") 1 ∷ []))
    ∷ plain_shape (codes "Others") (Def.Slice (id 1))
    ∷ []

abbrev no_plan : ℕ → PlanFault → ReflectErrorKind
no_plan s fault = ReflectErrorKind.Alloc (record { shape = id s; operation = fault })

-- what the machine and the journal make of scripts, computed from the definitions
record ModelRows : Type 0 where
  builds : Makes nested 3 whole_script whole_value
  -- what is refused, at which command and why

  nothing_put_in : full_run no_hooks nested 3 [] ≡ refused 0 (lacks_field 3 0) []
  no_value : full_run no_hooks nested 0 [] ≡ refused 0 (lacks_value 0) []
  first_field_missing : full_run no_hooks nested 3 (begin 1 ∷ end ∷ []) ≡ refused 1 (lacks_field 2 0) (field_at 1 ∷ [])
  -- the first hole, not the field that was entered last
  second_field_missing :
      full_run no_hooks nested 3 (begin 1 ∷ begin 0 ∷ set 0 (nat 42) ∷ end ∷ end ∷ []) ≡ refused 4 (lacks_field 2 1) (field_at 1 ∷ [])
  end_at_the_root : full_run no_hooks nested 3 (end ∷ []) ≡ refused 0 (violated Invariant.EndAtRoot) []
  wrong_shape :
      full_run no_hooks nested 3 (begin 0 ∷ set 0 (nat 42) ∷ []) ≡ refused 1 (ReflectErrorKind.WrongShape (id 1) (id 0)) (field_at 0 ∷ [])
  no_fields :
      full_run no_hooks nested 3 (begin 1 ∷ begin 1 ∷ begin 1 ∷ []) ≡ refused 2 (failed 0 Operation.FieldOfOther) (field_at 1 ∷ field_at 1 ∷ [])
  no_third_field : full_run no_hooks nested 3 (begin 2 ∷ []) ≡ refused 0 (failed 3 Operation.FieldIndexOutOfBounds) []
  none_by_journal : journal_run nested 3 [] ≡ None
  none_without_second_field : journal_run nested 3 (begin 1 ∷ begin 0 ∷ set 0 (nat 42) ∷ end ∷ end ∷ []) ≡ None
  none_of_wrong_shape : journal_run nested 3 (begin 0 ∷ set 0 (nat 42) ∷ []) ≡ None
  machine_refuses_open : full_run no_hooks opaque 3 left_open ≡ refused 7 (violated Invariant.BuildOpenFrames) (field_at 0 ∷ [])
  journal_refuses_open : journal_run opaque 3 left_open ≡ None
  -- a second value takes the first one's place
  keeps_second : Makes opaque 2 (set 2 (cell 0 1) ∷ set 2 (cell 1 2) ∷ []) (cell 1 2)
  -- and the first one's token is dropped
  second_drops_first :
      removed no_hooks opaque 2 (record { tree = whole (cell 0 1); cursor = []; mode = strict; calls = 1 }) (set 2 (cell 1 2)) 0 ≡ 1
  cell_fits : fits opaque 2 (cell 0 1) ≡ true
  enters_anew : Makes opaque 3 entered_anew (pair_of (cell 2 3) (cell 1 2))
  -- a shape that can't be planned is refused before any command, and the refusal names it
  unsupported_field : full_run no_hooks unplanned 2 (begin 5 ∷ []) ≡ refused 0 (no_plan 1 PlanFault.Unsupported) []
  unsized_root : full_run no_hooks unplanned 0 [] ≡ refused 0 (no_plan 0 PlanFault.NotSized) []
  -- an unsized root's own refusal comes last
  unsupported_in_unsized : full_run no_hooks unplanned 3 [] ≡ refused 0 (no_plan 1 PlanFault.Unsupported) []

model_rows : ModelRows
model_rows = search rules
