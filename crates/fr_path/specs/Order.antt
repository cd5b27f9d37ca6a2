-- The order in which steps and paths are walked, and what makes them equal.
use Rattle.std.specs.Prelude.{ℕ, Bool, List, [], length}
use Rattle.std.specs.declared.cmp.Ordering.{Ordering}
use Rattle.std.specs.Ordering.{nat_cmp, on, then_cmp, flip_args, eq_by_cmp}
use Rattle.std.specs.Cmp.Lexicographic.{slice_cmp}
use Rattle.fr_path.specs.declared.path_steps.PathStep.{PathStep}

-- the place of a step's variant among the variants
abbrev pub rank : PathStep → ℕ
rank (PathStep.Field i) = 0
rank (PathStep.Index i) = 1
rank PathStep.Deref = 2
rank PathStep.Inner = 3
rank PathStep.OptionSome = 4
rank PathStep.Proxy = 5
rank (PathStep.MapKey i) = 6
rank (PathStep.MapValue i) = 7
rank PathStep.ResultOk = 8
rank PathStep.ResultErr = 9
rank PathStep.SetItem = 10
rank (PathStep.Entry key) = 11

-- a step's number; 0 where it has none
abbrev pub number : PathStep → ℕ
number (PathStep.Field i) = i
number (PathStep.Index i) = i
number (PathStep.MapKey i) = i
number (PathStep.MapValue i) = i
number PathStep.Deref = 0
number PathStep.Inner = 0
number PathStep.OptionSome = 0
number PathStep.Proxy = 0
number PathStep.ResultOk = 0
number PathStep.ResultErr = 0
number PathStep.SetItem = 0
number (PathStep.Entry key) = 0

-- the bytes of a step's key; none where it has no key
abbrev pub key : PathStep → List ℕ
key (PathStep.Entry text) = text
key (PathStep.Field i) = []
key (PathStep.Index i) = []
key PathStep.Deref = []
key PathStep.Inner = []
key PathStep.OptionSome = []
key PathStep.Proxy = []
key (PathStep.MapKey i) = []
key (PathStep.MapValue i) = []
key PathStep.ResultOk = []
key PathStep.ResultErr = []
key PathStep.SetItem = []

-- two steps: of different variants as these are declared, of one variant by their numbers, and at last by the bytes of
-- their keys
abbrev pub step_order : PathStep → PathStep → Ordering
step_order = then_cmp (on rank nat_cmp) (then_cmp (on number nat_cmp) (on key (slice_cmp nat_cmp)))

-- the longer path first; paths of equal length step by step
abbrev pub walk_order : List PathStep → List PathStep → Ordering
walk_order = then_cmp (flip_args (on (λ (path : List PathStep). length path) nat_cmp)) (slice_cmp step_order)

-- neither of two steps is before the other
abbrev pub step_eq : PathStep → PathStep → Bool
step_eq = eq_by_cmp step_order

-- neither of two paths is before the other
abbrev pub path_eq : List PathStep → List PathStep → Bool
path_eq = eq_by_cmp walk_order
