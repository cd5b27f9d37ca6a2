-- The children of a begun place, as contracts see them.
use Rattle.std.specs.Prelude.{◌≡◌, ℕ, zero, suc, ◌+◌, ◌<◌, ◌≤◌, Bool, true, false, ◌||◌, if◌then◌else◌, List, [], ◌∷◌, ◌++◌, slice_get, Option, Some, None, refl}
use Rattle.std.specs.Coded.{Coded, code_by}
use Rattle.std.specs.FinSet as set
use Rattle.std.specs.Option.{option_and_then}
use Rattle.fr_arena.specs.BitSets.{BitSet}
use Rattle.fr_shape.specs.declared.value.Value.{Value}
use Rattle.fr_shape.specs.Code.{val_code}
use Rattle.fr_shape.specs.Val.{Val, Vals, no_vals, first, unit, bool, char, int, nat, text, token, product, variant, none, some, ok, err, list_of, map_of, set_of, ptr, dyn}
use Rattle.fr_shape.specs.Same.{same}
use Rattle.fr_shape.specs.View.{view}
use Rattle.fr_model.specs.Places.{one_more}
use Rattle.fr_shape.specs.Tokens.{occurs}

-- a child: not there; there with its value; or in a slot of its own, of this number
pub data Cell : Type 0 where
  absent : Cell
  given : Val → Cell
  placed : (slot : ℕ) → Cell

-- what stands for a child without a value of its own: a token has the number of its slot
abbrev pub in_slot : Val → Cell
in_slot (token n) = placed n
in_slot unit = absent
in_slot (bool b) = absent
in_slot (char c) = absent
in_slot (int i) = absent
in_slot (nat n) = absent
in_slot (text codes) = absent
in_slot (product vs) = absent
in_slot (variant index vs) = absent
in_slot none = absent
in_slot (some v) = absent
in_slot (ok v) = absent
in_slot (err v) = absent
in_slot (list_of vs) = absent
in_slot (map_of es) = absent
in_slot (set_of vs) = absent
in_slot (ptr v) = absent
in_slot (dyn value) = absent

abbrev pub cell : (is_given : Bool) → Val → Cell
cell true v = given v
cell false v = in_slot v

-- the children from number i on, of which those in the set have their values
abbrev pub cells_of : BitSet → ℕ → List Value → List Cell
cells_of set_of_given i [] = []
cells_of set_of_given i (v ∷ vs) = cell (set.contains set_of_given.members i) (view v) ∷ cells_of set_of_given (suc i) vs

-- the numbers of so many children are in the set, which has room for them
pub record HasNumbers (count : ℕ) (bits : BitSet) : Type 0 where
  pub all : (i : ℕ) → i < count → set.contains bits.members i ≡ true
  pub room : count ≤ bits.capacity

-- how often a token stands in a child's value
abbrev pub cell_occurs : Cell → ℕ → ℕ
cell_occurs absent t = 0
cell_occurs (given v) t = occurs v t
cell_occurs (placed n) t = 0

abbrev pub cells_occur : List Cell → ℕ → ℕ
cells_occur [] t = 0
cells_occur (c ∷ cs) t = cell_occurs c t + cells_occur cs t

-- the child of this number and the next one have changed places
abbrev pub swapped : ℕ → List Cell → List Cell
swapped i [] = []
swapped zero (c ∷ []) = c ∷ []
swapped zero (c ∷ d ∷ cs) = d ∷ c ∷ cs
swapped (suc i) (c ∷ cs) = c ∷ swapped i cs

-- a child is stored as a value that gives it back
abbrev pub stored : Cell → Val
stored absent = unit
stored (given v) = some v
stored (placed n) = token n

abbrev pub restored : Val → Cell
restored unit = absent
restored (some v) = given v
restored (token n) = placed n
restored (bool b) = absent
restored (char c) = absent
restored (int i) = absent
restored (text codes) = absent
restored (nat n) = absent
restored (product vs) = absent
restored (variant index vs) = absent
restored none = absent
restored (ok v) = absent
restored (err v) = absent
restored (list_of vs) = absent
restored (map_of es) = absent
restored (set_of vs) = absent
restored (ptr v) = absent
restored (dyn value) = absent

abbrev pub comes_back : (c : Cell) → restored (stored c) ≡ c
comes_back absent = refl
comes_back (given v) = refl
comes_back (placed n) = refl

abbrev pub cell_code : Coded Cell
cell_code = code_by Val val_code stored restored comes_back

-- a child's value, where it is there
abbrev pub value_of_cell : Cell → Option Val
value_of_cell absent = None
value_of_cell (given v) = Some v
value_of_cell (placed n) = None

-- its slot, where it is in one
abbrev pub slot_of_cell : Cell → Option ℕ
slot_of_cell absent = None
slot_of_cell (given v) = None
slot_of_cell (placed n) = Some n

abbrev pub value_at : List Cell → ℕ → Option Val
value_at cells i = option_and_then value_of_cell (slice_get cells i)

abbrev pub slot_in_cells : List Cell → ℕ → Option ℕ
slot_in_cells cells i = option_and_then slot_of_cell (slice_get cells i)

-- the values of all children, where each is there
abbrev pub values_of : List Cell → Option Vals
values_of [] = Some no_vals
values_of (c ∷ cs) = one_more (value_of_cell c) (values_of cs)

-- the value of a child that is looked up, where it is there
abbrev pub held_value : Option Cell → Option Val
held_value found = option_and_then value_of_cell found

abbrev pub value_occurs : Option Val → ℕ → ℕ
value_occurs (Some v) t = occurs v t
value_occurs None t = 0

-- the children that are all there with these values
abbrev pub cells_of_vals : Vals → List Cell
cells_of_vals no_vals = []
cells_of_vals (first v vs) = given v ∷ cells_of_vals vs

-- Items of a set.

-- the child is there, with a value that is `same` as this one
abbrev pub is_same_cell : Val → Cell → Bool
is_same_cell v absent = false
is_same_cell v (given u) = same u v
is_same_cell v (placed n) = false

abbrev pub has_same_cell : Val → List Cell → Bool
has_same_cell v [] = false
has_same_cell v (c ∷ cs) = is_same_cell v c || has_same_cell v cs

-- the children but the one of this number
abbrev pub without_cell : ℕ → List Cell → List Cell
without_cell i [] = []
without_cell zero (c ∷ cs) = cs
without_cell (suc i) (c ∷ cs) = c ∷ without_cell i cs

-- a value comes behind the children that are there, unless it is `same` as one of theirs
abbrev pub and_item_cell : List Cell → Val → List Cell
and_item_cell cells v = if has_same_cell v cells then cells else cells ++ given v ∷ []
