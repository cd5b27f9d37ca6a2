-- What a begun place gets where a child of it is entered.
use Rattle.std.specs.Prelude.{◌≡◌, ℕ, ◌+◌, ◌<◌, ◌^◌, true, Option, None, Some, IsSomeAnd}
use Rattle.fr_model.specs.DynamicPlaces.{entry_found}
use Rattle.fr_model.specs.Dynamics.{keys_apart}
use Rattle.fr_frame.specs.declared.places.Growth.{Growth}
use Rattle.fr_frame.specs.declared.places.ChildWay.{ChildWay}
use Rattle.fr_frame.specs.declared.places.FrameOwner.{FrameOwner}
use Rattle.fr_frame.specs.Heap.{Heap, Node, with_body}
use Rattle.fr_frame.specs.Bodies.{Body, added, added_entry, count_cells, entry_in, keys_in, with_entry_for, IsGrowing, IsMapBody, IsObjectBody}

-- the place with this behind the children that it has, and nothing there yet
abbrev pub grown : Growth → Body → Body
grown Growth.Item = added
grown Growth.Entry = added_entry
grown (Growth.EntryFor key) = with_entry_for key

-- it may get this
abbrev pub MayGrow : Growth → Body → Type 0
MayGrow Growth.Item body = IsGrowing body
MayGrow Growth.Entry body = IsMapBody body
MayGrow (Growth.EntryFor key) body = IsObjectBody body × (entry_found key (keys_in body) ≡ None)

-- where a place belongs, the place above has got this, if anything
abbrev pub grown_above : Option Growth → FrameOwner → Heap → Heap
grown_above None owner heap = heap
grown_above (Some growth) FrameOwner.Root heap = heap
grown_above (Some growth) (FrameOwner.Child parent i) heap = with_body heap parent.0 (grown growth)

-- the place above may get it, if anything; then the number of the child is that of the first that comes behind those that it has
abbrev pub MayGrowAbove : Option Growth → FrameOwner → Heap → Type 0
MayGrowAbove None owner heap = Unit {0}
MayGrowAbove (Some growth) FrameOwner.Root heap = ⊥
MayGrowAbove (Some growth) (FrameOwner.Child parent i) heap =
    IsSomeAnd (heap parent.0) (λ (above : Node). (i ≡ count_cells above.body) × MayGrow growth above.body)

-- it may be entered in this way: at a child of any number, which need not be there; at a new item, if it takes items; at a key, if it is a
-- map; at the value under a key, if it is a dynamic object, no key of which comes twice
abbrev pub MayEnter : ChildWay → Body → Type 0
MayEnter (ChildWay.Child i) body = Unit {0}
MayEnter ChildWay.Item body = IsGrowing body
MayEnter ChildWay.Key body = IsMapBody body
MayEnter (ChildWay.Entry key) body = IsObjectBody body × (keys_apart (keys_in body) ≡ true)

-- the place in this slot gets room for the child that is entered in this way
abbrev pub widened : ChildWay → (parent : ℕ) → Heap → Heap
widened (ChildWay.Child i) parent heap = heap
widened ChildWay.Item parent heap = with_body heap parent added
widened ChildWay.Key parent heap = with_body heap parent added_entry
widened (ChildWay.Entry key) parent heap = with_body heap parent (with_entry_for key.now)

-- the number of that child
abbrev pub number_by : ChildWay → Body → ℕ
number_by (ChildWay.Child i) body = i
number_by ChildWay.Item body = count_cells body
number_by ChildWay.Key body = count_cells body
number_by (ChildWay.Entry key) body = entry_in key.now body

-- an item, a key and an entry under a key don't have the number 4,294,967,295; of a child that is told by its number nothing is asked, nor of
-- the value that comes behind a key
abbrev pub IsNarrowBy : ChildWay → Body → Type 0
IsNarrowBy (ChildWay.Child i) body = Unit {0}
IsNarrowBy ChildWay.Item body = count_cells body + 1 < 2 ^ 32
IsNarrowBy ChildWay.Key body = count_cells body + 1 < 2 ^ 32
IsNarrowBy (ChildWay.Entry key) body = entry_in key.now body + 1 < 2 ^ 32
