-- A place that gets one child more, and the item that is entered there.
use Rattle.std.proofs.Common.{◌≡◌, ℕ, ◌+◌, List, [], ◌∷◌, ◌++◌, Option, Some, None, option_map, refl, sym, ◌∙◌, ap}
use Rattle.fr_frame.specs.Common.{Body, Cell, Def, Err, FrameOwner, Heap, Node, NodeId, Ok, OnErr, OnOk, Result, Shows, Slot, Val, absent, cell_occurs, cells_occur, depth_below, false, given, held_by, links, placed, whole_body, with_entered, with_slot}
use Rattle.fr_frame.specs.declared.places.Growth.{Growth}
use Rattle.fr_values.specs.Cells.{held_value}
use Rattle.fr_frame.specs.Bodies.{fresh_body, taken_over}
use Rattle.fr_frame.specs.Growing.{grown, grown_above}
use Rattle.fr_frame.specs.Heap.{depth_above}
use Rattle.fr_frame.proofs.HeapLaws.{with_here}

-- A place above that gets more lies as deep as before.
pub grown_depth : (growth : Option Growth) (owner : FrameOwner) (heap : Heap) → depth_below (grown_above growth owner heap) owner ≡ depth_below heap owner
grown_depth None owner heap = refl
grown_depth (Some growth) FrameOwner.Root heap = refl
grown_depth (Some growth) (FrameOwner.Child parent i) heap = ap depth_above (with_here heap parent.0 _) ∙ go (heap parent.0)
  where
    go : (found : Option Node) → depth_above (option_map (λ (x : Node). record x { body = grown growth x.body }) found) ≡ depth_above found
    go (Some above) = refl
    go None = refl

-- what is put at the child's place, by what was held of it
pub taken_value : (def : Def) (found : Option Cell) (v : Val) → Some v ≡ held_value found → whole_body v ≡ taken_over def found
taken_value def (Some (given u)) v e = let same : v ≡ u = cc in ap whole_body same
taken_value def (Some absent) v e = cc
taken_value def (Some (placed m)) v e = cc
taken_value def None v e = cc

pub taken_fresh : (def : Def) (found : Option Cell) → None ≡ held_value found → fresh_body def ≡ taken_over def found
taken_fresh def (Some (given u)) e = cc
taken_fresh def (Some absent) e = refl
taken_fresh def (Some (placed m)) e = refl
taken_fresh def None e = refl

-- A place is put into a slot of which its owner knows.
pub entered_here : (def : Def) (heap mid : Heap) (node : NodeId) (owner : FrameOwner) (growth : Option Growth) (depth : ℕ) (body : Body) (id : ℕ)
    (after : List Slot) → mid ≡ links owner id (grown_above growth owner heap) → depth ≡ depth_below heap owner
    → body ≡ taken_over def (held_by (grown_above growth owner heap) owner)
    → Shows after (with_slot mid id (Some (record { node = node; owner = owner; stored = false; depth = depth; body = body })))
    → Shows after (with_entered def (grown_above growth owner heap) node owner id)
entered_here def heap mid node owner growth depth body id after linked deep held shown m =
    shown m
    ∙ ap (λ (now : Heap). with_slot now id (Some (record { node = node; owner = owner; stored = false; depth = depth; body = body })) m) linked
    ∙ ap (λ (d : ℕ). with_slot (links owner id (grown_above growth owner heap)) id
    (Some (record { node = node; owner = owner; stored = false; depth = d; body = body })) m) (deep ∙ sym (grown_depth growth owner heap))
    ∙ ap (λ (b : Body). with_slot (links owner id (grown_above growth owner heap)) id
    (Some (record { node = node; owner = owner; stored = false; depth = depth_below (grown_above growth owner heap) owner; body = b })) m) held

-- Tokens.

more_occur : (cs more : List Cell) (t : ℕ) → cells_occur more t ≡ 0 → cells_occur (cs ++ more) t ≡ cells_occur cs t
more_occur [] more t none = none
more_occur (c ∷ cs) more t none = ap (λ (n : ℕ). cell_occurs c t + n) (more_occur cs more t none)

-- children that aren't there come behind the others, or none do
pub pushed_occur : {X E : Type 0} (r : Result X E) (old more new : List Cell) (t : ℕ) → cells_occur more t ≡ 0 → OnOk r (new ≡ old ++ more)
    → OnErr r (new ≡ old) → cells_occur new t ≡ cells_occur old t
pushed_occur (Ok x) old more new t none added same = ap (λ (cs : List Cell). cells_occur cs t) added ∙ more_occur old more t none
pushed_occur (Err e) old more new t none added same = ap (λ (cs : List Cell). cells_occur cs t) same
