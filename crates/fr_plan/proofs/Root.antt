-- The root's node is one of its plan.
use Rattle.std.proofs.Common.{◌≡◌, subst, ℕ, zero, suc, ◌<◌, List, length, replicate, slice_get, Option, Some, None, Ok, Err, arith}
use Rattle.std.proofs.lemmas.List.{length_push}
use Rattle.fr_shape.specs.declared.error.AllocError.{AllocError}
use Rattle.fr_shape.specs.declared.shape.Shape.{Shape}
use Rattle.fr_shape.specs.declared.shape.ShapeId.{ShapeId}
use Rattle.fr_shape.specs.Look.{Table}
use Rattle.fr_shape.specs.Plannable.{own_refusal, own_sources, refusal_of}
use Rattle.fr_plan.specs.declared.nodes.NodeId.{NodeId}
use Rattle.fr_plan.specs.declared.outlines.Mark.{Mark}
use Rattle.fr_plan.specs.declared.outlines.Outline.{Outline}
use Rattle.fr_plan.specs.declared.outlines.Walk.{Walk}
use Rattle.fr_plan.specs.Build.{Built, Made, MadeAll, and_then, unless, none_yet, with_shape_mark, with_node, back_reference, each_built, children_built, finish, build_new, build_by, start_of, planned}

-- the node is one of the walk's
abbrev pub IsInside : Built Made → Type 0
IsInside (Ok made) = made.node.0 < length made.walk.nodes
IsInside (Err refused) = Unit {0}

with_node_inside : (walk : Walk) (outline : Outline) → IsInside (Ok (with_node walk outline))
with_node_inside walk outline = omega (arith, length_push walk.nodes outline)

unless_inside : (refused : Option AllocError) (made : Made) → IsInside (Ok made) → IsInside (unless refused made)
unless_inside None made inside = inside
unless_inside (Some refused) made inside = tt

and_then_inside : {X : Type 0} (built : Built X) (go_on : X → Built Made) → ((x : X) → IsInside (go_on x))
    → IsInside (and_then built go_on)
and_then_inside (Ok x) go_on inside = inside x
and_then_inside (Err refused) go_on inside = tt

finish_inside : (id : ShapeId) (shape : Shape) (sources : List NodeId) (children : MadeAll)
    → IsInside (finish id shape sources children)
unfolding finish
finish_inside id shape sources children =
    unless_inside (own_refusal id.0 (refusal_of shape)) _ (with_node_inside children.walk _)

new_inside : (builds : Walk → ShapeId → Built Made) (walk : Walk) (id : ShapeId) (found : Option Shape)
    → IsInside (build_new builds walk id found)
unfolding build_new
new_inside builds walk id None = with_node_inside walk (back_reference id)
new_inside builds walk id (Some shape) =
    and_then_inside (each_built builds (none_yet (with_shape_mark walk id Mark.Building)) (own_sources shape)) _ (λ sources.
    and_then_inside (children_built builds sources.walk id shape.def shape) _ (λ children.
    finish_inside id shape sources.nodes children))

-- no shape is finished at the start
IsUnfinished : Option Mark → Type 0
IsUnfinished (Some (Mark.Done node)) = ⊥
IsUnfinished (Some Mark.Unseen) = Unit {0}
IsUnfinished (Some Mark.Building) = Unit {0}
IsUnfinished None = Unit {0}

unfinished_at_start : (n i : ℕ) → IsUnfinished (slice_get (replicate n Mark.Unseen) i)
unfolding IsUnfinished
unfinished_at_start zero i = tt
unfinished_at_start (suc n) zero = tt
unfinished_at_start (suc n) (suc i) = unfinished_at_start n i

by_inside : (mark : Option Mark) (fresh : Walk → ShapeId → Built Made) (walk : Walk) (id : ShapeId) → IsUnfinished mark
    → ((at : Walk) (next : ShapeId) → IsInside (fresh at next)) → IsInside (build_by mark fresh walk id)
unfolding IsUnfinished
by_inside (Some (Mark.Done node)) fresh walk id unfinished inside = absurd unfinished
by_inside (Some Mark.Unseen) fresh walk id unfinished inside = inside walk id
by_inside (Some Mark.Building) fresh walk id unfinished inside = with_node_inside walk (back_reference id)
by_inside None fresh walk id unfinished inside = with_node_inside walk (back_reference id)

planned_inside : (table : Table) (id : ShapeId) → IsInside (planned table id)
planned_inside table id =
    by_inside (slice_get (replicate (length table) Mark.Unseen) id.0) _ (start_of table) id
    (unfinished_at_start (length table) id.0)
    (λ at next. new_inside _ at next (slice_get table next.0))

-- the root's number is below the number of nodes
pub root_inside : (table : Table) (id : ShapeId) (made : Made) → planned table id ≡ Ok made
    → made.node.0 < length made.walk.nodes
root_inside table id made built = subst IsInside built (planned_inside table id)
