-- Laws of places of a plan, for proofs: the shape of its node, and that a place without children in slots may be completed.
use Rattle.std.proofs.Common.{◌≡◌, ℕ, zero, suc, ◌<◌, false, List, [], ◌∷◌, length, slice_get, Option, Some, option_map, unwrap_or, refl, sym, ◌∙◌, ap, subst, arith}
use Rattle.fr_store.specs.Below.{Body, Cell, IsChecked, IsClosed, IsFull, IsFullAs, IsPlanFor, Kid, LookupPathsAgree, LookupsAgree, MayComplete, Node, NodeId, NodesAreReached, Place, Plan, ReachedHaveNodes, Suits, Table, Tree, TypePlanNode, begun_body, count_trees, def_of, entered_body, is_conversion_body, own_tree, shape_in, shape_of, tree_at, tree_of, trees_of, whole_body}
use Rattle.fr_store.specs.ShapeLaws.{IsOfShape, Along, along_root, root_shaped}
use Rattle.fr_store.specs.Suited.{IsSuited}
use Rattle.fr_store.specs.Turns.{root_shape}
use Rattle.fr_store.specs.Ways.{Reaches, node_along}

pub shape_found : {plan : Plan} {node : NodeId} {s : ℕ} → IsOfShape plan node s → shape_of plan node ≡ s
shape_found is =
    ap (λ (found : Option TypePlanNode). (unwrap_or (option_map (λ (x : TypePlanNode). x.shape) found) (record { 0 = 0 })).0)
    is.there ∙ is.shape

pub is_there : {A : Type 0} (xs : List A) (i : ℕ) {x : A} → slice_get xs i ≡ Some x → i < length xs
is_there [] i e = cc
is_there (y ∷ ys) zero e = omega arith
is_there (y ∷ ys) (suc i) {x} e = let rest = is_there ys i e in omega arith

pub count_of : (cells : List Cell) → count_trees (trees_of cells) ≡ length cells
count_of [] = refl
count_of (c ∷ cells) = ap suc (count_of cells)

-- one that suits its shape has all its children
full_by : (table : Table) (s : ℕ) (body : Body) → Suits table s (own_tree body) → IsFull table s body
full_by table s entered_body suits = tt
full_by table s (whole_body v) suits = tt
full_by table s (begun_body tracker cells) suits =
    subst (λ (count : ℕ). IsFullAs (def_of table s) tracker count) (count_of cells) suits.0.0

-- the plan's node of a place that is reached has the shape that the table has there, which the tree there suits
pub along_open : LookupsAgree → LookupPathsAgree → NodesAreReached → ReachedHaveNodes → {table : Table} {plan : Plan}
    → IsChecked table → IsPlanFor table plan → (k : Kid) → IsSuited table (root_shape plan) (tree_of k) → (place : Place)
    → Reaches place k → Along table plan (node_along plan plan.root place k)
    (shape_in table (root_shape plan) place (tree_of k)) (tree_at place (tree_of k))
along_open agree paths reached nodes {table} {plan} checked by k suits place reach =
    let first = root_shaped agree table by.root plan checked by.inside by.planned paths in
    let same : root_shape plan ≡ by.root.0 = shape_found first in
    subst (λ (s : ℕ). Along table plan (node_along plan plan.root place k) (shape_in table s place (tree_of k)) (tree_at place (tree_of k)))
    (sym same)
    (along_root agree table by.root plan checked by.inside by.planned reached nodes paths place k
    (subst (λ (s : ℕ). IsSuited table s (tree_of k)) same suits) reach)

-- so a place may be completed where none of its children is in a slot
pub may_complete : {table : Table} {plan : Plan} {s : ℕ} (found : Node) {tree : Tree} → Along table plan found.node s tree
    → own_tree found.body ≡ tree → IsClosed found.body → is_conversion_body found.body ≡ false → MayComplete table plan found
may_complete {table} {plan} {s} found shaped own closed plain = record {
  planned = is_there plan.nodes found.node.0 shaped.node_is.there;
  full =
      subst (λ (n : ℕ). IsFull table n found.body) (sym (shape_found shaped.node_is))
      (full_by table s found.body (subst (λ (t : Tree). Suits table s t) (sym own) shaped.suits));
  closed = closed;
  unconverted = plain;
}

pub shape_along : {table : Table} {plan : Plan} {node : NodeId} {s : ℕ} {tree : Tree} → Along table plan node s tree
    → shape_of plan node ≡ s
shape_along {plan} {node} {s} shaped = shape_found shaped.node_is
