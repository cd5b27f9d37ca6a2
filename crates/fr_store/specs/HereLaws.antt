-- Laws of places none of whose children is in a slot, for proofs: what is put there, and what has a value.
use Rattle.std.proofs.Common.{◌≡◌, List, [], ◌∷◌, Some, refl, ap}
use Rattle.fr_store.specs.Below.{AreUnplaced, Body, Cell, IsClosed, Plot, Trees, Val, Vals, absent, begun, begun_body, body_in, branch, cells_in, entered_body, gone, hole, kids_in, own_tree, placed, plot_in, tree_in, trees_in, trees_of, value_of, values_of, whole, whole_body}
use Rattle.fr_values.specs.Cells.{given}
use Rattle.fr_store.specs.ValueLaws.{made_of, made_value, more_is}

-- Places none of whose children is in a slot.

abbrev pub closed_plot : Body → Plot
closed_plot body = plot_in (λ slot. gone) body

cells_back : (cells : List Cell) → AreUnplaced cells → cells_in (kids_in (λ slot. gone) cells) ≡ cells
cells_back [] closed = refl
cells_back (absent ∷ cells) closed = ap (λ (cs : List Cell). absent ∷ cs) (cells_back cells closed.1)
cells_back (given v ∷ cells) closed = ap (λ (cs : List Cell). given v ∷ cs) (cells_back cells closed.1)
cells_back (placed n ∷ cells) closed = absurd closed.0

pub body_back : (body : Body) → IsClosed body → body_in (closed_plot body) ≡ body
body_back entered_body closed = refl
body_back (whole_body v) closed = refl
body_back (begun_body tracker cells) closed = ap (begun_body tracker) (cells_back cells closed)

trees_back : (cells : List Cell) → trees_in (kids_in (λ slot. gone) cells) ≡ trees_of cells
trees_back [] = refl
trees_back (absent ∷ cells) = ap (λ (ts : Trees). branch hole ts) (trees_back cells)
trees_back (given v ∷ cells) = ap (λ (ts : Trees). branch (whole v) ts) (trees_back cells)
trees_back (placed n ∷ cells) = ap (λ (ts : Trees). branch hole ts) (trees_back cells)

pub tree_back : (body : Body) → tree_in (closed_plot body) ≡ own_tree body
tree_back entered_body = refl
tree_back (whole_body v) = refl
tree_back (begun_body tracker cells) = ap (λ (ts : Trees). begun tracker ts) (trees_back cells)

-- Places that have a value.

values_unplaced : (cells : List Cell) {vs : Vals} → values_of cells ≡ Some vs → AreUnplaced cells
values_unplaced [] e = tt
values_unplaced (given v ∷ cells) {vs} e =
    let rest = more_is v (values_of cells) e in
    (tt, values_unplaced cells rest.1)
values_unplaced (_ ∷ cells) e = absurd (cc)

pub value_closed : (body : Body) {v : Val} → value_of body ≡ Some v → IsClosed body
value_closed entered_body e = tt
value_closed (whole_body w) e = tt
value_closed (begun_body tracker cells) {v} e =
    let values = made_of tracker (values_of cells) (made_value tracker cells e) in
    values_unplaced cells values.1
