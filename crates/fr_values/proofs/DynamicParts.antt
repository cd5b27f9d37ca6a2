-- Values that become parts of a dynamic value, and parts that become children, one after the other.
use Rattle.std.proofs.Common.{◌≡◌, ℕ, ◌+◌, ◌≤◌, List, [], ◌∷◌, ◌++◌, length, map, take, refl, sym, ap, ◌∙◌, arith}
use Rattle.std.proofs.lemmas.List.{append-nil, take_all}
use Rattle.fr_values.specs.Common.{Cell, Conserved, Dyn, Room, Room_fewer, Value, cells_of_vals, dyn, dyn_view, dynamic_in, element_vals, given, member_keys, member_vals, occurs, vals_occur, vals_view, view}
use Rattle.fr_shape.specs.TokenLaws.{Room_conserved}
use Rattle.fr_shape.specs.Val.{Dynamic, first_dynamic, member}
use Rattle.fr_shape.specs.View.{dynamics_of, dynamics_view, members_of, members_view}
use Rattle.fr_model.specs.Dynamics.{dynamics_in, members_in}

-- Parts

abbrev pub dynamic_of : Value → Dynamic
dynamic_of v = dynamic_in (view v)

-- each value under its name, as far as there are both
abbrev pub pairs_in : (keys : List (List ℕ)) → List Value → List (List ℕ × Dynamic)
pairs_in [] vs = []
pairs_in (key ∷ keys) [] = []
pairs_in (key ∷ keys) (v ∷ vs) = (key, dynamic_of v) ∷ pairs_in keys vs

pub elements_made : (vs : List Value) → dynamics_in (vals_view vs) ≡ dynamics_of (map dynamic_of vs)
elements_made [] = refl
elements_made (v ∷ vs) = ap (first_dynamic (dynamic_of v)) (elements_made vs)

pub members_made : (keys : List (List ℕ)) (vs : List Value) → members_in keys (vals_view vs) ≡ members_of (pairs_in keys vs)
members_made [] vs = refl
members_made (key ∷ keys) [] = refl
members_made (key ∷ keys) (v ∷ vs) = ap (member key (dynamic_of v)) (members_made keys vs)

pub pairs_none : (keys : List (List ℕ)) → pairs_in keys [] ≡ []
pairs_none [] = refl
pairs_none (key ∷ keys) = refl

-- all is made
pub made_all : {X Y : Type 0} (f : X → Y) (xs : List X) (rest all : List Y) → rest ≡ [] → map f xs ++ rest ≡ all → map f xs ≡ all
made_all f xs rest all none so = sym (append-nil (map f xs)) ∙ ap (λ l. map f xs ++ l) (sym none) ∙ so

-- the first of what is left was released
module _ (held : ℕ → ℕ) (before ledger : List ℕ) (x : Value) (xs ys : List Value) (is : xs ≡ x ∷ ys)
    (c : Conserved held before (vals_occur (vals_view xs)) ledger) where
  pub room_next : Room held before → Room (occurs (view x)) ledger
  room_next room =
      Room_fewer (occurs (view x)) (vals_occur (vals_view xs)) ledger
      (λ t. omega (arith, ap (λ l. vals_occur (vals_view l) t) is))
      (Room_conserved held before (vals_occur (vals_view xs)) ledger c room)

-- Children

abbrev pub element_cell : Dyn → Cell
element_cell d = given (dyn (dyn_view d))

abbrev pub member_cell : List ℕ × Dyn → Cell
member_cell m = given (dyn (dyn_view m.1))

pub element_cells : (ds : List Dyn) → cells_of_vals (element_vals (dynamics_view ds)) ≡ map element_cell ds
element_cells [] = refl
element_cells (d ∷ ds) = ap (λ (cs : List Cell). element_cell d ∷ cs) (element_cells ds)

pub member_cells : (ms : List (List ℕ × Dyn)) → cells_of_vals (member_vals (members_view ms)) ≡ map member_cell ms
member_cells [] = refl
member_cells (m ∷ ms) = ap (λ (cs : List Cell). member_cell m ∷ cs) (member_cells ms)

pub keys_viewed : (ms : List (List ℕ × Dyn)) → member_keys (members_view ms) ≡ map (λ m. m.0) ms
keys_viewed [] = refl
keys_viewed (m ∷ ms) = ap (λ keys. m.0 ∷ keys) (keys_viewed ms)

-- each child has its value
pub entered_all : {X : Type 0} (f : X → Cell) (cells : List Cell) (i : ℕ) (rest : List X) (all : List Cell) → rest ≡ []
    → length cells ≤ i → take i cells ++ map f rest ≡ all → cells ≡ all
entered_all f cells i rest all none h so =
    sym (take_all i cells h) ∙ sym (append-nil (take i cells)) ∙ ap (λ l. take i cells ++ map f l) (sym none) ∙ so
