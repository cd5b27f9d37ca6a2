-- How an `Items` of values holds them, so that a value may hold an `Items` of values.
-- Contracts see an `Items` as a list; in memory it is one `Vec`, whose own account is reused.
use Rattle.std.specs.Prelude.{◌≡◌, List, [], refl}
use mathlib.Core.Path.{sym}
use mathlib.Core.Former.{Former, this, list, via, children}
use base.Stored.{code_map}
use denote.RattleType.{RattleType}
use denote.HoleLaws.{Alike}
use denote.HolePlaces.{Recodes, struct_places, laid}
use denote.Hole.Carrier.{listed, list-listed}
use denote.Hole.Fix.{over}
use denote.Param.Weighed.{Weighed, w_list}
use denote.Model.Placed.{view_places}
use Rattle.std.specs.formers.vec.Vec as vec
use Rattle.std.specs.declared.alloc.Global.{Global}
use Rattle.std.specs.contracts.alloc.Global as global
use Rattle.std.specs.contracts.impls.GlobalAllocator.TheImpl.{ghosts}
use Rattle.fr_shape.specs.declared.items.Items.TheInside.{Inside}
use Rattle.fr_shape.specs.declared.items.Items.TheView.{view, invariant}
use Rattle.fr_shape.specs.contracts.items.Items as contract
use Rattle.fr_shape.specs.contracts.items.Items.TheInside as inside

-- its shape is the list of its elements' shapes
abbrev pub the_former : Former {0} → Former {0}
the_former element = list element

-- it is as deep as its deepest element
abbrev pub the_weighed : {element : Former {0}} → Weighed element → Weighed (the_former element)
the_weighed weight = w_list weight

pub the_empty : List ⊥
the_empty = []

abbrev pub the_items : (X : Type 0) → List X → List X
the_items X xs = xs

pub the_items_listed : (X : Type 0) (xs : List X) → listed _ (children (the_former this) X xs) ≡ the_items X xs
the_items_listed X xs = list-listed X xs

-- the record of its one field, which is a `Vec`
abbrev in_memory : Former {0}
in_memory =
    via (vec.the_former this Global) Inside
    (λ X fields. fields.items) (λ X v. record { items = v }) (λ X fields. refl) (λ X v. refl)

module _ (From To : RattleType) (along : From.Denot → To.Denot) where
  -- over either element type it lies and owns alike, the elements one by one
  pub the_places : Alike From To along
      → Alike (contract.the_row From) (contract.the_row To) ((the_former this).map From.Denot To.Denot along)
  the_places elements =
      view_places in_memory (list this) view (λ X Y f u. refl) (λ X u. refl)
      From.Denot To.Denot along (contract.the_row From).coded (contract.the_row To).coded
      (invariant From.Denot) (invariant To.Denot) (λ u p q. refl) (λ u p q. refl) (λ u e. tt) (λ u e. tt)
      (over (inside.the_row From)) (over (inside.the_row To))
      (struct_places (inside.the_type From) (inside.the_type To) (vec.mapped along, tt) _ (λ d. refl) refl
      (laid _ _ _ (vec.the_places global.the_row ghosts From To along elements), tt))

  -- and it has the same code
  pub the_codes_placed : Recodes From To along
      → Recodes (contract.the_row From) (contract.the_row To) ((the_former this).map From.Denot To.Denot along)
  the_codes_placed same xs = sym (code_map From.coded.code To.coded.code along (λ x. sym (same x)) xs)
