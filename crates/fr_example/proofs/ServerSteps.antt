-- How a server is built: the state of its builder after each of its calls, and what is built in the end.
use Rattle.std.proofs.Common.{◌≡◌, ℕ, List, [], ◌∷◌, None, Ok, Err, refl}
use Rattle.std.specs.Prelude.{codes}
use Rattle.fr_shape.specs.declared.error.ReflectErrorKind.{ReflectErrorKind}
use Rattle.fr_shape.specs.Hooks.{Meanings}
use Rattle.fr_shape.specs.Val.{Val, nat, text, product, list_of, first, no_vals}
use Rattle.fr_model.specs.Commands.{Call}
use Rattle.fr_model.specs.Paths.{path_of}
use Rattle.fr_model.specs.Run.{alloc_refusal}
use Rattle.fr_model.specs.Sequences.{AllLeadTo}
use Rattle.fr_model.specs.Step.{step, build}
use Rattle.fr_model.specs.Trackers.{as_fields, as_items, ItemsKind}
use Rattle.fr_model.specs.Tree.{State, Tree, hole, entered, whole, begun, no_trees, branch, strict, initial, tree_occurs}
use Rattle.fr_partial.specs.Spots.{set_at}
use Rattle.fr_example.specs.Servers.{server_table}
use Rattle.fr_example.specs.Unbuilt.{host_field}

-- States

-- a struct of which this stands in the second field and nothing in the first, with the cursor at a place of it
abbrev pub with_ports : Tree → (cursor : List ℕ) → (calls : ℕ) → State
with_ports ports cursor calls = record {
  tree = begun (as_fields None) (branch hole (branch ports no_trees));
  cursor = cursor;
  mode = strict;
  calls = calls;
}

-- the ports are entered
abbrev pub at_ports : State
at_ports = with_ports entered (1 ∷ []) 1

-- their list is begun
abbrev pub list_begun : State
list_begun = with_ports (begun (as_items ItemsKind.List) no_trees) (1 ∷ []) 2

-- one port stands in it
abbrev pub one_listed : (port : ℕ) → State
one_listed port = with_ports (begun (as_items ItemsKind.List) (branch (whole (nat port)) no_trees)) (1 ∷ []) 5

-- and one more
abbrev pub both_listed : (port other : ℕ) → State
both_listed port other =
    with_ports (begun (as_items ItemsKind.List) (branch (whole (nat port)) (branch (whole (nat other)) no_trees))) (1 ∷ []) 8

-- a list of two ports
abbrev pub ports_value : (port other : ℕ) → Val
ports_value port other = list_of (first (nat port) (first (nat other) no_vals))

-- the list is left
abbrev pub listed : (port other : ℕ) → State
listed port other = with_ports (whole (ports_value port other)) [] 9

-- the host is put
abbrev pub hosted : (host : List ℕ) → (port other : ℕ) → State
hosted host port other = record {
  tree = begun (as_fields None) (branch (whole (text host)) (branch (whole (ports_value port other)) no_trees));
  cursor = [];
  mode = strict;
  calls = 12;
}

-- Calls

pub planned : alloc_refusal server_table 3 ≡ None
planned = refl

module _ (hooks : Meanings) where
  pub enters_ports : step hooks server_table 3 (initial server_table 3) (Call.BeginField (codes "ports")) ≡ Ok at_ports
  enters_ports = refl

  pub begins_list : step hooks server_table 3 at_ports Call.InitList ≡ Ok list_begun
  begins_list = refl

  pub pushes_one : (port : ℕ) → AllLeadTo hooks server_table 3 list_begun (set_at Call.BeginListItem 1 (nat port)) (one_listed port)
  pushes_one port = refl

  pub pushes_other : (port other : ℕ)
      → AllLeadTo hooks server_table 3 (one_listed port) (set_at Call.BeginListItem 1 (nat other)) (both_listed port other)
  pushes_other port other = refl

  pub leaves_list : (port other : ℕ) → step hooks server_table 3 (both_listed port other) Call.End ≡ Ok (listed port other)
  leaves_list port other = refl

  pub puts_host : (host : List ℕ) (port other : ℕ)
      → AllLeadTo hooks server_table 3 (listed port other) (set_at (Call.BeginField (codes "host")) 0 (text host)) (hosted host port other)
  puts_host host port other = refl

  -- with its host the server is built
  pub builds : (host : List ℕ) (port other : ℕ)
      → build hooks server_table 3 (hosted host port other) ≡ Ok (product (first (text host) (first (ports_value port other) no_vals)))
  builds host port other = refl

  -- and without, the host is missed
  pub misses_host : (port other : ℕ)
      → build hooks server_table 3 (listed port other) ≡ Err (ReflectErrorKind.UninitializedField host_field)
  misses_host port other = refl

pub at_root : (port other : ℕ) → path_of (listed port other) ≡ []
at_root port other = refl

-- No token stands in any of these

pub none_initial : (t : ℕ) → tree_occurs (initial server_table 3).tree t ≡ 0
none_initial t = refl

pub none_at_ports : (t : ℕ) → tree_occurs at_ports.tree t ≡ 0
none_at_ports t = refl

pub none_hosted : (host : List ℕ) (port other t : ℕ) → tree_occurs (hosted host port other).tree t ≡ 0
none_hosted host port other t = refl
