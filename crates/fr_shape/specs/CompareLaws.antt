-- The order of values is a total order, and values are equal by it exactly where they are `same`.
use Rattle.std.specs.Prelude.{◌≡◌, ℕ, ℤ, pos, Bool, true, false, cond, List, [], ◌∷◌, refl}
use Rattle.std.proofs.Common.{sym, ap, ◌∙◌, subst}
use Rattle.std.specs.declared.cmp.Ordering.{Ordering}
use Rattle.std.specs.declared.cmp.Ordering.TheVariants.{Less, Equal, Greater}
use Rattle.std.specs.Ordering.{ordering_then, ordering_reverse, nat_cmp, int_cmp, bool_cmp}
use Rattle.std.specs.Cmp.{IsTotalOrder, nat_cmp_total, int_cmp_total, alike_right, on_total, then_flip}
use Rattle.std.specs.Cmp.Lexicographic.{slice_cmp, nat_list_cmp_total}
use Rattle.fr_shape.specs.Compare.{by_rank, by_dynamic_rank, compare, compare_all, compare_entries, compare_dynamic, compare_dynamics, compare_members}
use Rattle.fr_shape.specs.Val.{Val, Vals, Entries, unit, bool, char, int, nat, text, token, product, variant, none, some, ok, err, list_of, map_of, set_of, ptr, dyn, no_vals, first, no_entries, entry}
use Rattle.fr_shape.specs.Val.{Dynamic, Dynamics, Members, dyn_null, dyn_bool, dyn_int, dyn_nat, dyn_text, dyn_bytes, dyn_array, dyn_object, no_dynamics, first_dynamic, no_members, member}

-- Values as trees of one form: a place with a rank, a number, some numbers, and the places beneath it.
mutual
  data Node : Type 0 where
    node : ℕ → ℤ → List ℕ → Nodes → Node

  data Nodes : Type 0 where
    no_nodes : Nodes
    first_node : Node → Nodes → Nodes

abbrev mutual
  compare_node : Node → Node → Ordering
  compare_node (node r z bs ns) (node s y cs ms) =
      ordering_then (nat_cmp r s) (ordering_then (int_cmp z y) (ordering_then (slice_cmp nat_cmp bs cs) (compare_nodes ns ms)))

  compare_nodes : Nodes → Nodes → Ordering
  compare_nodes no_nodes no_nodes = Equal
  compare_nodes no_nodes (first_node m ms) = Less
  compare_nodes (first_node n ns) no_nodes = Greater
  compare_nodes (first_node n ns) (first_node m ms) = ordering_then (compare_node n m) (compare_nodes ns ms)

-- of three orders in a row, the third is the first two together
record IsChain (r s t : Ordering) : Type 0 where
  trans : r ≡ Less → s ≡ Less → t ≡ Less
  left : r ≡ Equal → t ≡ s
  right : s ≡ Equal → t ≡ r

chain_then : (r s t u v w : Ordering) → IsChain r s t → IsChain u v w → IsChain (ordering_then r u) (ordering_then s v) (ordering_then t w)
chain_then r s t u v w c d = record {
  trans = less r s refl refl;
  left = level r refl;
  right = level_right s refl;
}
  where
    less : (x y : Ordering) → r ≡ x → s ≡ y → ordering_then x u ≡ Less → ordering_then y v ≡ Less → ordering_then t w ≡ Less
    less Less Less p q h g = ap (λ o. ordering_then o w) (c.trans p q)
    less Less Equal p q h g = ap (λ o. ordering_then o w) (c.right q ∙ p)
    less Less Greater p q h g = absurd cc
    less Equal Less p q h g = ap (λ o. ordering_then o w) (c.left p ∙ q)
    less Equal Equal p q h g = ap (λ o. ordering_then o w) (c.left p ∙ q) ∙ d.trans h g
    less Equal Greater p q h g = absurd cc
    less Greater y p q h g = absurd cc

    level : (x : Ordering) → r ≡ x → ordering_then x u ≡ Equal → ordering_then t w ≡ ordering_then s v
    level Less p h = absurd cc
    level Equal p h = λ i. ordering_then (c.left p i) (d.left h i)
    level Greater p h = absurd cc

    level_right : (y : Ordering) → s ≡ y → ordering_then y v ≡ Equal → ordering_then t w ≡ ordering_then r u
    level_right Less q h = absurd cc
    level_right Equal q h = λ i. ordering_then (c.right q i) (d.right h i)
    level_right Greater q h = absurd cc

chain_total : {K : Type 0} {R : K → K → Ordering} → IsTotalOrder R → (x y z : K) → IsChain (R x y) (R y z) (R x z)
chain_total o x y z = record {
  trans = o.trans x y z;
  left = o.congr x y z;
  right = λ e. sym (alike_right o y z x e);
}

mutual
  node_antisymm : (a b : Node) → compare_node a b ≡ ordering_reverse (compare_node b a)
  node_antisymm (node r z bs ns) (node s y cs ms) =
      (λ i. ordering_then (nat_cmp_total.antisymm r s i) (ordering_then (int_cmp_total.antisymm z y i) (ordering_then (nat_list_cmp_total.antisymm bs cs i) (nodes_antisymm ns ms i))))
      ∙ ap (λ o. ordering_then (ordering_reverse (nat_cmp s r)) (ordering_then (ordering_reverse (int_cmp y z)) o)) (then_flip (slice_cmp nat_cmp cs bs) (compare_nodes ms ns))
      ∙ ap (λ o. ordering_then (ordering_reverse (nat_cmp s r)) o) (then_flip (int_cmp y z) (ordering_then (slice_cmp nat_cmp cs bs) (compare_nodes ms ns)))
      ∙ then_flip (nat_cmp s r) (ordering_then (int_cmp y z) (ordering_then (slice_cmp nat_cmp cs bs) (compare_nodes ms ns)))

  nodes_antisymm : (ns ms : Nodes) → compare_nodes ns ms ≡ ordering_reverse (compare_nodes ms ns)
  nodes_antisymm no_nodes no_nodes = refl
  nodes_antisymm no_nodes (first_node m ms) = refl
  nodes_antisymm (first_node n ns) no_nodes = refl
  nodes_antisymm (first_node n ns) (first_node m ms) =
      (λ i. ordering_then (node_antisymm n m i) (nodes_antisymm ns ms i)) ∙ then_flip (compare_node m n) (compare_nodes ms ns)

mutual
  node_chain : (a b c : Node) → IsChain (compare_node a b) (compare_node b c) (compare_node a c)
  node_chain (node r z bs ns) (node s y cs ms) (node t x ds ls) =
      chain_then _ _ _ _ _ _ (chain_total nat_cmp_total r s t)
      (chain_then _ _ _ _ _ _ (chain_total int_cmp_total z y x)
      (chain_then _ _ _ _ _ _ (chain_total nat_list_cmp_total bs cs ds) (nodes_chain ns ms ls)))

  nodes_chain : (ns ms ls : Nodes) → IsChain (compare_nodes ns ms) (compare_nodes ms ls) (compare_nodes ns ls)
  nodes_chain no_nodes no_nodes no_nodes = record { trans = λ p q. p; left = λ e. refl; right = λ e. refl }
  nodes_chain no_nodes no_nodes (first_node l ls) = record { trans = λ p q. q; left = λ e. refl; right = λ e. e }
  nodes_chain no_nodes (first_node m ms) no_nodes = record { trans = λ p q. absurd cc; left = λ e. absurd cc; right = λ e. absurd cc }
  nodes_chain no_nodes (first_node m ms) (first_node l ls) = record { trans = λ p q. refl; left = λ e. absurd cc; right = λ e. refl }
  nodes_chain (first_node n ns) no_nodes no_nodes = record { trans = λ p q. p; left = λ e. e; right = λ e. refl }
  nodes_chain (first_node n ns) no_nodes (first_node l ls) = record { trans = λ p q. absurd cc; left = λ e. absurd cc; right = λ e. absurd cc }
  nodes_chain (first_node n ns) (first_node m ms) no_nodes = record { trans = λ p q. absurd cc; left = λ e. refl; right = λ e. absurd cc }
  nodes_chain (first_node n ns) (first_node m ms) (first_node l ls) =
      chain_then _ _ _ _ _ _ (node_chain n m l) (nodes_chain ns ms ls)

node_total : IsTotalOrder compare_node
node_total = record {
  antisymm = node_antisymm;
  trans = λ a b c. (node_chain a b c).trans;
  congr = λ a b c. (node_chain a b c).left;
}

-- the tree of a value
abbrev leaf : ℕ → List ℕ → Node
leaf r bs = node r (pos 0) bs no_nodes

abbrev branch : ℕ → List ℕ → Nodes → Node
branch r bs ns = node r (pos 0) bs ns

abbrev one : Node → Nodes
one n = first_node n no_nodes

abbrev mutual
  dynamic_tree : Dynamic → Node
  dynamic_tree dyn_null = leaf 0 []
  dynamic_tree (dyn_bool b) = leaf 1 (cond b 1 0 ∷ [])
  dynamic_tree (dyn_int z) = node 2 z [] no_nodes
  dynamic_tree (dyn_nat n) = leaf 3 (n ∷ [])
  dynamic_tree (dyn_text t) = leaf 4 t
  dynamic_tree (dyn_bytes bs) = leaf 5 bs
  dynamic_tree (dyn_array ds) = branch 6 [] (dynamic_trees ds)
  dynamic_tree (dyn_object ms) = branch 7 [] (member_trees ms)

  dynamic_trees : Dynamics → Nodes
  dynamic_trees no_dynamics = no_nodes
  dynamic_trees (first_dynamic d ds) = first_node (dynamic_tree d) (dynamic_trees ds)

  member_trees : Members → Nodes
  member_trees no_members = no_nodes
  member_trees (member k d ms) = first_node (leaf 0 k) (first_node (dynamic_tree d) (member_trees ms))

abbrev mutual
  tree : Val → Node
  tree unit = leaf 0 []
  tree (bool b) = leaf 1 (cond b 1 0 ∷ [])
  tree (char c) = leaf 2 (c ∷ [])
  tree (int z) = node 3 z [] no_nodes
  tree (nat n) = leaf 4 (n ∷ [])
  tree (text t) = leaf 5 t
  tree (token t) = leaf 6 []
  tree (product vs) = branch 7 [] (trees vs)
  tree (variant i vs) = branch 8 (i ∷ []) (trees vs)
  tree none = leaf 9 []
  tree (some v) = branch 10 [] (one (tree v))
  tree (ok v) = branch 11 [] (one (tree v))
  tree (err v) = branch 12 [] (one (tree v))
  tree (list_of vs) = branch 13 [] (trees vs)
  tree (map_of es) = branch 14 [] (entry_trees es)
  tree (set_of vs) = branch 15 [] (trees vs)
  tree (ptr v) = branch 16 [] (one (tree v))
  tree (dyn d) = branch 17 [] (one (dynamic_tree d))

  trees : Vals → Nodes
  trees no_vals = no_nodes
  trees (first v vs) = first_node (tree v) (trees vs)

  entry_trees : Entries → Nodes
  entry_trees no_entries = no_nodes
  entry_trees (entry k v es) = first_node (tree k) (first_node (tree v) (entry_trees es))

then_equal : (o : Ordering) → o ≡ ordering_then o Equal
then_equal Less = refl
then_equal Equal = refl
then_equal Greater = refl

-- a number alone, and a text alone
one_number : (a b : ℕ) → nat_cmp a b ≡ ordering_then (slice_cmp nat_cmp (a ∷ []) (b ∷ [])) Equal
one_number a b = then_equal (nat_cmp a b) ∙ then_equal (ordering_then (nat_cmp a b) Equal)

one_boolean : (a b : Bool) → bool_cmp a b ≡ ordering_then (slice_cmp nat_cmp (cond a 1 0 ∷ []) (cond b 1 0 ∷ [])) Equal
one_boolean true true = refl
one_boolean true false = refl
one_boolean false true = refl
one_boolean false false = refl

mutual
  unfolding by_dynamic_rank

  dynamic_is : (d e : Dynamic) → compare_dynamic d e ≡ compare_node (dynamic_tree d) (dynamic_tree e)
  dynamic_is dyn_null dyn_null = refl
  dynamic_is (dyn_bool a) (dyn_bool b) = one_boolean a b
  dynamic_is (dyn_int a) (dyn_int b) = then_equal (int_cmp a b)
  dynamic_is (dyn_nat a) (dyn_nat b) = one_number a b
  dynamic_is (dyn_text a) (dyn_text b) = then_equal (slice_cmp nat_cmp a b)
  dynamic_is (dyn_bytes a) (dyn_bytes b) = then_equal (slice_cmp nat_cmp a b)
  dynamic_is (dyn_array ds) (dyn_array es) = dynamics_are ds es
  dynamic_is (dyn_object ms) (dyn_object ns) = members_are ms ns
  dynamic_is _ _ = refl

  dynamics_are : (ds es : Dynamics) → compare_dynamics ds es ≡ compare_nodes (dynamic_trees ds) (dynamic_trees es)
  dynamics_are no_dynamics no_dynamics = refl
  dynamics_are no_dynamics (first_dynamic e es) = refl
  dynamics_are (first_dynamic d ds) no_dynamics = refl
  dynamics_are (first_dynamic d ds) (first_dynamic e es) = λ i. ordering_then (dynamic_is d e i) (dynamics_are ds es i)

  members_are : (ms ns : Members) → compare_members ms ns ≡ compare_nodes (member_trees ms) (member_trees ns)
  members_are no_members no_members = refl
  members_are no_members (member l e ns) = refl
  members_are (member k d ms) no_members = refl
  members_are (member k d ms) (member l e ns) =
      λ i. ordering_then (then_equal (slice_cmp nat_cmp k l) i) (ordering_then (dynamic_is d e i) (members_are ms ns i))

mutual
  unfolding by_rank

  value_is : (v w : Val) → compare v w ≡ compare_node (tree v) (tree w)
  value_is unit unit = refl
  value_is (bool a) (bool b) = one_boolean a b
  value_is (char a) (char b) = one_number a b
  value_is (int a) (int b) = then_equal (int_cmp a b)
  value_is (nat a) (nat b) = one_number a b
  value_is (text a) (text b) = then_equal (slice_cmp nat_cmp a b)
  value_is (token a) (token b) = refl
  value_is (product vs) (product ws) = values_are vs ws
  value_is (variant i vs) (variant j ws) = λ k. ordering_then (then_equal (nat_cmp i j) k) (values_are vs ws k)
  value_is none none = refl
  value_is (some v) (some w) = value_is v w ∙ then_equal (compare_node (tree v) (tree w))
  value_is (ok v) (ok w) = value_is v w ∙ then_equal (compare_node (tree v) (tree w))
  value_is (err v) (err w) = value_is v w ∙ then_equal (compare_node (tree v) (tree w))
  value_is (list_of vs) (list_of ws) = values_are vs ws
  value_is (map_of es) (map_of fs) = entries_are es fs
  value_is (set_of vs) (set_of ws) = values_are vs ws
  value_is (ptr v) (ptr w) = value_is v w ∙ then_equal (compare_node (tree v) (tree w))
  value_is (dyn d) (dyn e) = dynamic_is d e ∙ then_equal (compare_node (dynamic_tree d) (dynamic_tree e))
  value_is _ _ = refl

  values_are : (vs ws : Vals) → compare_all vs ws ≡ compare_nodes (trees vs) (trees ws)
  values_are no_vals no_vals = refl
  values_are no_vals (first w ws) = refl
  values_are (first v vs) no_vals = refl
  values_are (first v vs) (first w ws) = λ i. ordering_then (value_is v w i) (values_are vs ws i)

  entries_are : (es fs : Entries) → compare_entries es fs ≡ compare_nodes (entry_trees es) (entry_trees fs)
  entries_are no_entries no_entries = refl
  entries_are no_entries (entry l w fs) = refl
  entries_are (entry k v es) no_entries = refl
  entries_are (entry k v es) (entry l w fs) =
      λ i. ordering_then (value_is k l i) (ordering_then (value_is v w i) (entries_are es fs i))

-- `compare` is a total order
pub compare_total : IsTotalOrder compare
compare_total = subst IsTotalOrder (λ i v w. sym (value_is v w) i) (on_total tree node_total)
