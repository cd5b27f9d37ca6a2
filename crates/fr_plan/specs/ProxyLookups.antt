-- Which of a node's proxies serves a format.
use Rattle.std.specs.Prelude.{ℕ, Bool, true, false, List, [], ◌∷◌, Option, Some, None, if◌then◌else◌}
use Rattle.std.specs.Str.{bytes_eq}
use Rattle.fr_plan.specs.declared.nodes.NodeId.{NodeId}
use Rattle.fr_plan.specs.declared.nodes.ProxyNodes.{ProxyNodes}

-- the node of the first entry of this format, else the one for all formats
abbrev pub node_among : List (List ℕ × NodeId) → (generic : Option NodeId) → List ℕ → Option NodeId
node_among [] generic format = generic
node_among (entry ∷ entries) generic format =
    if bytes_eq entry.0 format then Some entry.1 else node_among entries generic format

abbrev pub node_for : ProxyNodes → Option (List ℕ) → Option NodeId
node_for proxies (Some format) = node_among proxies.format_specific.items proxies.generic format
node_for proxies None = proxies.generic

-- there is a node, whatever its format
abbrev pub has_node : Option NodeId → List (List ℕ × NodeId) → Bool
has_node (Some node) by_format = true
has_node None [] = false
has_node None (entry ∷ entries) = true

abbrev pub has_any : ProxyNodes → Bool
has_any proxies = has_node proxies.generic proxies.format_specific.items
