-- What is read at a place as an element of a Rust type.
use Rattle.std.specs.Prelude.{ℕ, Bool, false, Option, Some, None, nat_eq, if◌then◌else◌}
use Rattle.std.specs.Option.{option_and_then, option_map}
use Rattle.fr_shape.specs.Lists.{is_nil}
use Rattle.fr_shape.specs.Look.{Table}
use Rattle.fr_shape.specs.Tokens.{tokens}
use Rattle.fr_shape.specs.Val.{Val}
use Rattle.fr_shape.specs.View.{vals_of}
use Rattle.fr_shape.specs.declared.shape.Def.{Def}
use Rattle.fr_facet.specs.Facets.{first_own}
use Rattle.fr_model.specs.Complete.{made}
use Rattle.fr_model.specs.Tree.{Tree, hole, entered, whole, begun}
use Rattle.fr_work.specs.PlaceViews.{has_parts, whole_values}

-- The value that is seen where this stands: of a whole place its own; of one that is begun as a struct, an array, a variant, an option,
-- either side of a result or a pointer, and whose children are all whole, what these make.
abbrev pub value_seen : Tree → Option Val
value_seen hole = None
value_seen entered = None
value_seen (whole v) = Some v
value_seen (begun tracker ts) = if has_parts tracker then made tracker (option_map vals_of (whole_values ts)) else None

-- the value, where no token stands in it
abbrev pub tokenless : Val → Option Val
tokenless v = if is_nil (tokens v) then Some v else None

-- the value that is seen where this stands, where no token stands in it
abbrev pub copyable : Tree → Option Val
copyable tree = option_and_then tokenless (value_seen tree)

-- the shape of this number is the one that was found
abbrev pub is_found : Option ℕ → ℕ → Bool
is_found (Some own) s = nat_eq own s
is_found None s = false

-- What is read, as an element of the type with these own definitions, of a place of shape s where this stands: the value that is seen
-- there, where no token stands in it and s is the first shape of the table that is the type's own.
abbrev pub readable : (is_own : Table → Def → Bool) → Table → (s : ℕ) → Tree → Option Val
readable is_own table s tree = if is_found (first_own is_own table) s then copyable tree else None
