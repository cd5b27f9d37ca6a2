-- The nodes of a plan in the order in which they are built. A finished shape's node is shared. A shape that is being built
-- gets a node that refers back to its own. Otherwise the sources of the shape's proxies are built, then its children left
-- to right, and then its own node; so the root's is the last.
use Rattle.std.specs.Prelude.{ℕ, zero, suc, ◌+◌, false, List, [], ◌∷◌, ◌++◌, length, replicate, slice_get, slice_set, Option, Some, None, is_some, Result, Ok, Err}
use Rattle.fr_shape.specs.declared.shape.Shape.{Shape}
use Rattle.fr_shape.specs.declared.shape.ShapeId.{ShapeId}
use Rattle.fr_shape.specs.declared.shape.Def.{Def}
use Rattle.fr_shape.specs.declared.shape.Field.{Field}
use Rattle.fr_shape.specs.declared.shape.FieldRef.{FieldRef}
use Rattle.fr_shape.specs.declared.shape.VariantDef.{VariantDef}
use Rattle.fr_shape.specs.declared.error.AllocError.{AllocError}
use Rattle.fr_shape.specs.Look.{Table}
use Rattle.fr_shape.specs.Plannable.{own_sources, field_sources, children_by, refusal_of, own_refusal}
use Rattle.fr_plan.specs.declared.nodes.NodeId.{NodeId}
use Rattle.fr_plan.specs.declared.outlines.Outline.{Outline}
use Rattle.fr_plan.specs.declared.outlines.Role.{Role}
use Rattle.fr_plan.specs.declared.outlines.Mark.{Mark}
use Rattle.fr_plan.specs.declared.outlines.Walk.{Walk}

-- what was built, unless a shape was refused
abbrev pub Built : Type 0 → Type 0
Built X = Result X AllocError

abbrev pub and_then : {X Y : Type 0} → Built X → (X → Built Y) → Built Y
and_then (Ok built) go_on = go_on built
and_then (Err refused) go_on = Err refused

abbrev pub unless : {X : Type 0} → Option AllocError → X → Built X
unless (Some refused) built = Err refused
unless None built = Ok built

-- the walk after a shape was built, and the number of the shape's node
pub record Made : Type 0 where
  pub walk : Walk
  pub node : NodeId

-- the walk after several were built, and the numbers of their nodes
pub record MadeAll : Type 0 where
  pub walk : Walk
  pub nodes : List NodeId

abbrev pub none_yet : Walk → MadeAll
none_yet walk = record { walk = walk; nodes = [] }

abbrev pub with_one : MadeAll → Made → MadeAll
with_one made one = record { walk = one.walk; nodes = made.nodes ++ one.node ∷ [] }

-- puts a node behind the others
abbrev pub with_node : Walk → Outline → Made
with_node walk outline =
    record { walk = record walk { nodes = walk.nodes ++ outline ∷ [] }; node = record { 0 = length walk.nodes } }

abbrev pub with_shape_mark : Walk → ShapeId → Mark → Walk
with_shape_mark walk id mark = record walk { marks = slice_set walk.marks id.0 mark }

-- a node that refers back to the shape's own
abbrev pub back_reference : ShapeId → Outline
back_reference id = record { shape = id; role = Role.BackRef; sources = []; children = []; converts = false }

-- the shapes of a list, one after the other; `builds` builds one
abbrev pub each_built : (builds : Walk → ShapeId → Built Made) → MadeAll → List ShapeId → Built MadeAll
each_built builds made [] = Ok made
each_built builds made (id ∷ ids) = and_then (builds made.walk id) (λ one. each_built builds (with_one made one) ids)

-- a field, and the reference that tells it
pub record Placed : Type 0 where
  pub meant : FieldRef
  pub field : Field

-- the fields of a struct or of a variant, of which the first has the number i
abbrev pub fields_from : ShapeId → (variant : Option ℕ) → ℕ → List Field → List Placed
fields_from id variant i [] = []
fields_from id variant i (field ∷ fields) =
    record { meant = record { shape = id; variant = variant; index = i }; field = field }
    ∷ fields_from id variant (i + 1) fields

-- the fields of variants, of which the first has the number i
abbrev pub variant_fields_from : ShapeId → ℕ → List VariantDef → List Placed
variant_fields_from id i [] = []
variant_fields_from id i (variant ∷ variants) =
    fields_from id (Some i) 0 variant.fields ++ variant_fields_from id (i + 1) variants

-- the node of a field with proxies refers back to the own node of the field's shape, and comes behind it
abbrev pub behind_proxies : Placed → (sources : List NodeId) → Made → Built Made
behind_proxies placed [] own = Ok own
behind_proxies placed (source ∷ sources) own =
    Ok (with_node own.walk (record {
      shape = placed.field.shape;
      role = Role.FieldProxy placed.meant;
      sources = source ∷ sources;
      children = [];
      converts = false;
    }))

-- a field: the sources of its proxies, its shape, and the field's own node where it has proxies
unfoldable pub field_built : (builds : Walk → ShapeId → Built Made) → Walk → Placed → Built Made
field_built builds walk placed =
    and_then (each_built builds (none_yet walk) (field_sources placed.field)) (λ sources.
    and_then (builds sources.walk placed.field.shape) (λ own. behind_proxies placed sources.nodes own))

abbrev pub fields_built : (builds : Walk → ShapeId → Built Made) → MadeAll → List Placed → Built MadeAll
fields_built builds made [] = Ok made
fields_built builds made (placed ∷ fields) =
    and_then (field_built builds made.walk placed) (λ one. fields_built builds (with_one made one) fields)

-- the children of a shape, left to right: the fields of a struct or of an enum's variants, else the shapes that it names
unfoldable pub children_built : (builds : Walk → ShapeId → Built Made) → Walk → ShapeId → Def → Shape → Built MadeAll
children_built builds walk id (Def.Struct struct) shape =
    fields_built builds (none_yet walk) (fields_from id None 0 struct.fields)
children_built builds walk id (Def.Enum enumeration) shape =
    fields_built builds (none_yet walk) (variant_fields_from id 0 enumeration.variants)
children_built builds walk id def shape = each_built builds (none_yet walk) (children_by def shape)

abbrev pub done : ShapeId → Made → Made
done id made = record made { walk = with_shape_mark made.walk id (Mark.Done made.node) }

-- the shape's own node, behind all that were built for it; or the shape is refused
unfoldable pub finish : ShapeId → Shape → (sources : List NodeId) → (children : MadeAll) → Built Made
finish id shape sources children =
    unless (own_refusal id.0 (refusal_of shape)) (done id (with_node children.walk (record {
      shape = id;
      role = Role.Own;
      sources = sources;
      children = children.nodes;
      converts = is_some shape.convert;
    })))

-- a shape that was not met before: the sources of its proxies, its children, and its own node
unfoldable pub build_new : (builds : Walk → ShapeId → Built Made) → Walk → ShapeId → Option Shape → Built Made
build_new builds walk id None = Ok (with_node walk (back_reference id))
build_new builds walk id (Some shape) =
    and_then (each_built builds (none_yet (with_shape_mark walk id Mark.Building)) (own_sources shape)) (λ sources.
    and_then (children_built builds sources.walk id shape.def shape) (λ children. finish id shape sources.nodes children))

-- a shape, by how far it has come
abbrev pub build_by : Option Mark → (fresh : Walk → ShapeId → Built Made) → Walk → ShapeId → Built Made
build_by (Some (Mark.Done node)) fresh walk id = Ok (record { walk = walk; node = node })
build_by (Some Mark.Unseen) fresh walk id = fresh walk id
build_by (Some Mark.Building) fresh walk id = Ok (with_node walk (back_reference id))
build_by None fresh walk id = Ok (with_node walk (back_reference id))

-- a shape; `depth` bounds how far down the walk goes
abbrev pub build : Table → (depth : ℕ) → Walk → ShapeId → Built Made
build table zero walk id = Ok (with_node walk (back_reference id))
build table (suc depth) walk id =
    build_by (slice_get walk.marks id.0)
    (λ at new. build_new (λ then next. build table depth then next) at new (slice_get table new.0)) walk id

abbrev pub start_of : Table → Walk
start_of table = record { nodes = []; marks = replicate (length table) Mark.Unseen }

-- the whole plan of a root (no way down is longer than the table has shapes)
abbrev pub planned : Table → ShapeId → Built Made
planned table root = build table (suc (length table)) (start_of table) root
