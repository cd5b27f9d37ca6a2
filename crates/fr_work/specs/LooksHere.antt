-- The place at which a builder works by itself: what is seen of it without its children.
use Rattle.std.specs.Prelude.{◌≡◌}
use Rattle.fr_shape.specs.declared.shape.ShapeId.{ShapeId}
use Rattle.fr_shape.specs.Look.{Table}
use Rattle.fr_model.specs.Tree.{Tree}
use Rattle.fr_refusals.specs.Looks.{LooksLike}
use Rattle.fr_moves.specs.Sites.{Site, shape_at, tree_at_site}

-- what is seen of the place at which a builder works: its table, the place's shape, and how it looks
pub record Sees (site : Site) (table : Table) (shape : ShapeId) (seen : Tree) : Type 0 where
  pub table_is : table ≡ site.shapes
  pub shape_is : shape.0 ≡ shape_at site
  pub looks : LooksLike seen (tree_at_site site)
