-- A server as a struct, and the table of it and of what it is made of.
use Rattle.std.specs.Prelude.{ℕ, List, ◌∷◌, [], codes}
use Rattle.fr_shape.specs.declared.shape.Def.{Def}
use Rattle.fr_shape.specs.declared.shape.ScalarKind.{ScalarKind}
use Rattle.fr_shape.specs.declared.shape.StructKind.{StructKind}
use Rattle.fr_shape.specs.declared.shape.Shape.{Shape}
use Rattle.fr_shape.specs.Describing.{list_shape, scalar_shape}
use Rattle.fr_shape.specs.Look.{Table}
use Rattle.fr_shape.specs.Plain.{plain_field, plain_shape}

-- the names of a server's fields, in this order
abbrev pub server_fields : List (List ℕ)
server_fields = codes "host" ∷ codes "ports" ∷ []

-- a struct of a host and of ports, in this order
abbrev pub server_shape : Shape
server_shape =
    plain_shape (codes "Server") (Def.Struct (record {
      kind = StructKind.Struct;
      fields = plain_field (codes "host") 0 ∷ plain_field (codes "ports") 2 ∷ [];
    }))

-- texts, ports, lists of ports, and servers
abbrev pub server_table : Table
server_table =
    scalar_shape ScalarKind.String ∷ scalar_shape ScalarKind.U16 ∷ list_shape (codes "Vec<u16>") (record { 0 = 1 }) ∷ server_shape ∷ []
