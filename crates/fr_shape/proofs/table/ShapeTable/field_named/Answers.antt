use Rattle.std.proofs.Common.{sym}
use Rattle.fr_shape.proofs.FirstDeclared.{struct_field}
use Rattle.fr_shape.proofs.table.ShapeTable.field_named.Goals as goal

pub returns : goal.returns
returns c = record {
  field =
      struct_field c.args.self.now c.args.shape.0 c.in_ok-described.field-0.now c.in-Struct.described c.args.name.now _
      (sym c.in_ok-described.ensures.value) c.in-Struct.is (simp c.as_slice.ensures.items at c.first_declared.ensures);
}
