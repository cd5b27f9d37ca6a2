-- The code of tables: a table is stored shape by shape.
use Rattle.std.specs.Coded.{Coded, coded_list}
use Rattle.fr_shape.specs.contracts.shape.Shape as shape
use Rattle.fr_shape.specs.Look.{Table}

abbrev pub table_code : Coded Table
table_code = coded_list shape.the_row.coded
