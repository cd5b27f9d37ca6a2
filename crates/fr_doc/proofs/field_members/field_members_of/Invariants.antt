use Rattle.std.proofs.Common.{◌≡◌}
use Rattle.serde_json.specs.View.{view as data_of, members_view}
use Rattle.fr_doc.specs.FieldMembers.{parts_view, field_parts}
use Rattle.fr_doc.proofs.FieldParts.{with_left}
use Rattle.fr_doc.proofs.field_members.field_members_of.Given as goal

abbrev pub invariant-loop-key : goal.invariant-loop-key
invariant-loop-key l = with_left (parts_view l.found) (members_view l.key-iterator) ≡ field_parts (data_of l.json)
