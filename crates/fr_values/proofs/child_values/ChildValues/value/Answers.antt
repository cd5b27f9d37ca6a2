use Rattle.std.proofs.Common.{◌*◌, List, get_or, length, ap, arith, ◌∙◌}
use Rattle.fr_values.specs.Common.{Value, parts_of_entries}
use Rattle.fr_values.proofs.EntriesInTurn.{parts_count, part_behind, part_in}
use Rattle.fr_values.proofs.child_values.ChildValues.value.Goals as goal

pub returns-then-i-behind : goal.returns-then-i-behind
returns-then-i-behind c =
    let x = c.part_at.result.now in record {
      value =
          part_in c.self.inside.entries.items c.self.inside.values.items c.args.i x (omega arith)
          (c.part_at.ensures ∙ ap (λ (es : List (Value × Value)). get_or (parts_of_entries es) c.args.i x) c.as_slice.ensures.value)
          ∙ ap (λ (vs : List Value). get_or vs c.args.i x) c.self.view_is;
    }

pub index-requires : goal.index-requires
index-requires c =
    omega (arith, ap (λ vs. length vs) c.self.view_is, parts_count c.self.inside.entries.items c.self.inside.values.items)

pub returns : goal.returns
returns c =
    let x = c.index.result.now in record {
      value =
          part_behind c.self.inside.entries.items c.self.inside.values.items (2 * c.len-behind.result) c.args.i x (omega arith) (omega arith) c.index.ensures
          ∙ ap (λ (vs : List Value). get_or vs c.args.i x) c.self.view_is;
    }
