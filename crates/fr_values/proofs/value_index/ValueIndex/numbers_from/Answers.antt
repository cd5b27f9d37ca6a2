use Rattle.std.proofs.Common.{◌≡◌, ◌<◌, ◌++◌, ◌-◌, [], length, drop, get_or, ◌∙◌, arith}
use Rattle.std.proofs.lemmas.List.{length-map}
use Rattle.fr_values.specs.Common.{joined, numbers_from, runs_of}
use Rattle.fr_values.proofs.Indexed.{read_map, row_more, joined_more}
use Rattle.fr_values.proofs.value_index.ValueIndex.numbers_from.Goals as goal

pub loop-number-preserved : goal.loop-number-preserved
loop-number-preserved c =
    let inv = c.loop-number.invariant in record {
      behind = omega (arith, inv.behind);
      pushed = row_more c.args.self.now.len c.loop-number.number c.loop-number.numbers.items c.push.new.self.items inv.behind
          c.in_ok-push.ensures.items inv.pushed;
    }

pub loop-i-preserved : goal.loop-i-preserved
loop-i-preserved c =
    let self = c.args.self.now in
    let i = c.loop-i.i in
    let h : i < length self.runs.items = omega arith in
    let is : c.as_slice.result.now ≡ get_or (runs_of self) i [] =
    c.as_slice.ensures.value ∙ read_map (λ run. run.items) self.runs.items i c.index.result.now [] h c.index.ensures in
    joined_more (runs_of self) i c.as_slice.result.now c.loop-i.numbers.items c.extend_from_slice.new.self.items
    (numbers_from self.len (c.args.end - self.len) ++ joined (drop c.args.from (runs_of self)))
    (omega (arith, h, length-map self.runs.items (λ run. run.items))) is c.in_ok-extend_from_slice.ensures.items c.loop-i.invariant
