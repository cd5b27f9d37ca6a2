use Rattle.std.proofs.Common.{length, ap, arith}
use Rattle.fr_work.specs.Common.{Parts}
use Rattle.fr_moves.specs.WorkLaws.{open_count}
use Rattle.fr_work.proofs.work.Work.frame_count.Goals as goal

pub returns : goal.returns
returns c = record {
  count =
      omega (
        arith,
        open_count c.self.invariant c.self.view_is,
        c.len.ensures.count,
        ap (λ (p : Parts). length p.frames.stack) c.deref.ensures,
        c.law_paths.ensures.deep c.args.self.now.state,
      );
}
