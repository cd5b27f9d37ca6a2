use Rattle.std.proofs.Common.{arith, rules}
use Rattle.std.proofs.lemmas.Result.{err_from_is_err_and}
use Rattle.std.proofs.lemmas.List.{take_rest}
use Rattle.fr_doc.proofs.Moved.{more_written, beginning_written}
use Rattle.fr_doc.proofs.looping.write_report.Goals as goal

pub returns-in_err-n-clause-err : goal.returns-in_err-n-clause-err
returns-in_err-n-clause-err g c =
    let p = err_from_is_err_and c.from_residual.result c.from_residual.ensures.1 in
    rw (p.1, c.in_err-n.ensures.bytes) (beginning_written _ _ _ _ c.loop-rest.invariant.written (search rules))

pub loop-rest-preserved : goal.loop-rest-preserved
loop-rest-preserved g c = record {
  written = rw take_rest (more_written _ _ _ _ _ c.in_ok-n.n c.loop-rest.invariant.written c.in_ok-n.ensures.bytes);
  never_falls = omega (arith, c.loop-rest.invariant.never_falls, c.write.ensures.never_falls);
}
