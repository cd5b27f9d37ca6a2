use Rattle.std.proofs.Common.{arith}
use Rattle.std.proofs.lemmas.List.{length-take}
use Rattle.std.proofs.lemmas.Result.{err_from_is_err_and}
use Rattle.fr_doc.proofs.Moved.{lost_with}
use Rattle.fr_doc.proofs.looping.read_up_to.Goals as goal

pub returns-in_err-read_piece-clause-err : goal.returns-in_err-read_piece-clause-err
returns-in_err-read_piece-clause-err g c =
    let p = err_from_is_err_and c.from_residual-in_err-read_piece.result c.from_residual-in_err-read_piece.ensures.1 in
    rw p.1 (lost_with _ _ c.loop-buffer.bytes.items _ _ _ c.loop-buffer.invariant.together c.in_err-read_piece.ensures.err (omega (arith, length-take c.min-most.result c.loop-buffer.buffer, c.loop-buffer.bytes.ok.0)))
