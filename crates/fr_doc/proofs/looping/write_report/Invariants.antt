use Rattle.std.proofs.Common.{◌≤◌, length}
use Rattle.fr_doc.proofs.Moved.{IsWritten}
use Rattle.fr_doc.proofs.looping.write_report.Given as goal

abbrev pub invariant-loop-rest : goal.invariant-loop-rest
invariant-loop-rest g l = record {
  written : IsWritten (g.K.Sink.taken l.fn.sink) (g.K.Sink.taken l.sink) l.report l.rest;
  never_falls : g.K.Sink.faults l.fn.sink ≤ g.K.Sink.faults l.sink;
}

abbrev pub decreases-loop-rest : goal.decreases-loop-rest
decreases-loop-rest g l = length l.rest
