use Rattle.std.proofs.Common.{◌≡◌, length}
use Rattle.fr_facet.proofs.StructsInStep.{IsSoFar}
use Rattle.fr_facet.proofs.structs.are_fields.Given as goal

-- what is left of both decides
abbrev pub invariant-loop-i : goal.invariant-loop-i
invariant-loop-i l = record {
  as_many : length l.fields ≡ length l.wanted;
  so_far : IsSoFar l.wanted l.fields l.i;
}
