use Rattle.std.proofs.Common.{refl}
use Rattle.fr_partial.specs.Common.{Call}
use Rattle.fr_partial.proofs.CallLaws.{called, meant_of}
use Rattle.fr_partial.proofs.partial.Partial.init_set.Goals as goal

pub run-requires-clause-meant : goal.run-requires-clause-meant
run-requires-clause-meant g c = meant_of c.self.view_is Call.InitSet _ c.init_set_move-decided.ensures.decides

pub returns-clause-call : goal.returns-clause-call
returns-clause-call g c = called c.self.view_is Call.InitSet _ c.init_set_move-decided.ensures.decides _ (λ t. refl) _ c.run.ensures.call
