use Rattle.std.proofs.Common.{refl}
use Rattle.fr_partial.specs.Common.{Call}
use Rattle.fr_partial.proofs.CallLaws.{called, meant_of}
use Rattle.fr_partial.proofs.partial.Partial.begin_object_entry.Goals as goal

pub run-requires-clause-meant : goal.run-requires-clause-meant
run-requires-clause-meant g c = meant_of c.self.view_is (Call.BeginObjectEntry c.args.key.now) _ c.begin_object_entry_move-decided.ensures.decides

pub returns : goal.returns
returns g c = record { call = called c.self.view_is (Call.BeginObjectEntry c.args.key.now) _ c.begin_object_entry_move-decided.ensures.decides _ (λ t. refl) _ c.run.ensures.call }
