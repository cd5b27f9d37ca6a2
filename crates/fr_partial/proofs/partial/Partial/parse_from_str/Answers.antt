use Rattle.std.proofs.Common.{refl, subst}
use Rattle.fr_partial.specs.Common.{Builder, Call}
use Rattle.fr_partial.specs.Builder.{site_of}
use Rattle.fr_work.specs.Deciding.{DecidesBy}
use Rattle.fr_partial.proofs.CallLaws.{nothing_spent}
use Rattle.fr_partial.proofs.partial.Partial.parse_from_str.Goals as goal

pub returns-clause-call : goal.returns-clause-call
returns-clause-call g c =
    let call = Call.ParseFromStr c.args.text.now in
    c.run.ensures.call call
    (subst (λ (b : Builder _). DecidesBy (g.H.Hooks.means b.hooks) (site_of b) call c.parse_move-decided.result) c.self.view_is
    c.parse_move-decided.ensures.decides) _ (nothing_spent call (λ t. refl) _ _)
