use Rattle.std.proofs.Common.{sym, ap, ◌∙◌, subst, rules, SFits, w64}
use Rattle.std.proofs.lemmas.Int.{to_z-of_z}
use Rattle.fr_model.specs.Commands.{Call, call_of}
use Rattle.fr_partial.specs.Builder.{IsCall}
use Rattle.fr_script.proofs.building.call.Goals as goal

pub returns-in-SelectVariant : goal.returns-in-SelectVariant
returns-in-SelectVariant g c =
    let discriminant = c.in-SelectVariant.discriminant in
    let fits : SFits w64 discriminant = search rules in
    record {
      call =
          subst
          (λ (meant : Call). IsCall (g.H.Hooks.means c.args.partial.hooks) c.args.partial meant c.select_variant.result c.args.ledger.now c.select_variant.new.ledger)
          (ap Call.SelectVariant (to_z-of_z w64 discriminant fits) ∙ sym (ap call_of c.in-SelectVariant.is))
          c.select_variant.ensures.call;
    }
