use Rattle.std.proofs.Common.{refl}
use Rattle.fr_work.specs.Common.{Call, variant_named}
use Rattle.fr_work.proofs.work.Work.select_variant_named_move.Goals as goal

pub returns : goal.returns
returns c = record {
  decides =
      c.select.ensures.decides c.args.self.now _ c.place.ensures.seen (Call.SelectVariantNamed c.args.name.now) (variant_named c.args.name.now)
      (record { nothing = refl; means = λ hooks. refl }) c.variant_named-found.ensures.number;
}
