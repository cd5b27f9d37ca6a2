use Rattle.std.proofs.Common.{refl, ◌∙◌, ap}
use Rattle.fr_work.specs.Common.{Call, Def, variants_of}
use Rattle.fr_model.specs.Variants.{variant_numbered}
use Rattle.fr_work.proofs.SeenLaws.{def_seen}
use Rattle.fr_work.proofs.work.Work.select_nth_variant_move.Goals as goal

pub returns : goal.returns
returns c = record {
  decides =
      c.select.ensures.decides c.args.self.now _ c.place.ensures.seen (Call.SelectNthVariant c.args.index) (variant_numbered c.args.index)
      (record { nothing = refl; means = λ hooks. refl }) (c.nth_variant-found.ensures.found
      ∙ ap (λ (def : Def). variant_numbered c.args.index (variants_of def)) (def_seen c.place.ensures.seen));
}
