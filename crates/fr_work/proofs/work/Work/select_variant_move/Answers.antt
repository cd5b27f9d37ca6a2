use Rattle.std.proofs.Common.{ℤ, w64, refl, ◌∙◌, ap}
use Rattle.std.proofs.lemmas.Int.{to_z-of_z}
use Rattle.fr_work.specs.Common.{Call, def_of, shape_at, variant_told_by, variants_of}
use Rattle.fr_work.proofs.work.Work.select_variant_move.Goals as goal

pub returns : goal.returns
returns c = record {
  decides =
      c.select.ensures.decides c.args.self.now _ c.place.ensures.seen (Call.SelectVariant c.args.discriminant) (variant_told_by c.args.discriminant)
      (record { nothing = refl; means = λ hooks. refl }) (c.variant_told_by-found.ensures.number
      ∙ ap (λ (d : ℤ). variant_told_by d (variants_of (def_of c.args.self.now.shapes (shape_at c.args.self.now))))
      (to_z-of_z w64 c.args.discriminant c.ranges.discriminant));
}
