use Rattle.std.proofs.Common.{◌≡◌, ℕ, ◌∙◌, ap}
use Rattle.fr_work.specs.Common.{Site, Table, body_of, site, top_tree}
use Rattle.fr_work.specs.Readings.{is_set_at}
use Rattle.fr_moves.specs.Sites.{tree_at_site}
use Rattle.fr_work.proofs.ToldLaws.{set_told}
use Rattle.fr_work.proofs.work.Work.is_field_set.Goals as goal
use Rattle.fr_work.proofs.work.Work.is_field_set.Goals.{After-deref-parts}

seen : (c : After-deref-parts) → site c.deref-parts.result.now ≡ c.args.self.now
seen c = ap site c.deref-parts.ensures ∙ c.self.view_is

pub returns : goal.returns
returns c =
    let at = (goal.at.returns c).After-deref-parts in
    record {
      set =
          c.is_set_at.ensures
          ∙ set_told c.place.result.0.now c.place.result.1.0 c.args.index c.deref-parts.result.now.frames.slots (body_of c.told_here.result.1.now)
          (top_tree c.deref-parts.result.now.frames) c.told_here.ensures.says
          ∙ ap (λ (s : Site). is_set_at c.place.result.0.now c.place.result.1.0 (tree_at_site s) c.args.index) (seen at)
          ∙ ap (λ (table : Table). is_set_at table c.place.result.1.0 (tree_at_site c.args.self.now) c.args.index)
          c.place.ensures.seen.table_is
          ∙ ap (λ (s : ℕ). is_set_at c.args.self.now.shapes s (tree_at_site c.args.self.now) c.args.index) c.place.ensures.seen.shape_is;
    }
