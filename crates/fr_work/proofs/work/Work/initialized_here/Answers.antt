use Rattle.std.proofs.Common.{◌≡◌, ℕ, ◌∙◌, ap}
use Rattle.fr_work.specs.Common.{Site, body_of, site, top_tree}
use Rattle.fr_work.specs.PlaceViews.{initialized}
use Rattle.fr_moves.specs.Sites.{tree_at_site}
use Rattle.fr_work.proofs.ViewLaws.{seen_told}
use Rattle.fr_work.proofs.work.Work.initialized_here.Goals as goal
use Rattle.fr_work.proofs.work.Work.initialized_here.Goals.{After-deref-parts}

seen : (c : After-deref-parts) → site c.deref-parts.result.now ≡ c.args.self.now
seen c = ap site c.deref-parts.ensures ∙ c.self.view_is

pub returns : goal.returns
returns c =
    let at = (goal.at.returns c).After-deref-parts in
    record {
      view =
          c.view_of.ensures.view
          ∙ seen_told _ c.deref-parts.result.now.frames.slots (body_of c.told_here.result.1.now)
          (top_tree c.deref-parts.result.now.frames) c.told_here.ensures.says
          ∙ ap (λ (s : Site). initialized c.place.result.1.0 (tree_at_site s)) (seen at)
          ∙ ap (λ (s : ℕ). initialized s (tree_at_site c.args.self.now)) c.place.ensures.seen.shape_is;
    }
