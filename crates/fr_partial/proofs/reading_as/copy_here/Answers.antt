use Rattle.std.proofs.Common.{◌≡◌, IfSome, List, Option, ap, is_some, map, subst, sym, ◌∙◌}
use Rattle.fr_shape.specs.View.{view}
use Rattle.fr_model.proofs.Basis.{suits_at}
use Rattle.fr_partial.specs.Common.{Suits, Value, as_tracker, body_of, shape_at}
use Rattle.fr_moves.specs.Sites.{tree_at_site}
use Rattle.fr_partial.proofs.ReadingAsLaws.{BegunHere, begun_here, one_here, parts_copied, parts_held}
use Rattle.fr_partial.proofs.reading_as.copy_here.Goals as goal

pub made_of-requires-clause-one : goal.made_of-requires-clause-one
made_of-requires-clause-one c around =
    let site = c.args.work.now in
    let order = c.law_sound.ensures.in_order in
    let suits : Suits site.shapes (shape_at site) (tree_at_site site)
    = suits_at site.state.mode site.shapes site.root site.state.cursor site.state.tree order.leads order.suits in
    let at : BegunHere (as_tracker c.in-Begun.tracker) (tree_at_site site) c.in-Some.seen.children
    = begun_here (shape_at site) (tree_at_site site) c.in-Some.seen (as_tracker c.in-Begun.tracker) c.in-Begun.field-1 (body_of c.place.result.2.now)
    (ap body_of c.in-Begun.is) c.place.ensures.seen.looks c.in-Some.ensures.view in
    let same : map view c.in-Some-2.values ≡ c.in-Some.seen.children
    = subst (λ (found : Option (List Value)). IfSome found (λ values. map view values ≡ c.in-Some.seen.children)) c.in-Some-2.is
    c.in_ok-values-in-Begun.ensures.copies in
    one_here site.shapes (shape_at site) (tree_at_site site) (as_tracker c.in-Begun.tracker) c.in-Some.seen.children at suits
    c.in-Some-2.values same around

pub returns-in_ok-made_of-in-Some-2 : goal.returns-in_ok-made_of-in-Some-2
returns-in_ok-made_of-in-Some-2 c =
    let site = c.args.work.now in
    let order = c.law_sound.ensures.in_order in
    let suits : Suits site.shapes (shape_at site) (tree_at_site site)
    = suits_at site.state.mode site.shapes site.root site.state.cursor site.state.tree order.leads order.suits in
    let at : BegunHere (as_tracker c.in-Begun.tracker) (tree_at_site site) c.in-Some.seen.children
    = begun_here (shape_at site) (tree_at_site site) c.in-Some.seen (as_tracker c.in-Begun.tracker) c.in-Begun.field-1 (body_of c.place.result.2.now)
    (ap body_of c.in-Begun.is) c.place.ensures.seen.looks c.in-Some.ensures.view in
    let same : map view c.in-Some-2.values ≡ c.in-Some.seen.children
    = subst (λ (found : Option (List Value)). IfSome found (λ values. map view values ≡ c.in-Some.seen.children)) c.in-Some-2.is
    c.in_ok-values-in-Begun.ensures.copies in
    record {
      copy =
          parts_copied site.shapes (shape_at site) (tree_at_site site) (as_tracker c.in-Begun.tracker) c.in-Some.seen.children at suits
          c.in-Some-2.values (view c.in_ok-made_of-in-Some-2.field-0) same
          (ap is_some (sym c.in-Some-2.is) ∙ c.in_ok-values-in-Begun.ensures.tokenless) c.in_ok-made_of-in-Some-2.ensures;
    }

pub returns-in-None : goal.returns-in-None
returns-in-None c =
    let site = c.args.work.now in
    let order = c.law_sound.ensures.in_order in
    let suits : Suits site.shapes (shape_at site) (tree_at_site site)
    = suits_at site.state.mode site.shapes site.root site.state.cursor site.state.tree order.leads order.suits in
    let at : BegunHere (as_tracker c.in-Begun.tracker) (tree_at_site site) c.in-Some.seen.children
    = begun_here (shape_at site) (tree_at_site site) c.in-Some.seen (as_tracker c.in-Begun.tracker) c.in-Begun.field-1 (body_of c.place.result.2.now)
    (ap body_of c.in-Begun.is) c.place.ensures.seen.looks c.in-Some.ensures.view in
    record {
      copy =
          parts_held site.shapes (shape_at site) (tree_at_site site) (as_tracker c.in-Begun.tracker) c.in-Some.seen.children at suits
          (ap is_some (sym c.in-None.is) ∙ c.in_ok-values-in-Begun.ensures.tokenless);
    }
