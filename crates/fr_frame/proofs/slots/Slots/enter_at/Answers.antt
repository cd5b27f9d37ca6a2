use Rattle.std.proofs.Common.{◌≡◌, option_map, sym, ◌∙◌, ap}
use Rattle.fr_frame.specs.Common.{Def, Heap, body_of, def_of, heap_of, held_by, links, shape_of, view}
use Rattle.fr_frame.specs.Bodies.{taken_over}
use Rattle.fr_values.specs.Cells.{held_value}
use Rattle.fr_frame.specs.Growing.{grown_above}
use Rattle.fr_frame.proofs.GrowLaws.{entered_here, taken_fresh, taken_value}
use Rattle.fr_frame.proofs.EnteredItems.{fresh_by}
use Rattle.fr_frame.proofs.slots.Slots.enter_at.Goals.{in-Some-held, in-None}
use Rattle.fr_frame.proofs.slots.Slots.enter_at.Goals as goal

pub returns-clause-entered : goal.returns-clause-entered
returns-clause-entered c =
    let def : Def = def_of c.args.table.now (shape_of c.args.plan.now c.args.node) in
    let grown : Heap = grown_above c.args.growth c.args.owner (heap_of c.args.self.now) in
    let same : heap_of c.vacant.new.self ≡ heap_of c.args.self.now = λ j n. c.in_ok-id.ensures.rest n j in
    let linked : heap_of c.take_in.new.self ≡ links c.args.owner c.in_ok-id.id.0 grown = (λ j n. c.in-Ok.ensures.linked n j)
    ∙ ap (λ (heap : Heap). links c.args.owner c.in_ok-id.id.0 (grown_above c.args.growth c.args.owner heap)) same in
    let held : option_map view c.in-Ok.held ≡ held_value (held_by grown c.args.owner) = c.in-Ok.ensures.held
    ∙ ap (λ (heap : Heap). held_value (held_by (grown_above c.args.growth c.args.owner heap) c.args.owner)) same in
    let body : body_of c.match-held.partial ≡ taken_over def (held_by grown c.args.owner)
    = elim c.match-held.branch [
      | in-Some-held w ↦ ap body_of w.partial-is ∙ taken_value def (held_by grown c.args.owner) (view w.in-Some-held.value)
          (sym (ap (option_map view) w.in-Some-held.is) ∙ held)
      | in-None w ↦ ap body_of w.partial-is
          ∙ fresh_by c.args.table.now c.args.plan.now c.args.node w.node.result.now (body_of w.fresh-partial.result) w.node.ensures.node
          w.fresh-partial.ensures ∙ taken_fresh def (held_by grown c.args.owner) (sym (ap (option_map view) w.in-None.is) ∙ held)
    ] in
    entered_here def (heap_of c.args.self.now) (heap_of c.take_in.new.self) c.args.node c.args.owner c.args.growth c.in-Some.depth
    (body_of c.match-held.partial) c.in_ok-id.id.0 c.occupy.new.self linked c.in-Some.ensures.depth body c.occupy.ensures.rest
