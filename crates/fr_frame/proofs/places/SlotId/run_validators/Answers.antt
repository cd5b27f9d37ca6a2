use Rattle.std.proofs.Common.{◌≡◌, None, sym, ◌∙◌}
use Rattle.std.proofs.lemmas.Result.{on_ok_weaker, IfErr-weaker}
use Rattle.fr_frame.specs.Common.{HasAllChildren, IsCauseOf, IsChecked, IsPlanFor, IsPlanned, MayComplete, Node, Table, heap_of, invalid, node_of, shape_of}
use Rattle.fr_frame.specs.OutlineLaws.{same_list}
use Rattle.fr_frame.proofs.OutlinedLaws.{found_same, of_outline, same_body}
use Rattle.fr_frame.proofs.HandLaws.{so_of}
use Rattle.fr_frame.proofs.ChangedPlaces.{of_node}
use Rattle.fr_frame.proofs.UnchangedPlaces.{list_valid}
use Rattle.fr_frame.proofs.places.SlotId.run_validators.Goals as goal

pub returns-then-is_list-clause-passing : goal.returns-then-is_list-clause-passing
returns-then-is_list-clause-passing g c =
    let means = g.H.Hooks.means c.args.hooks.now in
    let place = node_of c.in-Some.place.now in
    of_outline place (heap_of c.args.slots.now c.args.self.0)
    (λ (at : Node). (table : Table) → IsChecked table → IsPlanFor table c.args.plan.now → MayComplete table c.args.plan.now at
    → invalid means table (shape_of c.args.plan.now at.node) at.body ≡ None) c.in-Some.ensures.place
    (λ at there same table checked planned may. list_valid means table (shape_of c.args.plan.now at.node) at.body
    (sym (same_list _ at.body (same_body place at same)) ∙ sym c.is_list.ensures ∙ c.if-is_list.true))

pub test_valid-requires : goal.test_valid-requires
test_valid-requires g c =
    let found = heap_of c.args.slots.now c.args.self.0 in
    let place = node_of c.in-Some.place.now in
    let there = found_same place found c.in-Some.ensures.place (sym c.is_list.ensures ∙ c.if-is_list.false) in
    record {
      planned = so_of found place (λ (at : Node). IsPlanned c.args.plan.now at.node) there c.requires.planned;
      there = so_of found place (λ (at : Node). HasAllChildren at.body) there c.requires.full;
    }

pub returns-clause-passing : goal.returns-clause-passing
returns-clause-passing g c =
    let found = heap_of c.args.slots.now c.args.self.0 in
    let place = node_of c.in-Some.place.now in
    let there = found_same place found c.in-Some.ensures.place (sym c.is_list.ensures ∙ c.if-is_list.false) in
    on_ok_weaker c.test_valid.result (λ passing. of_node found place (λ (at : Node). (table : Table) → IsChecked table
    → IsPlanFor table c.args.plan.now → MayComplete table c.args.plan.now at
    → invalid (g.H.Hooks.means c.args.hooks.now) table (shape_of c.args.plan.now at.node) at.body ≡ None) there
    (λ table checked planned may. passing table checked planned may.unconverted)) c.test_valid.ensures.passing

pub returns-clause-failing : goal.returns-clause-failing
returns-clause-failing g c =
    let found = heap_of c.args.slots.now c.args.self.0 in
    let place = node_of c.in-Some.place.now in
    let there = found_same place found c.in-Some.ensures.place (sym c.is_list.ensures ∙ c.if-is_list.false) in
    IfErr-weaker c.test_valid.result _ _ (λ kind failing. of_node found place (λ (at : Node). (table : Table) → IsChecked table
    → IsPlanFor table c.args.plan.now → MayComplete table c.args.plan.now at
    → IsCauseOf (invalid (g.H.Hooks.means c.args.hooks.now) table (shape_of c.args.plan.now at.node) at.body) kind) there
    (λ table checked planned may. failing table checked planned may.unconverted)) c.test_valid.ensures.failing
