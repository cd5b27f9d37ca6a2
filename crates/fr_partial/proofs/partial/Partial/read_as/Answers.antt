use Rattle.std.proofs.Common.{◌≡◌, Some, ap, option_map, sym, true, ◌∙◌}
use Rattle.fr_facet.specs.Facets.{first_own}
use Rattle.fr_model.specs.Tree.{cursor_tree}
use Rattle.fr_shape.specs.View.{view}
use Rattle.fr_partial.specs.Builder.{Builder, here}
use Rattle.fr_partial.specs.ReadAs.{copyable, is_found}
use Rattle.fr_partial.proofs.ReadingAsLaws.{copy_fits, copy_released, never_mismatched, own_is, room_for_copy}
use Rattle.fr_partial.proofs.partial.Partial.read_as.Goals as goal

pub from_value-requires : goal.from_value-requires
from_value-requires g c =
    let copied : Some (view c.in-Some.copy) ≡ copyable (cursor_tree c.args.self.now.state)
    = ap (option_map view) (sym c.in-Some.is) ∙ c.in_ok-copy.ensures.copy ∙ ap (λ (b : Builder _). copyable (cursor_tree b.state)) c.self.view_is in
    record { room = room_for_copy c.args.self.now.state (view c.in-Some.copy) copied c.args.ledger.now }

pub unreachable-requires : goal.unreachable-requires
unreachable-requires g c =
    let table = c.args.self.now.shapes in
    let v = view c.in-Some.copy in
    let copied : Some v ≡ copyable (cursor_tree c.args.self.now.state)
    = ap (option_map view) (sym c.in-Some.is) ∙ c.in_ok-copy.ensures.copy ∙ ap (λ (b : Builder _). copyable (cursor_tree b.state)) c.self.view_is in
    let found : is_found (first_own g.T.Facet.is_own table) (here c.args.self.now) ≡ true = cc in
    never_mismatched _ (g.T.Facet.takes v) c.in-Err-Mismatch.field-0
    (copy_fits c.args.self.now.state v copied table c.args.self.now.root c.law_in_order.ensures.in_order)
    (c.law_facet.ensures.taken_fit table (here c.args.self.now) (own_is _ _ found) v) c.in-Err-Mismatch.field-0-is
    c.in-Err-Mismatch.ensures.read

pub returns-in-Err-OutOfMemory-clause-unreleased : goal.returns-in-Err-OutOfMemory-clause-unreleased
returns-in-Err-OutOfMemory-clause-unreleased g c =
    let copied : Some (view c.in-Some.copy) ≡ copyable (cursor_tree c.args.self.now.state)
    = ap (option_map view) (sym c.in-Some.is) ∙ c.in_ok-copy.ensures.copy ∙ ap (λ (b : Builder _). copyable (cursor_tree b.state)) c.self.view_is in
    copy_released c.args.self.now.state (view c.in-Some.copy) copied c.args.ledger.now c.from_value.new.ledger
    c.in-Err-OutOfMemory.ensures.released
