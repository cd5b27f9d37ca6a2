use Rattle.std.proofs.Common.{◌≡◌, Some, sym, ◌∙◌}
use Rattle.fr_frame.specs.Common.{IfInUse, Node, heap_of, is_list_body, true}
use Rattle.fr_frame.proofs.EnteredItems.{linked_in, unheld_in}
use Rattle.fr_frame.proofs.ChangedPlaces.{in_use_so}
use Rattle.fr_frame.proofs.slots.Slots.take_in.Goals as goal

pub returns-in_ok-add_item-in-Item-clause-linked : goal.returns-in_ok-add_item-in-Item-clause-linked
returns-in_ok-add_item-in-Item-clause-linked c n =
    let list : IfInUse c.args.self.now c.in-Child.parent.0 (λ (above : Node). is_list_body above.body ≡ true)
    = in_use_so c.args.self.now c.in-Child.parent.0 (λ (above : Node). c.is_list.result ≡ is_list_body above.body)
    (λ (above : Node). is_list_body above.body ≡ true) (λ above is. sym is ∙ c.if-is_list.true) c.is_list.ensures in
    c.in_ok-add_item-in-Item.ensures.added n
    ∙ (λ j. linked_in c.args.growth c.args.owner.now (heap_of c.args.self.now) c.in-Child.parent c.in-Child.field-1
    (c.in-Some.is ∙ (λ k. Some (c.in-Item.is k))) c.in-Child.is c.requires.may list c.args.id.0 j n)

pub returns-in_ok-add_item-in-Item-clause-held : goal.returns-in_ok-add_item-in-Item-clause-held
returns-in_ok-add_item-in-Item-clause-held c =
    let list : IfInUse c.args.self.now c.in-Child.parent.0 (λ (above : Node). is_list_body above.body ≡ true)
    = in_use_so c.args.self.now c.in-Child.parent.0 (λ (above : Node). c.is_list.result ≡ is_list_body above.body)
    (λ (above : Node). is_list_body above.body ≡ true) (λ above is. sym is ∙ c.if-is_list.true) c.is_list.ensures in
    unheld_in c.args.growth c.args.owner.now (heap_of c.args.self.now) c.in-Child.parent c.in-Child.field-1
    (c.in-Some.is ∙ (λ k. Some (c.in-Item.is k))) c.in-Child.is c.requires.may list
