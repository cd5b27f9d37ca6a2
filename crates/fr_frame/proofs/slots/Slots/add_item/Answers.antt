use Rattle.std.proofs.Common.{◌≡◌, true, arith}
use Rattle.fr_frame.specs.Common.{Node, is_list_body}
use Rattle.fr_frame.proofs.AddItemLaws.{added_reserved, added_shows, added_tokens, list_in, refused_shows}
use Rattle.fr_frame.proofs.HandLaws.{in_use}
use Rattle.fr_frame.proofs.RawLaws.{used_inside}
use Rattle.fr_frame.proofs.slots.Slots.add_item.Goals as goal

pub get_mut-requires : goal.get_mut-requires
get_mut-requires c =
    let inside = used_inside c.self.inside.entries c.args.self.now c.args.list.0 c.self.view_is (in_use c.args.self.now c.args.list.0 (λ (at : Node). is_list_body at.body ≡ true) c.requires.list) in
    record { inside = omega (arith, c.idx.ensures.number) }

pub add_item_in-requires : goal.add_item_in-requires
add_item_in-requires c =
    list_in c.self.inside.entries c.args.self.now c.self.view_is c.args.list.0 c.idx.result c.get_mut.result.now c.idx.ensures.number
    c.requires.list c.get_mut.ensures.value

pub returns-clause-added : goal.returns-clause-added
returns-clause-added c =
    added_shows c.self.inside.entries c.args.self.now c.self.view_is c.args.list.0 c.idx.result c.get_mut.result.now
    c.idx.ensures.number c.requires.list c.get_mut.ensures.value c.add_item_in.new.slot c.args.item.0 c.requires.reserved
    c.add_item_in.result c.add_item_in.ensures.added c.add_item_in.ensures.refused

pub returns-clause-refused : goal.returns-clause-refused
returns-clause-refused c =
    refused_shows c.self.inside.entries c.args.self.now c.self.view_is c.args.list.0 c.idx.result c.get_mut.result.now
    c.idx.ensures.number c.requires.list c.get_mut.ensures.value c.add_item_in.new.slot c.args.item.0 c.requires.reserved
    c.add_item_in.result c.add_item_in.ensures.added c.add_item_in.ensures.refused

pub returns-clause-tokens : goal.returns-clause-tokens
returns-clause-tokens c =
    added_tokens c.self.inside.entries c.args.self.now c.self.view_is c.args.list.0 c.idx.result c.get_mut.result.now
    c.idx.ensures.number c.requires.list c.get_mut.ensures.value c.add_item_in.new.slot c.args.item.0 c.requires.reserved
    c.add_item_in.result c.add_item_in.ensures.added c.add_item_in.ensures.refused

pub returns-clause-reserved : goal.returns-clause-reserved
returns-clause-reserved c =
    added_reserved c.self.inside.entries c.args.self.now c.self.view_is c.args.list.0 c.idx.result c.get_mut.result.now
    c.idx.ensures.number c.requires.list c.get_mut.ensures.value c.add_item_in.new.slot c.args.item.0 c.requires.reserved
    c.add_item_in.result c.add_item_in.ensures.added c.add_item_in.ensures.refused
