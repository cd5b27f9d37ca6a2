use Rattle.std.proofs.Common.{ap, ◌∙◌}
use Rattle.serde_json.specs.Data.{array}
use Rattle.fr_doc.proofs.Printing.{all_printed, printed_dyn, dyns_printed, printed_member, members_printed}
use Rattle.fr_doc.proofs.dyn_json.+print_dyn.Goals as goal

pub print_dyns-returns : goal.print_dyns-returns
print_dyns-returns t c =
    all_printed printed_dyn c.loop-value.items c.args.values.now _ c.loop-value.value-index c.loop-value-test.false c.loop-value.invariant c.as_slice-value-items.ensures.items ∙ ap array (dyns_printed c.args.values.now)

pub print_members-returns : goal.print_members-returns
print_members-returns t c =
    all_printed printed_member c.loop-key.items c.args.members.now _ c.loop-key.key-index c.loop-key-test.false c.loop-key.invariant c.as_slice-key-items.ensures.items ∙ ap array (members_printed c.args.members.now)
