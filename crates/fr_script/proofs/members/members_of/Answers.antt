use Rattle.std.proofs.Common.{◌≡◌, Some, sym, ◌∙◌, rules}
use Rattle.serde_json.specs.Find.{as_object}
use Rattle.serde_json.specs.View.{view as data_of, members_view}
use Rattle.serde_json.specs.declared.value.Value.{the_lemmas as value_lemmas}
use Rattle.fr_script.proofs.MemberLaws.{no_members, all_members}
use Rattle.fr_script.proofs.members.members_of.Goals as goal

pub returns-then-not-has_only : goal.returns-then-not-has_only
returns-then-not-has_only c =
    let entries = members_view c.in-Object.members.entries in
    let object : as_object (data_of c.args.json.now) ≡ Some entries = rw c.in-Object.is (search (rules, value_lemmas)) in
    no_members (data_of c.args.json.now) entries object (sym c.has_only.ensures.only ∙ c.if-not-has_only.true)

pub returns : goal.returns
returns c =
    let entries = members_view c.in-Object.members.entries in
    let object : as_object (data_of c.args.json.now) ≡ Some entries = rw c.in-Object.is (search (rules, value_lemmas)) in
    all_members (data_of c.args.json.now) entries object (sym c.has_only.ensures.only ∙ c.if-not-has_only.false)
    (data_of c.in_ok-shapes.shapes.now) (data_of c.in_ok-root.root.now) (data_of c.in_ok-commands.commands.now)
    (sym c.in_ok-shapes.ensures) (sym c.in_ok-root.ensures) (sym c.in_ok-commands.ensures) _ c.get-4.ensures
